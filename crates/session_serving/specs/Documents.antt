-- One document in a call that goes on behind it, or ends with it.
use Rattle.std.specs.Prelude.{◌≡◌, ◌≢◌, ◌⊎◌, ◌≤◌, ℕ, Bool, true, false, List, [], ◌++◌, length, Some, None, Result, ⊤}
use Rattle.std.specs.Prelude.{codes, option_map, if◌then◌else◌}
use Rattle.std.specs.Io.KnownBytes.{Appends}
use Rattle.nuc_base.specs.Faults.{Rose}
use Rattle.nuc_base.specs.declared.kinds.Outcome.{Outcome}
use Rattle.nuc_base.specs.declared.status.Status.{Status}
use Rattle.nuc_base.specs.declared.status.Status.TheVariants as statuses
use Rattle.disk_model.specs.declared.disk.Disk as a_disk
use Rattle.gate_log.specs.declared.journal.Journal as a_journal
use Rattle.edges.specs.Inboxes.{after_done}
use Rattle.edges.specs.Waiting.{without_first}
use Rattle.library_core.specs.Library.{Extends}
use Rattle.records.specs.Stored.{Record}
use Rattle.device.specs.Devices.{Device, IsRegularDevice}
use Rattle.records.specs.declared.record.Origin.{Origin}
use Rattle.records.specs.declared.record.Plan as code
use Rattle.admission.specs.Takes.{HasDiskFailed, HasLibraryFailed}
use Rattle.admission.specs.declared.fault.Declined.{Declined}
use Rattle.histories.specs.Courses.{IsEnd, is_restart}
use Rattle.histories.specs.States.{SessionState, state_after}
use Rattle.histories.specs.TraceEvents.{TraceEvent, records_of}
use Rattle.session_boots.specs.Booted.{AsksFor}
use Rattle.session_boots.specs.Lines.{lines_of}
use Rattle.session_boots.specs.declared.ends.Booted.TheVariants as booted
use Rattle.session_startup.specs.Ended.{ClosesAs}
use Rattle.session.specs.Calls.{IsPendingAs}
use Rattle.session.specs.Documents.{TakenEnding, TakesRead}
use Rattle.session.specs.Endings.{Ending, BySinkFault, ByClose, ByDecline, ByDiskFault, WantAfter, Full, Idle, ByReboot, ByRestart, WantBefore}
use Rattle.session.specs.Endings.{line_of_ending, status_of_ending}
use Rattle.session.specs.Parts.{EndsCall}
use Rattle.session.specs.declared.ran.Standing.{Standing}
use Rattle.session.specs.declared.ran.Standing.TheVariants as standings
use Rattle.session_serving.specs.Libraries.{IsRefreshedOnce}
use Rattle.session_serving.specs.Parts.{AllStandFor, HistoryKept, HoldsOn, IsStarted, IsSure, Outside, LinesWritten}
use Rattle.session_serving.specs.Rounds.{GoesOn, Handled, SaysStopped}

-- ---- what is said of it

-- that there was no memory, which a call that serves alone says
abbrev pub memory_line : List ℕ
memory_line = codes "fault 15 memory\n"

abbrev pub want_line : Status → List ℕ
want_line statuses.Memory = memory_line
want_line status = []

-- the line of its ending, and that there was no memory, where it ended so
abbrev pub served_line : Ending → List ℕ
served_line ending = line_of_ending ending ++ want_line (status_of_ending ending)

-- there was no memory for it: it comes back so, and nothing was deployed
abbrev pub found_no_memory : Status → Standing → Bool
found_no_memory statuses.Memory standings.AsBefore = true
found_no_memory status standing = false

abbrev pub no_memory_line : Status → Standing → List ℕ
no_memory_line status standing = if found_no_memory status standing then memory_line else []

-- ---- what is promised of one document

-- The last of the records is that the deployment closed so, and nothing is pending; or it asks for the restart or the reboot of the
-- pending deployment. Want of memory leaves no deployment unfinished, and where none was begun there is no record.
abbrev pub RecordsEnd : Ending → List Record → Device → Type 0
RecordsEnd (ByClose o) records d = ClosesAs o records × (d.pending ≡ None)
RecordsEnd (ByRestart id) records d = AsksFor booted.Restart records d × IsPendingAs id d
RecordsEnd (ByReboot id) records d = AsksFor booted.Reboot records d × IsPendingAs id d
RecordsEnd ByDiskFault records d = ⊤
RecordsEnd BySinkFault records d = ⊤
RecordsEnd WantAfter records d = (o : Outcome) × ClosesAs o records
RecordsEnd WantBefore records d = records ≡ []
RecordsEnd (ByDecline x) records d = records ≡ []
RecordsEnd (Full at) records d = records ≡ []
RecordsEnd Idle records d = records ≡ []

-- The library is refreshed once since the inbox gave the document. The document is taken in on the device of its turn or not, by the checks
-- in their order and by what the library tells behind it, which is what it told behind the refresh and perhaps its recipes; and what follows
-- is one deployment, as in a call of its own. Its lines are those of its records, where the disk failed perhaps without the last one's, and
-- that of its ending, which gives its status; want of memory is said too. The device's configurations are regular, as plans ask. It is
-- refused for the library only where the library's count rose, and for the disk, or given up since that failed, only where the disk's did.
pub record IsDeployedThere (x : Handled) : Type 0 where
  pub regular : IsRegularDevice x.device
  pub refreshed : IsRefreshedOnce x.before x.content x.after.coming
  pub extends : Extends x.content x.after.content
  pub taken : Result code.Plan Declined
  pub takes : (o : Origin) → x.device.origin ≡ Some o → TakesRead x.device o x.after.content x.before.faults x.after.faults x.bytes taken
  pub library_cause : HasLibraryFailed taken → Rose x.before.faults x.after.faults
  pub library_later : x.before.faults ≤ x.after.faults
  pub ending : Ending
  pub follows : TakenEnding x.start taken ending x.records
  pub ends : RecordsEnd ending x.records x.behind
  pub failed : ending ≡ ByDiskFault → Rose x.disk_before x.disk_after
  pub disk_cause : HasDiskFailed taken → Rose x.disk_before x.disk_after
  pub status : x.status ≡ status_of_ending ending
  pub split : x.records ≡ x.printed_records ++ x.unprinted_records
  pub few : length x.unprinted_records ≤ 1
  pub all : ending ≢ ByDiskFault → x.unprinted_records ≡ []
  pub lines : x.lines ≡ lines_of x.device x.printed_records ++ served_line ending

-- with its own status, by which the call ends, or a line could not be written
abbrev pub IsOwnOrEdge : Status → Status → Type 0
IsOwnOrEdge own status = ((status ≡ own) × EndsCall own) ⊎ (status ≡ statuses.Edge)

-- ---- in a part of a call

module _ {D J : Type 0} (disk : a_disk.Ghosts D) (journal : a_journal.Ghosts J) (Clause : Handled → Type 0) where
  -- what is known of it by what is seen before and behind it
  pub record IsOf (old new : Outside D) (p : SessionState) (h : List TraceEvent) (x : Handled) : Type 0 where
    pub records : records_of h ≡ x.records
    pub device : x.device ≡ p.device
    pub behind : x.behind ≡ (state_after p h).device
    pub before : x.before ≡ old.library
    pub after : x.after ≡ new.library
    pub disk_before : x.disk_before ≡ old.faults
    pub disk_after : x.disk_after ≡ new.faults
    pub clause : Clause x
    pub starts : IsStarted disk journal old.disk new.disk x

  -- It was handled, and the call goes on: `old` and `new` agree on the inbox. The disk's count changed only where its line says so.
  pub record IsHandled (old new : Outside D) (p : SessionState) (h : List TraceEvent) (x : Handled) : Type 0 where
    pub goes : HistoryKept disk journal old.disk new.disk old.list new.list p h
    pub stands : AllStandFor disk journal new.disk (state_after p h).device
    pub holds : HoldsOn disk journal old.disk new.disk p h
    pub lines : Appends old.held new.held x.lines
    pub is_of : IsOf old new p h x
    pub stays : GoesOn x
    pub turns : (state_after p h).turns ≡ p.turns

  -- it was, and is done
  pub record IsDone (old new : Outside D) (p : SessionState) (h : List TraceEvent) (x : Handled) : Type 0 where
    pub handled : IsHandled old new p h x
    pub answered : new.answered ≡ after_done old.answered
    pub given : new.waiting ≡ option_map without_first old.waiting

  -- Its handling ends the call. Want of memory alone does not.
  pub record IsEnded (old new : Outside D) (p : SessionState) (h : List TraceEvent) (x : Handled) (status : Status) (rose : Bool) : Type 0 where
    pub goes : HistoryKept disk journal old.disk new.disk old.list new.list p h
    pub sure : IsSure disk journal new.disk p h
    pub stable : x.unprinted_records ≡ [] → AllStandFor disk journal new.disk (state_after p h).device
    pub lines : List ℕ
    pub says : SaysStopped x status lines
    pub writes : LinesWritten disk journal old.held new.held status lines
    pub is_of : IsOf old new p h x
    pub with_status : IsOwnOrEdge x.status status
    pub memory : status ≢ statuses.Memory
    pub failed : status ≡ statuses.Disk → Rose old.faults new.faults
    pub quiet : status ≢ statuses.Disk → status ≢ statuses.Edge → new.faults ≡ old.faults
    pub cause : rose ≡ true → Rose old.faults new.faults
    pub end : IsEnd (state_after p h) status rose

  -- so it does; it is done where the call ends for a restart or a reboot, and not where the call gives up
  pub record IsLastDone (old new : Outside D) (p : SessionState) (h : List TraceEvent) (x : Handled) (status : Status) (rose : Bool) : Type 0 where
    pub ended : IsEnded old new p h x status rose
    pub answered : new.answered ≡ (if is_restart status then after_done old.answered else old.answered)
    pub given : new.waiting ≡ (if is_restart status then option_map without_first old.waiting else old.waiting)
