-- A whole call that serves.
use Rattle.std.specs.Prelude.{◌≡◌, ◌≢◌, ◌≤◌, ◌⊎◌, ℕ, ◌+◌, Bool, true, List, [], ◌++◌, length, None, codes, decimal}
use Rattle.std.specs.Io.KnownBytes.{Appends}
use Rattle.nuc_base.specs.Faults.{Rose}
use Rattle.nuc_base.specs.declared.kinds.Outcome.{Outcome}
use Rattle.nuc_base.specs.declared.status.Status.{Status}
use Rattle.nuc_base.specs.declared.status.Status.TheVariants as statuses
use Rattle.disk_model.specs.declared.disk.Disk as a_disk
use Rattle.gate_log.specs.declared.journal.Journal as a_journal
use Rattle.device.specs.Devices.{Device}
use Rattle.deploy_state.specs.States.{idle_device}
use Rattle.records.specs.Stored.{Record}
use Rattle.step_runner.specs.Entries.{Told}
use Rattle.components.specs.Components.{Components}
use Rattle.histories.specs.Courses.{IsEnd, gives_up}
use Rattle.histories.specs.Once.{TakesOnce}
use Rattle.histories.specs.States.{SessionState, state_after}
use Rattle.histories.specs.TraceEvents.{Answer, TraceEvent, records_of}
use Rattle.session_startup.specs.Ended.{ClosesAs}
use Rattle.session.specs.Calls.{QuitsAt, call_lines}
use Rattle.session.specs.Endings.{Ending, ByDiskFault, ResumeEnding, WantBefore, is_failing, status_of_ending}
use Rattle.session.specs.declared.ran.Ran.{Ran}
use Rattle.session.specs.declared.ran.Ran.TheVariants as ran
use Rattle.session_serving.specs.Documents.{IsOwnOrEdge, RecordsEnd}
use Rattle.session_serving.specs.Parts.{AllStandFor, HistoryKept, HoldsOn, IsStarted, IsSure, Outside, LinesWritten}
use Rattle.session_serving.specs.States.{IsUnopened}
use Rattle.session_serving.specs.Rounds.{AreHandled, AreStarted, WaitingLeft, Handled, LastRound, Round, Spent, Shut, answered_by, lines_of_rounds}
use Rattle.session_serving.specs.Rounds.{SaysLast, asked_of_last, questions_of, questions_of_rounds, records_of_last, records_of_rounds}
use Rattle.session_serving.specs.Rounds.{round_of_last, unprinted_of_last}
use Rattle.session_serving.specs.Turns.{AsksNone, EndsBy, SaysClosed}

-- the turns are over
abbrev pub ended_line : ℕ → List ℕ
ended_line turns = codes "ended 17 " ++ (decimal turns ++ codes "\n")

-- Why the call ends, and with which status: 17 exactly after so many questions, and 0 exactly where the inbox was closed, and then
-- nothing is pending. A line that could not be written gives 6.
abbrev pub EndsAs : (Handled → Type 0) → ℕ → {D : Type 0} → List Round → LastRound → Status → Outside D → Outside D → Device → Type 0
EndsAs Clause most rounds Spent status old new d =
    (length rounds ≡ most) × ((status ≡ statuses.TurnsOver) ⊎ (status ≡ statuses.Edge)) × AsksNone old new × (d.pending ≡ None)
EndsAs Clause most rounds Shut status old new d = (status ≡ statuses.Done) × SaysClosed old new × (d.pending ≡ None)
EndsAs Clause most rounds last status old new d = EndsBy Clause last status old new d

module _ {D J : Type 0} (disk : a_disk.Ghosts D) (journal : a_journal.Ghosts J) (Clause : Handled → Type 0) where
  -- From a state on, in which the set is to be brought up, to the end of the call. `to` is what is seen outside behind the last round
  -- that went by, and `behind` the device then. Behind that the disk's count rose where the call ends with the disk's status, or as one
  -- whose disk failed; and with another status than that and the edge's it did not change.
  pub record IsSetServed (most : ℕ) (old new : Outside D) (p : SessionState) (h : List TraceEvent) (status : Status) : Type 0 where
    pub goes : HistoryKept disk journal old.disk new.disk old.list new.list p h
    pub sure : IsSure disk journal new.disk p h
    pub rounds : List Round
    pub last : LastRound
    pub stable : unprinted_of_last last ≡ [] → AllStandFor disk journal new.disk (state_after p h).device
    pub to : Outside D
    pub behind : Device
    pub asked : length rounds + asked_of_last last ≤ most
    pub questions : (more : List Answer) × (questions_of h ≡ questions_of_rounds rounds ++ more)
    pub handled : AreHandled Clause p.device old.library old.faults rounds behind to.library to.faults
    pub answered : to.answered ≡ answered_by rounds old.answered
    pub given : WaitingLeft old.waiting to.waiting rounds
    pub starts : AreStarted (IsStarted disk journal old.disk new.disk) (rounds ++ round_of_last last)
    pub records : records_of h ≡ records_of_rounds rounds ++ records_of_last last
    pub ends : EndsAs Clause most rounds last status to new behind
    pub lines : List ℕ
    pub says : SaysLast last status lines
    pub writes : LinesWritten disk journal old.held new.held status (lines_of_rounds rounds ++ lines)
    pub spent : last ≡ Spent → lines ≡ ended_line most
    pub failed : status ≡ statuses.Disk → Rose to.faults new.faults
    pub quiet : status ≢ statuses.Disk → status ≢ statuses.Edge → new.faults ≡ to.faults
    pub rose : Bool
    pub cause : rose ≡ true → Rose to.faults new.faults
    pub end : IsEnd (state_after p h) status rose

-- the records are none, or the last of them is that a deployment closed
abbrev pub AreClosed : List Record → Type 0
AreClosed records = (records ≡ []) ⊎ ((o : Outcome) × ClosesAs o records)

-- ---- a pending deployment comes first

-- The pending deployment went on to this ending and left this device, and no plan was accepted. These are its lines, where the disk failed perhaps without the
-- last record's.
pub record IsPendingResumed (d : Device) (records : List Record) (behind : Device) (lines : List ℕ) (ending : Ending) : Type 0 where
  pub resumes : ResumeEnding d ending
  pub ends : RecordsEnd ending records behind
  pub once : TakesOnce true records
  pub printed_records : List Record
  pub rest : List Record
  pub split : records ≡ printed_records ++ rest
  pub few : length rest ≤ 1
  pub all : ending ≢ ByDiskFault → rest ≡ []
  pub lines_are : lines ≡ call_lines d printed_records ending

-- it did, or nothing was pending and nothing was done
abbrev pub IsResumedOrIdle : Device → List Record → Device → List ℕ → Ending → Type 0
IsResumedOrIdle d records behind lines ending =
    (d.pending ≢ None × IsPendingResumed d records behind lines ending) ⊎ ((d.pending ≡ None) × (records ≡ []) × (lines ≡ []))

module _ {D J : Type 0} (disk : a_disk.Ghosts D) (journal : a_journal.Ghosts J) where
  -- and the call goes on, with the deployment closed
  pub record IsFinished (old new : Outside D) (p : SessionState) (h : List TraceEvent) : Type 0 where
    pub goes : HistoryKept disk journal old.disk new.disk old.list new.list p h
    pub stands : AllStandFor disk journal new.disk (state_after p h).device
    pub holds : HoldsOn disk journal old.disk new.disk p h
    pub lines : List ℕ
    pub ending : Ending
    pub first : IsResumedOrIdle p.device (records_of h) (state_after p h).device lines ending
    pub closed : p.device.pending ≢ None → (o : Outcome) × ClosesAs o (records_of h)
    pub writes : Appends old.held new.held lines
    pub turns : (state_after p h).turns ≡ p.turns
    pub faults : new.faults ≡ old.faults

  -- Or it ends the call. For want of memory nothing of it is begun; and it ends for the disk only where the disk's count rose, which is as before
  -- with another status than the disk's and the edge's. Where the call gives up nothing is done behind the last record but that its children are killed.
  pub record IsHalted (old new : Outside D) (p : SessionState) (h : List TraceEvent) (status : Status) : Type 0 where
    pub goes : HistoryKept disk journal old.disk new.disk old.list new.list p h
    pub sure : IsSure disk journal new.disk p h
    pub lines : List ℕ
    pub ending : Ending
    pub first : IsPendingResumed p.device (records_of h) (state_after p h).device lines ending
    pub stable : first.rest ≡ [] → AllStandFor disk journal new.disk (state_after p h).device
    pub failed : ending ≡ ByDiskFault → Rose old.faults new.faults
    pub quiet : status ≢ statuses.Disk → status ≢ statuses.Edge → new.faults ≡ old.faults
    pub unbegun : ending ≡ WantBefore → h ≡ []
    pub with_status : IsOwnOrEdge (status_of_ending ending) status
    pub writes : LinesWritten disk journal old.held new.held status lines
    pub end : IsEnd (state_after p h) status (is_failing ending)
    pub quits : gives_up status ≡ true → QuitsAt h

  abbrev pub FinishLeft : Ran J → Outside D → Outside D → SessionState → List TraceEvent → Components → Told → List ℕ → Type 0
  FinishLeft (ran.Back s status standing) old new p h world told living =
      IsFinished old new p h × IsUnopened (state_after p h) (idle_device s) world told living
  FinishLeft (ran.Over status) old new p h world told living = IsHalted old new p h status

  -- A whole call: its pending deployment ends it, and the inbox is not asked; or that was finished, and the set is served. Want of
  -- memory leaves no deployment unfinished that was accepted or driven on in it.
  pub record IsWholeCall (Clause : Handled → Type 0) (most : ℕ) (old new : Outside D) (p : SessionState) (h : List TraceEvent) (status : Status) : Type 0 where
    pub goes : HistoryKept disk journal old.disk new.disk old.list new.list p h
    pub memory : status ≡ statuses.Memory → AreClosed (records_of h)
    pub parts : (IsHalted old new p h status × (new.answered ≡ old.answered) × (new.waiting ≡ old.waiting) × (new.library ≡ old.library))
        ⊎ ((before g : List TraceEvent) × (to : Outside D) × (h ≡ g ++ before) × (to.answered ≡ old.answered) × (to.waiting ≡ old.waiting)
        × (to.library ≡ old.library) × IsFinished old to p before × IsSetServed disk journal Clause most to new (state_after p before) g status)
