-- A part of a call that serves: what happened, what a crash leaves at each moment, and what is seen outside.
use Rattle.std.specs.Prelude.{◌≡◌, ◌≢◌, ◌⊎◌, ℕ, ◌+◌, Bool, true, IsTrue, List, [], ◌∷◌, length, Option}
use Rattle.std.specs.Io.KnownBytes.{Appends}
use Rattle.nuc_base.specs.Faults.{Rose}
use Rattle.nuc_base.specs.declared.status.Status.{Status}
use Rattle.nuc_base.specs.declared.status.Status.TheVariants as statuses
use Rattle.disk_model.specs.Disk.{Image, HasLeft}
use Rattle.disk_model.specs.declared.disk.Disk as a_disk
use Rattle.gate_log.specs.declared.journal.Journal as a_journal
use Rattle.edges.specs.declared.answered.Answered.{Answered}
use Rattle.edges.specs.declared.inbox.Inbox as an_inbox
use Rattle.edges.specs.declared.sink.Sink as a_sink
use Rattle.edges.specs.Pieces.{AppendsPrefix}
use Rattle.edges.specs.Waiting.{Waiting}
use Rattle.library_core.specs.declared.library.Library as a_library
use Rattle.device.specs.Devices.{Device}
use Rattle.device.specs.Lawful.{Run}
use Rattle.device.specs.Standing.{StandsFor}
use Rattle.deploy_state.specs.Turning.{plan_bytes, start_of}
use Rattle.records.specs.Stored.{Accepted, Plan, Record}
use Rattle.artifact_store.specs.Holding.{AllHoldDevice}
use Rattle.step_runner.specs.Entries.{HasGrownBy}
use Rattle.step_runner.specs.declared.entries.RunnerEntry.{RunnerEntry}
use Rattle.step_runner.specs.declared.runner.Runner as a_runner
use Rattle.histories.specs.Courses.{IsEnd}
use Rattle.histories.specs.Follows.{IsProper}
use Rattle.histories.specs.States.{SessionState, state_after}
use Rattle.histories.specs.TraceEvents.{TraceEvent, entries_of, records_of}
use Rattle.session_boots.specs.Ends.{StopsAt}
use Rattle.session_boots.specs.Traces.{StandsForMost, StandsForPrefix}
use Rattle.session.specs.Calls.{StandsWhole}
use Rattle.session.specs.Documents.{HasAcceptedTo}
use Rattle.session_serving.specs.Libraries.{LibraryState, library_state}
use Rattle.session_serving.specs.Rounds.{AreHandled, AreStarted, WaitingLeft, Handled, LastRound, Round, answered_by, lines_of_rounds, records_of_last}
use Rattle.session_serving.specs.Rounds.{records_of_rounds}
use Rattle.session_serving.specs.Rounds.{SaysLast, questions_of, questions_of_rounds, round_of_last, unprinted_of_last}

-- what is seen of the objects of a call at some moment; `faults` is the disk's count of them
pub record Outside (D : Type 0) : Type 0 where
  pub disk : D
  pub faults : ℕ
  pub list : Option (List RunnerEntry)
  pub held : Option (List ℕ)
  pub library : LibraryState
  pub answered : Answered
  pub waiting : Option Waiting

module _ {D K R L I : Type 0} (disk : a_disk.Ghosts D) (sink : a_sink.Ghosts K) (runner : a_runner.Ghosts R) (library : a_library.Ghosts L)
    (inbox : an_inbox.Ghosts I) where
  abbrev pub outside : D → K → R → L → I → Outside D
  outside d k r l i = record {
    disk = d;
    faults = disk.faults d;
    list = runner.list r;
    held = sink.held k;
    library = library_state library l;
    answered = inbox.answered i;
    waiting = inbox.waiting i;
  }

-- only the journal's own files matter to its entries
abbrev pub AreOfFiles : (List ℕ → Type 0) → (Image → List (List ℕ) → Type 0) → Type 0
AreOfFiles files entries = (a b : Image) (payloads : List (List ℕ)) → ((name : List ℕ) → files name → b name ≡ a name) → entries a payloads → entries b payloads

module _ {D J : Type 0} (disk : a_disk.Ghosts D) (journal : a_journal.Ghosts J) where
  -- each image that a crash may leave now stands for the device
  abbrev pub AllStandFor : D → Device → Type 0
  AllStandFor now d = (c : Image) → disk.may_leave now c → StandsFor journal.entries c d

  -- From a state on this happened, and the disk keeps it: at each moment each image stands for what a prefix of the records makes
  -- of the device, with all artifacts of that where those of the start had theirs.
  pub record HistoryKept (old new : D) (old_list new_list : Option (List RunnerEntry)) (p : SessionState) (h : List TraceEvent) : Type 0 where
    pub proper : IsProper p h
    pub run : Run p.device (records_of h) (state_after p h).device
    pub list : HasGrownBy old_list new_list (entries_of h)
    pub images : HasLeft disk.moment disk.left_since old new (StandsForPrefix journal.entries p.device (records_of h))
    pub whole : AllHoldDevice (disk.may_leave old) p.device → HasLeft disk.moment disk.left_since old new (StandsWhole journal.entries p.device (records_of h))

  -- where each image at the start has the artifacts of its device, each has those of the device at the end
  abbrev pub HoldsOn : D → D → SessionState → List TraceEvent → Type 0
  HoldsOn old new p h = AllHoldDevice (disk.may_leave old) p.device → AllHoldDevice (disk.may_leave new) (state_after p h).device

  -- so it is in a journal that stands in the image
  pub record StartsIn (image : Image) (d : Device) (start : ℕ → ℕ) : Type 0 where
    pub log : J
    pub payloads : List (List ℕ)
    pub stands : journal.stands log image payloads
    pub start_is : start ≡ start_of journal.end journal.number journal.turns log d

  -- where the disk tells, an image that a crash at some moment between these two may have left has such a journal
  abbrev pub IsStartShown : D → D → Device → (ℕ → ℕ) → Type 0
  IsStartShown old new d start = IsTrue disk.is_modelled → (c : Image) × disk.left_since new (disk.moment old) c × StartsIn c d start

  -- A plan that its records accept has its entry from there: at some moment between these two the live entries end behind it, unless the disk
  -- failed as that was added.
  abbrev pub HasEntryThere : D → D → Handled → Type 0
  HasEntryThere old new x = (plan : Plan) (rest : List Record) → x.records ≡ Accepted plan ∷ rest
      → ((rest ≡ []) × Rose x.disk_before x.disk_after)
      ⊎ HasAcceptedTo journal.entries disk.may_leave disk.moment disk.left_since old new x.device plan (x.start (plan_bytes plan) + 5 + plan_bytes plan)

  -- The journal from which this document went on is shown, and from there the entry of its plan.
  abbrev pub IsStarted : D → D → Handled → Type 0
  IsStarted old new x = IsStartShown old new x.device x.start × HasEntryThere old new x

  -- So many turns went by: one round each. All their lines are written, and the disk failed only in rounds whose line says that.
  pub record TurnsPassed (Clause : Handled → Type 0) (old new : Outside D) (p : SessionState) (h : List TraceEvent) (rounds : List Round) : Type 0 where
    pub goes : HistoryKept old.disk new.disk old.list new.list p h
    pub stands : AllStandFor new.disk (state_after p h).device
    pub holds : HoldsOn old.disk new.disk p h
    pub lines : Appends old.held new.held (lines_of_rounds rounds)
    pub records : records_of h ≡ records_of_rounds rounds
    pub asked : questions_of h ≡ questions_of_rounds rounds
    pub handled : AreHandled Clause p.device old.library old.faults rounds (state_after p h).device new.library new.faults
    pub answered : new.answered ≡ answered_by rounds old.answered
    pub given : WaitingLeft old.waiting new.waiting rounds
    pub turns : (state_after p h).turns + length rounds ≡ p.turns
    pub starts : AreStarted (IsStarted old.disk new.disk) rounds

  -- What may be known of the disk at the end: at most the last record is in doubt, and then nothing was done behind it but that
  -- children were killed.
  pub record IsSure (new : D) (p : SessionState) (h : List TraceEvent) : Type 0 where
    pub most : (c : Image) → disk.may_leave new c → StandsForMost journal.entries p.device (records_of h) c
    pub doubt : AllStandFor new (state_after p h).device ⊎ StopsAt h

  -- these lines are written, or where the sink failed a prefix of them
  pub record LinesWritten (old new : Option (List ℕ)) (status : Status) (lines : List ℕ) : Type 0 where
    pub prefix : AppendsPrefix old new lines
    pub all : status ≢ statuses.Edge → Appends old new lines

  -- A turn with which the call ends, as a session ends that answers this status: no child lives. Where the line of none of its records
  -- is missing the disk holds them all. It ends as one whose disk failed, and with the disk's status, only where the disk's count rose in
  -- it, and with another status than that and the edge's the count is as before.
  pub record CallEnded (Why : LastRound → Status → Outside D → Outside D → Device → Type 0) (old new : Outside D) (p : SessionState) (h : List TraceEvent)
      (last : LastRound) (status : Status) (rose : Bool) : Type 0 where
    pub goes : HistoryKept old.disk new.disk old.list new.list p h
    pub sure : IsSure new.disk p h
    pub stable : unprinted_of_last last ≡ [] → AllStandFor new.disk (state_after p h).device
    pub lines : List ℕ
    pub says : SaysLast last status lines
    pub writes : LinesWritten old.held new.held status lines
    pub records : records_of h ≡ records_of_last last
    pub why : Why last status old new p.device
    pub starts : AreStarted (IsStarted old.disk new.disk) (round_of_last last)
    pub failed : status ≡ statuses.Disk → Rose old.faults new.faults
    pub quiet : status ≢ statuses.Disk → status ≢ statuses.Edge → new.faults ≡ old.faults
    pub cause : rose ≡ true → Rose old.faults new.faults
    pub end : IsEnd (state_after p h) status rose
