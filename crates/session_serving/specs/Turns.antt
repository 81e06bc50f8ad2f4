-- What the turns of a call that serves leave, and what each part of a turn does.
use Rattle.std.specs.Prelude.{◌≡◌, ◌≢◌, ◌≤◌, ◌⊎◌, ℕ, ◌+◌, Bool, false, List, [], ◌∷◌, ◌++◌, length, IfSome, ⊤}
use Rattle.std.specs.Prelude.{option_map, if◌then◌else◌}
use Rattle.nuc_base.specs.declared.status.Status.{Status}
use Rattle.nuc_base.specs.declared.status.Status.TheVariants as statuses
use Rattle.disk_model.specs.Disk.{Image}
use Rattle.disk_model.specs.declared.disk.Disk as a_disk
use Rattle.gate_log.specs.declared.journal.Journal as a_journal
use Rattle.edges.specs.declared.answered.Kind.TheVariants.{Closed, Document}
use Rattle.edges.specs.declared.inbox.InboxFault.{InboxFault}
use Rattle.edges.specs.declared.inbox.InboxFault.TheVariants as faults
use Rattle.edges.specs.declared.inbox.Incoming.TheVariants.{Closed as IsClosed, Document as GivesDocument}
use Rattle.edges.specs.Inboxes.{after_answer, after_done}
use Rattle.edges.specs.Waiting.{next_of, without_first}
use Rattle.device.specs.Devices.{Device}
use Rattle.device.specs.Lawful.{Run}
use Rattle.deploy_state.specs.States.{OwnsIdle, idle_device}
use Rattle.step_runner.specs.Entries.{Told}
use Rattle.components.specs.Components.{Components}
use Rattle.histories.specs.Courses.{IsEnd, is_restart}
use Rattle.histories.specs.States.{SessionState, state_after}
use Rattle.histories.specs.TraceEvents.{TraceEvent, records_of}
use Rattle.session_shutdown.specs.Stops.{MayStop}
use Rattle.session_steady.specs.Serves.{IsServing}
use Rattle.session.specs.Calls.{IsOrEdge}
use Rattle.session.specs.Parts.{IsReturned}
use Rattle.session.specs.declared.ran.Ran.{Ran}
use Rattle.session.specs.declared.ran.Ran.TheVariants as ran
use Rattle.session.specs.declared.ran.Standing.{Standing}
use Rattle.session.specs.declared.ran.Standing.TheVariants as standings
use Rattle.session_serving.specs.declared.turned.Turned.{Turned}
use Rattle.session_serving.specs.declared.turned.Turned.TheVariants as turned
use Rattle.session_serving.specs.Documents.{IsOwnOrEdge, IsDone, IsEnded, IsHandled, IsLastDone}
use Rattle.session_serving.specs.Parts.{AllStandFor, CallEnded, HistoryKept, HoldsOn, Outside, TurnsPassed}
use Rattle.session_serving.specs.States.{AreUp, IsUnopened}
use Rattle.session_serving.specs.Rounds.{Handled, LastRound, Round, Spent, Shut, StoppedBy, SweepFailed, InboxFailed, WantOfMemory, asked_of_last}
use Rattle.session_serving.specs.Rounds.{inbox_fault_line}

-- ---- lines

abbrev pub inbox_line : List ℕ
inbox_line = inbox_fault_line

-- ---- why a turn ends the call

-- This document was the inbox's next, and its handling ends the call. It is promised what each document is, for the device of that
-- moment; it is done where the call ends for a restart or a reboot, and else it still waits.
pub record StopsBy (Clause : Handled → Type 0) {D : Type 0} (x : Handled) (status : Status) (old new : Outside D) (d : Device) : Type 0 where
  pub device : x.device ≡ d
  pub before : x.before ≡ old.library
  pub after : x.after ≡ new.library
  pub disk_before : x.disk_before ≡ old.faults
  pub disk_after : x.disk_after ≡ new.faults
  pub next : IfSome old.waiting (λ w. next_of w.documents w.closed ≡ GivesDocument x.bytes)
  pub run : Run d x.records x.behind
  pub clause : Clause x
  pub with_status : IsOwnOrEdge x.status status
  pub memory : status ≢ statuses.Memory
  pub answered : new.answered ≡ (if is_restart status then after_done (after_answer Document old.answered) else after_answer Document old.answered)
  pub given : new.waiting ≡ (if is_restart status then option_map without_first old.waiting else old.waiting)

-- no answer of the inbox came, nothing in it was done, and the library was neither asked nor refreshed
pub record AsksNone {D : Type 0} (old new : Outside D) : Type 0 where
  pub answered : new.answered ≡ old.answered
  pub waiting : new.waiting ≡ old.waiting
  pub library : new.library ≡ old.library

abbrev pub EndsBy : (Handled → Type 0) → {D : Type 0} → LastRound → Status → Outside D → Outside D → Device → Type 0
EndsBy Clause Spent status old new d = ⊥
EndsBy Clause Shut status old new d = ⊥
EndsBy Clause (StoppedBy x) status old new d = StopsBy Clause x status old new d
EndsBy Clause SweepFailed status old new d = IsOrEdge status statuses.Disk × AsksNone old new
EndsBy Clause InboxFailed status old new d = (status ≡ statuses.Edge) × AsksNone old new
EndsBy Clause WantOfMemory status old new d = (status ≡ statuses.Memory) × AsksNone old new

-- the inbox said that it is closed, as it was asked once more
pub record SaysClosed {D : Type 0} (old new : Outside D) : Type 0 where
  pub answered : new.answered ≡ after_answer Closed old.answered
  pub waiting : new.waiting ≡ old.waiting
  pub closed : IfSome old.waiting (λ w. next_of w.documents w.closed ≡ IsClosed)
  pub held : new.held ≡ old.held
  pub library : new.library ≡ old.library
  pub faults : new.faults ≡ old.faults

-- the status and the line of a call that gives up since the inbox gave no answer
abbrev pub GivesUpBy : InboxFault → Status → Type 0
GivesUpBy faults.Failed status = status ≡ statuses.Edge
GivesUpBy faults.NoMemory status = status ≡ statuses.Memory

abbrev pub line_of_fault : InboxFault → List ℕ
line_of_fault faults.Failed = inbox_line
line_of_fault faults.NoMemory = []

-- ---- behind the handling of a document

-- the set's components are there, or it is to be brought up again
abbrev pub IsReady : Standing → SessionState → Device → Components → Told → List ℕ → Type 0
IsReady standings.AsBefore p d world told living = IsServing p d world told living × IsReturned p d world told living
IsReady standings.OfSet p d world told living = IsServing p d world told living × IsReturned p d world told living
IsReady standings.Nobody p d world told living = IsUnopened p d world told living

-- the set is there, or there is no memory to bring it up, and the call ends
abbrev pub StandsAgain : {J : Type 0} → Turned J → SessionState → SessionState → Device → Components → Told → List ℕ → Type 0
StandsAgain (turned.On s) p q d world told living = IsServing q d world told living × (q.turns ≡ p.turns)
StandsAgain (turned.Shut s) p q d world told living = ⊥
StandsAgain (turned.Over status) p q d world told living = (status ≡ statuses.Memory) × IsEnd q status false

module _ {D J : Type 0} (disk : a_disk.Ghosts D) (journal : a_journal.Ghosts J) (Clause : Handled → Type 0) where
  -- It was handled, or its handling ends the call. The bytes are those of the document.
  abbrev pub DocumentLeft : List ℕ → Ran J → Outside D → Outside D → SessionState → List TraceEvent → Components → Told → List ℕ → Type 0
  DocumentLeft bytes (ran.Back s status standing) old new p h world told living =
      (x : Handled) × (x.bytes ≡ bytes) × IsHandled disk journal Clause old new p h x × IsReady standing (state_after p h) (idle_device s) world told living
  DocumentLeft bytes (ran.Over status) old new p h world told living =
      (x : Handled) × (rose : Bool) × (x.bytes ≡ bytes) × IsEnded disk journal Clause old new p h x status rose

  -- It was handled and is done; or its handling ends the call; or it is done, and there is no memory to bring the set up.
  abbrev pub HandleLeft : List ℕ → Turned J → Outside D → Outside D → SessionState → List TraceEvent → Components → Told → List ℕ → Type 0
  HandleLeft bytes (turned.On s) old new p h world told living =
      (x : Handled) × (x.bytes ≡ bytes) × IsDone disk journal Clause old new p h x × IsServing (state_after p h) (idle_device s) world told living
  HandleLeft bytes (turned.Shut s) old new p h world told living = ⊥
  HandleLeft bytes (turned.Over status) old new p h world told living =
      ((x : Handled) × (rose : Bool) × (x.bytes ≡ bytes) × IsLastDone disk journal Clause old new p h x status rose)
      ⊎ ((x : Handled) × (x.bytes ≡ bytes) × (before g : List TraceEvent) × (to : Outside D) × (h ≡ g ++ before)
      × IsDone disk journal Clause old to p before x × CallEnded disk journal (EndsBy Clause) to new (state_after p before) g WantOfMemory status false)

  -- ---- turns

  -- one more question found the inbox closed
  pub record InboxFoundClosed (old new : Outside D) (p : SessionState) (h : List TraceEvent) : Type 0 where
    pub goes : HistoryKept disk journal old.disk new.disk old.list new.list p h
    pub stands : AllStandFor disk journal new.disk (state_after p h).device
    pub holds : HoldsOn disk journal old.disk new.disk p h
    pub none : records_of h ≡ []
    pub says : SaysClosed old new

  -- Some turns went by, and behind them the call ends with this status; the inbox answered so often at most. `to` is what is seen
  -- outside between.
  abbrev pub OverLeft : ℕ → Status → Outside D → Outside D → SessionState → List TraceEvent → Type 0
  OverLeft most status old new p h =
      (before g : List TraceEvent) × (to : Outside D) × (rounds : List Round) × (last : LastRound) × (rose : Bool) × (h ≡ g ++ before)
      × TurnsPassed disk journal Clause old to p before rounds × CallEnded disk journal (EndsBy Clause) to new (state_after p before) g last status rose
      × (length rounds + asked_of_last last ≤ most)

  abbrev pub TurnLeft : Turned J → Outside D → Outside D → SessionState → List TraceEvent → Components → Told → List ℕ → Type 0
  TurnLeft (turned.On s) old new p h world told living =
      (round : Round) × TurnsPassed disk journal Clause old new p h (round ∷ []) × IsServing (state_after p h) (idle_device s) world told living
  TurnLeft (turned.Shut s) old new p h world told living = InboxFoundClosed old new p h × MayStop (state_after p h) (idle_device s) world told living
  TurnLeft (turned.Over status) old new p h world told living = OverLeft 1 status old new p h

  -- so many turns went by; or fewer, and then the inbox was closed, or the call ends
  abbrev pub TurnsLeft : Turned J → ℕ → Outside D → Outside D → SessionState → List TraceEvent → Components → Told → List ℕ → Type 0
  TurnsLeft (turned.On s) most old new p h world told living =
      (rounds : List Round) × TurnsPassed disk journal Clause old new p h rounds × (length rounds ≡ most)
      × IsServing (state_after p h) (idle_device s) world told living
  TurnsLeft (turned.Shut s) most old new p h world told living =
      (before g : List TraceEvent) × (to : Outside D) × (rounds : List Round) × (h ≡ g ++ before)
      × TurnsPassed disk journal Clause old to p before rounds × InboxFoundClosed to new (state_after p before) g
      × (length rounds + 1 ≤ most) × MayStop (state_after p h) (idle_device s) world told living
  TurnsLeft (turned.Over status) most old new p h world told living = OverLeft most status old new p h

-- ---- the state in hand

module _ {J D : Type 0} (is_modelled : Bool) (may_leave : D → Image → Type 0) (stands : J → Image → List (List ℕ) → Type 0) (end : J → ℕ) where
  abbrev pub OwnsTurned : Turned J → D → Type 0
  OwnsTurned (turned.On s) disk = OwnsIdle is_modelled may_leave stands end s disk
  OwnsTurned (turned.Shut s) disk = OwnsIdle is_modelled may_leave stands end s disk
  OwnsTurned (turned.Over status) disk = ⊤

-- the components are up where the call goes on, and are still to be stopped where the inbox is closed
abbrev pub UpTurned : {J : Type 0} → Turned J → Components → Type 0
UpTurned (turned.On s) w = AreUp (idle_device s) w
UpTurned (turned.Shut s) w = AreUp (idle_device s) w
UpTurned (turned.Over status) w = ⊤

abbrev pub UpRan : {J : Type 0} → Ran J → Components → Type 0
UpRan (ran.Back s status standing) w = AreUp (idle_device s) w
UpRan (ran.Over status) w = ⊤

-- the status by which it ends the call, and else none by which a call gives up
abbrev pub status_of_turned : {J : Type 0} → Turned J → Status
status_of_turned (turned.On s) = statuses.Done
status_of_turned (turned.Shut s) = statuses.Done
status_of_turned (turned.Over status) = status

-- a part that comes back does so with a status by which the call goes on
abbrev pub StaysRan : {J : Type 0} → Ran J → Type 0
StaysRan (ran.Back s status standing) = (status ≢ statuses.Edge) × (is_restart status ≡ false)
StaysRan (ran.Over status) = ⊤

abbrev pub HasEnded : {J : Type 0} → Turned J → Type 0
HasEnded (turned.Over status) = ⊤
HasEnded _ = ⊥
