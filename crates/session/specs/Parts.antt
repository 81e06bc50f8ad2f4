-- One deployment in a call that goes on behind it or ends: what happens, what is printed, and what is left.
use Rattle.std.specs.Prelude.{◌≡◌, ◌≢◌, ◌⊎◌, ℕ, Bool, true, false, List, [], Option, None, Result, is_some, if◌then◌else◌, ⊤}
use Rattle.std.specs.List.{AllByRecursion, list_any}
use Rattle.disk_model.specs.Disk.{Image, HasLeft}
use Rattle.nuc_base.specs.declared.kinds.Outcome.{Outcome}
use Rattle.nuc_base.specs.declared.status.Status.{Status}
use Rattle.nuc_base.specs.declared.status.Status.TheVariants as statuses
use Rattle.records.specs.Stored.{Plan, Record}
use Rattle.records.specs.declared.record.Plan as code
use Rattle.device.specs.Devices.{Device}
use Rattle.deploy_state.specs.States.{OwnsIdle, idle_device}
use Rattle.deploy_state.specs.declared.state.Idle.{Idle as IdleState}
use Rattle.step_runner.specs.Entries.{Told}
use Rattle.step_runner.specs.declared.entries.RunnerEntry.{RunnerEntry}
use Rattle.components.specs.Components.{Components, is_stopped}
use Rattle.components.specs.Turns.{IsQuiet, owes}
use Rattle.histories.specs.Phases.{Generation, current, draining, is_shutting_down}
use Rattle.histories.specs.Courses.{IsEnd, IsStateOf, gives_up, is_restart}
use Rattle.histories.specs.Follows.{IsLast}
use Rattle.histories.specs.TraceEvents.{TraceEvent, records_of}
use Rattle.histories.specs.Once.{TakesOnce}
use Rattle.histories.specs.States.{SessionState, state_after}
use Rattle.law_supervisor.specs.Sound.{IsOrderly}
use Rattle.session_boots.specs.Booted.{AsksFor}
use Rattle.session_boots.specs.Ends.{StopsAt}
use Rattle.session_boots.specs.Traces.{StandsForMost, IsTrace}
use Rattle.session_boots.specs.declared.ends.Booted.TheVariants as booted
use Rattle.session_startup.specs.Ended.{ClosesAs}
use Rattle.session_transitions.specs.Fails.{IsGivenUp}
use Rattle.session_rollout.specs.declared.driven.Presence.{Presence}
use Rattle.session_rollout.specs.declared.driven.Presence.TheVariants as presences
use Rattle.admission.specs.declared.fault.Declined.{Declined}
use Rattle.session.specs.Calls.{IsOrEdge, IsPendingAs, LinesPrinted, ChangesArtifactsAlone, StandsBehind, StandsWhole}
use Rattle.session.specs.Documents.{PlanEnding, TakenEnding}
use Rattle.session.specs.Endings.{Ending, ByClose, ByRestart, ByReboot, ByDiskFault, BySinkFault, WantAfter, WantBefore, ByDecline, Full, Idle}
use Rattle.session.specs.Endings.{is_failing, status_of_ending}
use Rattle.session.specs.declared.ran.Ran.{Ran}
use Rattle.session.specs.declared.ran.Ran.TheVariants as ran
use Rattle.session.specs.declared.ran.Standing.{Standing}
use Rattle.session.specs.declared.ran.Standing.TheVariants as standings

-- ---- what is left

-- who the components are, where they were these before
abbrev pub IsGeneration : Standing → Generation → Generation → Type 0
IsGeneration standings.AsBefore before now = now ≡ before
IsGeneration standings.OfSet before now = now ≡ current
IsGeneration standings.Nobody before now = now ≡ draining

-- behind a close
abbrev pub standing_of : Presence → Standing
standing_of presences.Present = standings.OfSet
standing_of presences.Absent = standings.Nobody

-- The device is in hand: nothing is open, no component may act, and no failure is still owed. From here all may be stopped, or
-- the next document is taken.
pub record IsReturned (q : SessionState) (d : Device) (world : Components) (told : Told) (living : List ℕ) : Type 0 where
  pub stands : IsStateOf q d world told living
  pub quiet : IsQuiet q.world
  pub orderly : IsOrderly q.world
  pub idle_is : d.pending ≡ None
  pub going : is_shutting_down q.generation ≡ false
  pub boot : q.boot ≡ None
  pub boot_end : q.boot_end ≡ None
  pub over : q.over ≡ false
  pub cut : q.cut ≡ false

-- Nothing is open, no failure is owed, and all components are stopped.
pub record IsShut (p : SessionState) : Type 0 where
  pub stopped : is_stopped p.world ≡ true
  pub owes_none : list_any owes p.world.parts ≡ false
  pub boot : p.boot ≡ None
  pub boot_end : p.boot_end ≡ None
  pub over : p.over ≡ false
  pub cut : p.cut ≡ false

-- From here a call may give up: what stands by the supervisor is what stands.
abbrev pub MayGiveUp : SessionState → Components → Told → List ℕ → Type 0
MayGiveUp q world told living = IsGivenUp q world told living × (is_stopped q.world ≡ is_stopped world)

-- It cannot go on with this status: a line could not be written, or the disk failed after a close.
abbrev pub must_end : Status → Standing → Bool
must_end statuses.Edge standing = true
must_end statuses.Disk standings.AsBefore = false
must_end statuses.Disk standing = true
must_end status standing = false

-- The call comes back, with a status by which it can go on and that asks for no restart; or it ends.
abbrev pub RanLeft : {J : Type 0} → Generation → Ran J → Bool → SessionState → Components → Told → List ℕ → Type 0
RanLeft before (ran.Back s status standing) rose q world told living =
    IsReturned q (idle_device s) world told living × IsGeneration standing before q.generation × (must_end status standing ≡ false)
    × (is_restart status ≡ false)
RanLeft before (ran.Over status) rose q world told living = IsEnd q status rose

-- it comes back where it can go on
abbrev pub came_of : {J : Type 0} → IdleState J → Status → Standing → Ran J
came_of idle status standing = if must_end status standing then ran.Over status else ran.Back idle status standing

abbrev pub status_of_ran : {J : Type 0} → Ran J → Status
status_of_ran (ran.Back s status standing) = status
status_of_ran (ran.Over status) = status

abbrev pub IsBack : {J : Type 0} → Ran J → Type 0
IsBack (ran.Back s status standing) = ⊤
IsBack (ran.Over status) = ⊥

abbrev pub IsOver : {J : Type 0} → Ran J → Type 0
IsOver (ran.Back s status standing) = ⊥
IsOver (ran.Over status) = ⊤

-- Where the components that stood before stand nothing was recorded, and else the last record is that a deployment closed.
abbrev pub CameBy : {J : Type 0} → Ran J → List Record → Type 0
CameBy (ran.Back s status standings.AsBefore) records = records ≡ []
CameBy (ran.Back s status standings.OfSet) records = (o : Outcome) × ClosesAs o records
CameBy (ran.Back s status standings.Nobody) records = (o : Outcome) × ClosesAs o records
CameBy (ran.Over status) records = ⊤

-- after a deployment they are those of the set, or none stands
abbrev pub IsAnew : {J : Type 0} → Ran J → Type 0
IsAnew (ran.Back s status standing) = standing ≢ standings.AsBefore
IsAnew (ran.Over status) = ⊤

-- want of memory alone does not end the call
abbrev pub NoMemoryGoesOn : {J : Type 0} → Ran J → Type 0
NoMemoryGoesOn (ran.Back s status standing) = ⊤
NoMemoryGoesOn (ran.Over status) = status ≢ statuses.Memory

-- the call gives up by the status, or it ends for a restart or a reboot
abbrev pub EndsCall : Status → Type 0
EndsCall status = (gives_up status ≡ true) ⊎ (is_restart status ≡ true)

-- it ends the call with such a status alone
abbrev pub EndsRan : {J : Type 0} → Ran J → Type 0
EndsRan (ran.Back s status standing) = ⊤
EndsRan (ran.Over status) = EndsCall status

module _ {J D : Type 0} (is_modelled : Bool) (may_leave : D → Image → Type 0) (stands : J → Image → List (List ℕ) → Type 0) (end : J → ℕ) where
  -- the state that is given back owns its journal
  abbrev pub OwnsRan : Ran J → D → Type 0
  OwnsRan (ran.Back s status standing) disk = OwnsIdle is_modelled may_leave stands end s disk
  OwnsRan (ran.Over status) disk = ⊤

-- ---- which documents the call may still take

-- none behind the one that is taken next: the call does not serve, or its inbox is not asked any more
abbrev pub TakesLast : SessionState → Type 0
TakesLast p = (p.serves ≡ false) ⊎ (p.turns ≡ 0)

-- none at all, where one is pending: so it is as the call begins
abbrev pub TakesNone : SessionState → Type 0
TakesNone p = ((p.serves ≡ false) × (p.taken ≡ is_some p.device.pending)) ⊎ ((p.serves ≡ true) × (p.turns ≡ 0) × (p.answer ≡ None))

-- ---- the part

-- Nothing of a deployment happened: at most children were killed, and where no component stands nothing at all.
abbrev pub IsUnbegun : SessionState → List TraceEvent → Type 0
IsUnbegun p h = AllByRecursion IsLast h × (is_stopped p.world ≡ true → h ≡ [])

-- The last record is that the deployment closed so, and nothing is pending; or it asks for the restart or the reboot of the
-- pending deployment. Want of memory leaves no deployment unfinished that was begun or driven on.
abbrev pub EndsPart : SessionState → Ending → List TraceEvent → Type 0
EndsPart p (ByClose o) h = ClosesAs o (records_of h) × ((state_after p h).device.pending ≡ None)
EndsPart p (ByRestart id) h = AsksFor booted.Restart (records_of h) (state_after p h).device × IsPendingAs id (state_after p h).device
EndsPart p (ByReboot id) h = AsksFor booted.Reboot (records_of h) (state_after p h).device × IsPendingAs id (state_after p h).device
EndsPart p ByDiskFault h = ⊤
EndsPart p BySinkFault h = ⊤
EndsPart p WantAfter h = (o : Outcome) × ClosesAs o (records_of h)
EndsPart p WantBefore h = IsUnbegun p h
EndsPart p (ByDecline d) h = IsUnbegun p h
EndsPart p (Full at) h = IsUnbegun p h
EndsPart p Idle h = IsUnbegun p h × ((state_after p h).device.pending ≡ None)

-- where the part gives up nothing is done behind its last record, or at all, but that children are killed
abbrev pub QuitsPart : SessionState → List TraceEvent → Type 0
QuitsPart p h = IsUnbegun p h ⊎ StopsAt h

module _ (entries : Image → List (List ℕ) → Type 0) (files : List ℕ → Type 0) {D : Type 0} (may_leave : D → Image → Type 0) (moment : D → ℕ)
    (left_since : D → ℕ → Image → Type 0) where
  -- As a whole call, but for what it leaves of the components: that is said of its ending and of the state behind it.
  pub record Part (old new : D) (old_list new_list : Option (List RunnerEntry)) (old_held new_held : Option (List ℕ)) (p : SessionState)
      (status : Status) (leaves : Ending → SessionState → Type 0) : Type 0 where
    pub from : D
    pub to : D
    pub before : ChangesArtifactsAlone may_leave moment left_since old from
    pub history : List TraceEvent
    pub trace : IsTrace entries files may_leave moment left_since from to old_list new_list p history
    pub after : ChangesArtifactsAlone may_leave moment left_since to new
    pub ending : Ending
    pub answers : IsOrEdge status (status_of_ending ending)
    pub prints : LinesPrinted old_held new_held p.device (records_of history) ending status (StandsBehind entries may_leave new p history)
    pub ends : EndsPart p ending history
    pub left : leaves ending (state_after p history)
    pub stands : (c : Image) → may_leave new c → StandsForMost entries p.device (records_of history) c
    pub doubt : StandsBehind entries may_leave new p history ⊎ ((gives_up status ≡ true) × StopsAt history)
    pub once : p.serves ≡ false → TakesOnce p.taken (records_of history)
    pub quits : gives_up status ≡ true → QuitsPart p history

  module _ (old new : D) (old_list new_list : Option (List RunnerEntry)) (old_held new_held : Option (List ℕ)) (p : SessionState) where
    -- the part of a call that answers so: the state and the components are left as that says
    abbrev pub RunsPart : {J : Type 0} → Ran J → Components → Told → List ℕ → Type 0
    RunsPart r world told living =
        Part old new old_list new_list old_held new_held p (status_of_ran r) (λ ending q. RanLeft p.generation r (is_failing ending) q world told living)

    module _ {J : Type 0} (r : Ran J) (world : Components) (told : Told) (living : List ℕ) where
      -- the plan is driven, or put off
      abbrev pub RunsPlan : (ℕ → ℕ) → Plan → Type 0
      RunsPlan start plan =
          (c : RunsPart r world told living) × PlanEnding start plan c.ending (records_of c.history) × CameBy r (records_of c.history)

      -- so is a plan that was taken in, and a document that was not taken is declined
      abbrev pub RunsTaken : (ℕ → ℕ) → Result code.Plan Declined → Type 0
      RunsTaken start taken =
          (c : RunsPart r world told living) × TakenEnding start taken c.ending (records_of c.history) × CameBy r (records_of c.history)

      -- At each moment each image stands for what a prefix of the records makes of the device, with all of its artifacts.
      abbrev pub HasArtifacts : RunsPart r world told living → Type 0
      HasArtifacts c = HasLeft moment left_since old new (StandsWhole entries p.device (records_of c.history))
