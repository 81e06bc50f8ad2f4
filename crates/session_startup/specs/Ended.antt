-- What the stages leave at their ends.
use Rattle.std.specs.Prelude.{◌≡◌, ℕ, Bool, true, List, [], ◌∷◌, ◌++◌, ⊤}
use Rattle.disk_model.specs.Disk.{Image}
use Rattle.nuc_base.specs.declared.kinds.Outcome.{Outcome}
use Rattle.nuc_base.specs.declared.kinds.Outcome.TheVariants as outcomes
use Rattle.records.specs.Stored.{Record, Closed}
use Rattle.device.specs.Devices.{Device}
use Rattle.deploy_state.specs.States.{OwnsActivating, OwnsIdle, activating_device, idle_device}
use Rattle.step_runner.specs.Entries.{Told}
use Rattle.components.specs.Components.{Components}
use Rattle.components.specs.Turns.{IsQuiet}
use Rattle.law_supervisor.specs.Sound.{IsOrderly}
use Rattle.histories.specs.Phases.{Generation, current, duty_of}
use Rattle.histories.specs.TraceEvents.{TraceEvent, Recorded}
use Rattle.histories.specs.States.{SessionState}
use Rattle.histories.specs.Waits.{has_three}
use Rattle.histories.specs.Courses.{IsBack, IsStateOf}
use Rattle.session_boots.specs.Same.{IsSameDeployment}
use Rattle.session_startup.specs.Runs.{IsAtTurnStart}
use Rattle.session_startup.specs.declared.activating.Activated.{Activated}
use Rattle.session_startup.specs.declared.activating.Activated.TheVariants as activated

-- the last of the records is that the deployment closed so
abbrev pub ClosesAs : Outcome → List Record → Type 0
ClosesAs outcome records = (prefix : List Record) × (records ≡ prefix ++ Closed outcome ∷ [])

-- the last that happened is that it closed so
abbrev pub ClosesLast : Outcome → List TraceEvent → Type 0
ClosesLast outcome h = (before : List TraceEvent) × (h ≡ Recorded (Closed outcome) ∷ before)

-- Nothing is pending any more, and no component may act. The components are as they were: those of the stage that closed, or
-- ones that are all stopped.
pub record HasClosed (outcome : Outcome) (generation : Generation) (h : List TraceEvent) (q : SessionState) (d : Device) (world : Components) (told : Told)
    (living : List ℕ) : Type 0 where
  pub stands : IsStateOf q d world told living
  pub back : IsBack q
  pub generation_is : q.generation ≡ generation
  pub quiet : IsQuiet q.world
  pub orderly : IsOrderly q.world
  pub closed : ClosesLast outcome h

-- No act is left, and a component failed three times.
pub record HasBroken (q : SessionState) (d : Device) (world : Components) (told : Told) (living : List ℕ) : Type 0 where
  pub comes : IsAtTurnStart q d world told living
  pub quiet : IsQuiet q.world
  pub counts : has_three (duty_of q.device).counts ≡ true

abbrev pub ActivatedLeft : {J : Type 0} → Activated J → List TraceEvent → SessionState → Components → Told → List ℕ → Type 0
ActivatedLeft (activated.Closed s) h q world told living = HasClosed outcomes.Successful current h q (idle_device s) world told living
ActivatedLeft (activated.Broken s) h q world told living = HasBroken q (activating_device s) world told living

-- where the deployment is pending still, it is the same
abbrev pub ActivatedSame : {J : Type 0} → Device → Activated J → Type 0
ActivatedSame d (activated.Closed s) = ⊤
ActivatedSame d (activated.Broken s) = IsSameDeployment d (activating_device s)

module _ {J D : Type 0} (is_modelled : Bool) (may_leave : D → Image → Type 0) (stands : J → Image → List (List ℕ) → Type 0) (end : J → ℕ) where
  abbrev pub OwnsActivated : Activated J → D → Type 0
  OwnsActivated (activated.Closed s) disk = OwnsIdle is_modelled may_leave stands end s disk
  OwnsActivated (activated.Broken s) disk = OwnsActivating is_modelled may_leave stands end s disk
