-- From where all components may be stopped, and what that leaves.
use Rattle.std.specs.Prelude.{◌≡◌, ℕ, Bool, true, false, List, None}
use Rattle.device.specs.Devices.{Device}
use Rattle.step_runner.specs.Entries.{Told}
use Rattle.components.specs.Components.{Components, is_stopped}
use Rattle.components.specs.Turns.{IsQuiet}
use Rattle.law_supervisor.specs.Keeps.{HasNoneOwed}
use Rattle.law_supervisor.specs.Sound.{IsOrderly}
use Rattle.histories.specs.Phases.{duty_of}
use Rattle.histories.specs.States.{SessionState}
use Rattle.histories.specs.Follows.{MayStopAll}
use Rattle.histories.specs.Courses.{IsBare, IsStateOf}
use Rattle.session_shutdown.specs.Runs.{IsAtTurnStart, IsGoing}

-- All components may be stopped here, no failure is still to be recorded, and no bootstrap is about.
pub record MayStop (p : SessionState) (d : Device) (world : Components) (told : Told) (living : List ℕ) : Type 0 where
  pub stands : IsStateOf p d world told living
  pub may : MayStopAll (duty_of p.device) (duty_of p.device).phase p.generation p
  pub orderly : IsOrderly p.world
  pub owed : HasNoneOwed p.world
  pub boot : p.boot ≡ None
  pub boot_end : p.boot_end ≡ None
  pub over : p.over ≡ false
  pub cut : p.cut ≡ false

-- None stands, none may act, no child lives and nothing is still to be recorded.
pub record HasStopped (p : SessionState) (d : Device) (world : Components) (told : Told) (living : List ℕ) : Type 0 where
  pub stands : IsStateOf p d world told living
  pub stopped : is_stopped p.world ≡ true
  pub quiet : IsQuiet p.world
  pub going : IsGoing (duty_of p.device).phase p.generation
  pub orderly : IsOrderly p.world
  pub bare : IsBare p
  pub boot_end : p.boot_end ≡ None
  pub probed : p.probed ≡ false
  pub over : p.over ≡ false
  pub cut : p.cut ≡ false

abbrev pub TurnLeft : Bool → SessionState → Device → Components → Told → List ℕ → Type 0
TurnLeft true q d world told living = HasStopped q d world told living
TurnLeft false q d world told living = IsAtTurnStart q d world told living
