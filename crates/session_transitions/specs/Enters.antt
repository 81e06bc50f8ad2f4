-- From where the items of a stage may be brought up.
use Rattle.std.specs.Prelude.{◌≡◌, ℕ, false, List, Some, None}
use Rattle.std.specs.List.{list_any}
use Rattle.records.specs.declared.record.Origin.{Origin}
use Rattle.device.specs.Devices.{Device}
use Rattle.step_runner.specs.Entries.{Told}
use Rattle.components.specs.Fitted.{Fitted}
use Rattle.components.specs.Made.{AreFitted}
use Rattle.components.specs.Platforms.{AllRunFor}
use Rattle.components.specs.Turns.{is_unstarted, owes}
use Rattle.components.specs.Components.{ComponentState, Components}
use Rattle.histories.specs.Phases.{duty_of}
use Rattle.histories.specs.States.{SessionState}
use Rattle.histories.specs.Courses.{IsStateOf}
use Rattle.histories.specs.Follows.{MayChangeIn}
use Rattle.law_supervisor.specs.Sound.{IsOrderly}

-- the items of the stage, made ready for the device
abbrev pub AreReady : Device → List Fitted → Type 0
AreReady d fitted = (o : Origin) × (d.origin ≡ Some o) × AreFitted o (duty_of d).items fitted

-- each of them runs its item, and the one that it is to take, as the recipe says for the device's platform
abbrev pub RunOn : Device → List ComponentState → Type 0
RunOn d parts = (o : Origin) → d.origin ≡ Some o → AllRunFor o.platform parts

-- Other items may take the place of those that stand: no start is open, and no failure is still owed.
pub record MayEnter (p : SessionState) (d : Device) (world : Components) (told : Told) (living : List ℕ) : Type 0 where
  pub stands : IsStateOf p d world told living
  pub stage : MayChangeIn (duty_of d).phase p.generation p
  pub recorded : list_any owes p.world.parts ≡ false
  pub begun : list_any is_unstarted p.world.parts ≡ false
  pub orderly : IsOrderly p.world
  pub boot : p.boot ≡ None
  pub boot_end : p.boot_end ≡ None
  pub over : p.over ≡ false
  pub cut : p.cut ≡ false
