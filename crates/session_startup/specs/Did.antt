-- What an act leaves.
use Rattle.std.specs.Prelude.{◌≡◌, ℕ, Bool, true, List}
use Rattle.device.specs.Devices.{Device}
use Rattle.step_runner.specs.Entries.{Told}
use Rattle.components.specs.Components.{Components}
use Rattle.components.specs.Turns.{IsQuiet}
use Rattle.histories.specs.States.{SessionState}
use Rattle.session_startup.specs.Runs.{HasFailed, IsInTurn}
use Rattle.session_acts.specs.declared.acts.Did.{Did}
use Rattle.session_acts.specs.declared.acts.Did.TheVariants as did

abbrev pub DidLeave : Did → SessionState → Components → Told → List ℕ → Type 0
DidLeave did.Nothing p world told living = IsInTurn p world told living × IsQuiet p.world
DidLeave did.Something p world told living = IsInTurn p world told living
DidLeave (did.Failed k s e) p world told living = HasFailed p k s e world told living

-- so it is with its record, and no act is left where that was told
pub record ActLeft (q : SessionState) (d : Device) (none : Bool) (world : Components) (told : Told) (living : List ℕ) : Type 0 where
  pub runs : IsInTurn q world told living
  pub device_is : q.device ≡ d
  pub quiet : none ≡ true → IsQuiet q.world
