-- What settling and a wait leave.
use Rattle.std.specs.Prelude.{ℕ, List, Option, Some, None}
use Rattle.std.proofs.Common.{◌≡◌, ◌∙◌, subst}
use Rattle.device.specs.Devices.{Device}
use Rattle.step_runner.specs.Entries.{Told}
use Rattle.components.specs.Components.{Components}
use Rattle.histories.specs.States.{SessionState}
use Rattle.session_steady.specs.Runs.{IsSame}
use Rattle.session_steady.specs.Serves.{IsAsking, IsServing, SettledLeft}
use Rattle.session_steady.specs.declared.settling.Settled.{Settled}
use Rattle.session_steady.specs.Stays.{IsKeptSteady}
use Rattle.session_serving.specs.States.{AreUp}

module _ (x q : SessionState) (d : Device) (world : Components) (told : Told) (living : List ℕ) (r : Option Settled) where
  pub settled_some : (s : Settled) → r ≡ Some s → SettledLeft x r q d world told living → IsAsking q d world told living × IsSame x q × (q.answer ≡ x.answer)
  settled_some s is left = subst (λ (o : Option Settled). SettledLeft x o q d world told living) is left

  pub settled_none : r ≡ None → SettledLeft x r q d world told living → IsServing q d world told living × IsSame x q × (q.answer ≡ x.answer)
  settled_none is left = subst (λ (o : Option Settled). SettledLeft x o q d world told living) is left

-- the components stay up
pub up_on : (d : Device) (w v : Components) → AreUp d w → IsKeptSteady w v → AreUp d v
up_on d w v up s = record {
  drives = s.drives;
  steady = s.mode ∙ up.steady;
  made = λ o is. s.recipes o.platform (up.made o is);
}
