-- What an act leaves while nothing is pending.
use Rattle.std.specs.Prelude.{◌≡◌, ℕ, Bool, true, List}
use Rattle.step_runner.specs.Entries.{Told}
use Rattle.components.specs.Components.{Components}
use Rattle.components.specs.Turns.{IsQuiet}
use Rattle.histories.specs.States.{SessionState}
use Rattle.session_acts.specs.Runs.{IsInTurn}

-- a failure was heard of too, and no act is left where that was told
pub record ActLeft (q : SessionState) (none : Bool) (world : Components) (told : Told) (living : List ℕ) : Type 0 where
  pub runs : IsInTurn q world told living
  pub quiet : none ≡ true → IsQuiet q.world
