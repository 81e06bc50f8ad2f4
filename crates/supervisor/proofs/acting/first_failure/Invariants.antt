use Rattle.std.proofs.Common.{◌≡◌, take, false}
use Rattle.std.specs.List.{list_any}
use Rattle.components.specs.Turns.{owes}
use Rattle.supervisor.proofs.acting.first_failure.Given as goal

abbrev pub invariant-loop-at : goal.invariant-loop-at
invariant-loop-at l = list_any owes (take l.at l.slots) ≡ false
