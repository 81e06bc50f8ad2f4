use Rattle.std.proofs.Common.{drop}
use Rattle.device.specs.Plans.{IsHeldFor}
use Rattle.device.proofs.PlanLoops.{Beside}
use Rattle.device.proofs.plan_recipes.are_held.Given as goal

abbrev pub invariant-loop-at : goal.invariant-loop-at
invariant-loop-at l = Beside IsHeldFor l.artifacts l.held (drop l.at l.artifacts) (drop l.at l.held)
