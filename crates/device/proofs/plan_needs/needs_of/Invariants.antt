use Rattle.std.proofs.Common.{drop}
use Rattle.device.proofs.PlanEdges.{Rows}
use Rattle.device.proofs.plan_needs.needs_of.Given as goal

abbrev pub invariant-loop-from : goal.invariant-loop-from
invariant-loop-from l = Rows l.items l.recipes l.from (drop l.from l.recipes) l.needs.items
