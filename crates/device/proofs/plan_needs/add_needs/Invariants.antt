use Rattle.std.proofs.Common.{drop}
use Rattle.device.proofs.PlanEdges.{Adding}
use Rattle.device.proofs.plan_needs.add_needs.Given as goal

abbrev pub invariant-loop-dependency : goal.invariant-loop-dependency
invariant-loop-dependency l = Adding l.items l.from l.dependency-items (drop l.dependency-index l.dependency-items) l.initial.needs.items l.needs.items
