use Rattle.std.proofs.Common.{◌≡◌, drop}
use Rattle.components.specs.Deadlines.{earlier, child_deadline}
use Rattle.supervisor.proofs.children.least_with.Given as goal

abbrev pub invariant-loop-child : goal.invariant-loop-child
invariant-loop-child l = earlier l.fn.other (child_deadline l.children) ≡ earlier l.least (child_deadline (drop l.child-index l.children))
