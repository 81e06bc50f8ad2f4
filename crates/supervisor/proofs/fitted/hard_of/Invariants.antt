use Rattle.std.proofs.Common.{◌≡◌, ◌++◌, drop}
use Rattle.components.specs.Made.{hard_names}
use Rattle.supervisor.proofs.fitted.hard_of.Given as goal

abbrev pub invariant-loop-dependency : goal.invariant-loop-dependency
invariant-loop-dependency l = l.needs.items ++ hard_names (drop l.dependency-index l.dependencies) ≡ hard_names l.dependencies
