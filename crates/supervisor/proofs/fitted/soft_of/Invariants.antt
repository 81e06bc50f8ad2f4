use Rattle.std.proofs.Common.{◌≡◌, ◌++◌, drop}
use Rattle.components.specs.Made.{soft_names}
use Rattle.supervisor.proofs.fitted.soft_of.Given as goal

abbrev pub invariant-loop-dependency : goal.invariant-loop-dependency
invariant-loop-dependency l = l.needs.items ++ soft_names (drop l.dependency-index l.dependencies) ≡ soft_names l.dependencies
