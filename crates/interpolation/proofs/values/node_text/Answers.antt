use Rattle.std.proofs.Common.{arith}
use Rattle.tree_core.specs.View.{view}
use Rattle.interpolation.proofs.Sizes.{shown_least}
use Rattle.interpolation.proofs.values.node_text.Goals as goal

pub returns-in_default-clause-err : goal.returns-in_default-clause-err
returns-in_default-clause-err c = omega (arith, c.in_default.ensures, shown_least (view c.args.node.now))
