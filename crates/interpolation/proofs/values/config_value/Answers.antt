use Rattle.std.proofs.Common.{sym}
use Rattle.tree_core.specs.View.{view}
use Rattle.tree_core.proofs.NodeOrder.{node_regular}
use Rattle.interpolation.proofs.values.config_value.Goals as goal

pub node_text-requires : goal.node_text-requires
node_text-requires c = node_regular c.in-Ok.pointer (view c.args.config.now) (view c.in-Some.node.now) c.requires (sym c.in-Some.ensures)
