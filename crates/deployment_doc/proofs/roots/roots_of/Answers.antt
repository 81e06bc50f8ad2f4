use Rattle.tree_core.specs.View.{view}
use Rattle.deployment_doc.proofs.Nodes.{value_regular}
use Rattle.deployment_doc.proofs.roots.roots_of.Goals as goal

pub roots_in-requires : goal.roots_in-requires
roots_in-requires c = value_regular c.text.result.now (view c.args.tree.now) (view c.in-Some.components.now) c.requires c.in-Some.ensures
