use Rattle.tree_core.specs.View.{view}
use Rattle.deployment_doc.proofs.Nodes.{value_regular}
use Rattle.deployment_doc.proofs.update.update_of.Goals as goal

pub read_update-requires : goal.read_update-requires
read_update-requires c = value_regular c.text.result.now (view c.args.component.now) (view c.in-Some.update.now) c.requires c.in-Some.ensures
