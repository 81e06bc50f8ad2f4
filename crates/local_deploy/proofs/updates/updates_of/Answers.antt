use Rattle.tree_core.specs.View.{view}
use Rattle.local_deploy.proofs.Nodes.{value_regular}
use Rattle.local_deploy.proofs.updates.updates_of.Goals as goal

pub updates_in-requires : goal.updates_in-requires
updates_in-requires c = value_regular c.text.result.now (view c.args.tree.now) (view c.in-Some.updates.now) c.requires c.in-Some.ensures
