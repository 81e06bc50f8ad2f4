use Rattle.std.proofs.Common.{codes}
use Rattle.tree_core.specs.View.{view}
use Rattle.deployment_doc.proofs.Nodes.{either_regular}
use Rattle.deployment_doc.proofs.update.merge_of.Goals as goal

pub merge_in-requires : goal.merge_in-requires
merge_in-requires c = either_regular (codes "merge") (codes "MERGE") (view c.args.tree.now) (view c.in-Some.value.now) c.requires c.in-Some.ensures
