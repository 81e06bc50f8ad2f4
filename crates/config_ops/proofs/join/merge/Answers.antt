use Rattle.tree_core.specs.View.{view}
use Rattle.config_ops.specs.Join.{second}
use Rattle.config_ops.proofs.Sound.{second_keeps, joined_regular, ok_regular}
use Rattle.config_ops.proofs.join.merge.Goals as goal

pub returns-clause-regular : goal.returns-clause-regular
returns-clause-regular c = ok_regular c.join.result _ c.join.ensures (joined_regular second (view c.args.tree) (view c.args.update.now) second_keeps
    c.requires.tree c.requires.update)
