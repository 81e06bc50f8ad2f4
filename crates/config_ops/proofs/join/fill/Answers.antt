use Rattle.tree_core.specs.View.{view}
use Rattle.config_ops.specs.Join.{first}
use Rattle.config_ops.proofs.Sound.{first_keeps, joined_regular, ok_regular}
use Rattle.config_ops.proofs.join.fill.Goals as goal

pub returns-clause-regular : goal.returns-clause-regular
returns-clause-regular c = ok_regular c.join.result _ c.join.ensures (joined_regular first (view c.args.tree) (view c.args.default.now) first_keeps
    c.requires.tree c.requires.default)
