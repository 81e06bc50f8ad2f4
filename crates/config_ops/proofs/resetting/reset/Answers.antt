use Rattle.tree_core.specs.View.{view}
use Rattle.config_ops.proofs.Sound.{ok_regular}
use Rattle.config_ops.proofs.SoundReset.{reset_regular}
use Rattle.config_ops.proofs.resetting.reset.Goals as goal

pub returns-clause-regular : goal.returns-clause-regular
returns-clause-regular c =
    ok_regular c.reset_keys.result _ c.reset_keys.ensures (reset_regular (view c.args.tree) (view c.args.default.now) c.as_slice.result.now c.requires.tree
    c.requires.default)
