use Rattle.std.proofs.Common.{◌≡◌, drop}
use Rattle.tree_core.specs.Regular.{IsRegular}
use Rattle.tree_core.specs.View.{view}
use Rattle.config_ops.specs.Reset.{is_open}
use Rattle.config_ops.proofs.walk.is_open.Given as goal

abbrev pub invariant-loop-key : goal.invariant-loop-key
invariant-loop-key l = (is_open l.keys (view l.tree) ≡ is_open (drop l.key-index l.keys) (view l.here)) × IsRegular (view l.here)
