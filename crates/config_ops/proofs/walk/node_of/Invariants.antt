use Rattle.std.proofs.Common.{◌≡◌, drop}
use Rattle.tree_core.specs.Regular.{IsRegular}
use Rattle.tree_core.specs.View.{view}
use Rattle.config_ops.specs.Reset.{key_node}
use Rattle.config_ops.proofs.walk.node_of.Given as goal

abbrev pub invariant-loop-key : goal.invariant-loop-key
invariant-loop-key l = (key_node l.keys (view l.tree) ≡ key_node (drop l.key-index l.keys) (view l.here)) × IsRegular (view l.here)
