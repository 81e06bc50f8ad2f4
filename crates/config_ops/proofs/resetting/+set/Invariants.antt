use Rattle.std.proofs.Common.{◌+◌, ◌*◌, length}
use Rattle.config_ops.proofs.resetting.+set.Given as goal

abbrev pub decreases-node_at : goal.decreases-node_at
decreases-node_at l = 2 * length l.below.now

abbrev pub decreases-set_node : goal.decreases-set_node
decreases-set_node l = 2 * length l.below.now + 1
