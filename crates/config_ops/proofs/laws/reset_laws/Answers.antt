use Rattle.config_ops.proofs.ResetLaws.{resets_node, resets_way, reset_removes, removal_keeps_way, reset_keeps_others, reset_is_blocked}
use Rattle.config_ops.proofs.SoundReset.{reset_nests}
use Rattle.config_ops.proofs.laws.reset_laws.Goals as goal

pub returns-clause-node : goal.returns-clause-node
returns-clause-node c = resets_node

pub returns-clause-way : goal.returns-clause-way
returns-clause-way c = resets_way

pub returns-clause-removes : goal.returns-clause-removes
returns-clause-removes c = reset_removes

pub returns-clause-removal_keeps_way : goal.returns-clause-removal_keeps_way
returns-clause-removal_keeps_way c = removal_keeps_way

pub returns-clause-others : goal.returns-clause-others
returns-clause-others c = reset_keeps_others

pub returns-clause-blocked : goal.returns-clause-blocked
returns-clause-blocked c = reset_is_blocked

pub returns-clause-nests : goal.returns-clause-nests
returns-clause-nests c = reset_nests
