use Rattle.config_ops.proofs.Settling.{config_is_filled, config_stays}
use Rattle.config_ops.proofs.laws.config_stays.Goals as goal

pub returns-clause-stays : goal.returns-clause-stays
returns-clause-stays c = config_stays

pub returns-clause-filled : goal.returns-clause-filled
returns-clause-filled c = config_is_filled
