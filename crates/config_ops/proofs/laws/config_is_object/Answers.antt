use Rattle.config_ops.proofs.Objects.{config_is_object}
use Rattle.config_ops.proofs.laws.config_is_object.Goals as goal

pub returns : goal.returns
returns c = config_is_object
