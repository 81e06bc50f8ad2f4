use Rattle.device.proofs.Moving.{none_stuck}
use Rattle.device.proofs.Roomy.{records_run_out}
use Rattle.device.proofs.laws.none_is_stuck.Goals as goal

pub returns-clause-next : goal.returns-clause-next
returns-clause-next c = none_stuck

pub returns-clause-fewer : goal.returns-clause-fewer
returns-clause-fewer c = records_run_out
