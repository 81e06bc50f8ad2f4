use Rattle.device.proofs.Meeting.{after_record, after_run}
use Rattle.device.proofs.laws.met_devices_stay_met.Goals as goal

pub returns-clause-step : goal.returns-clause-step
returns-clause-step c = after_record

pub returns-clause-run : goal.returns-clause-run
returns-clause-run c d e records met run brings = after_run records d e met run brings
