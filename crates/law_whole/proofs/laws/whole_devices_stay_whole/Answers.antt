use Rattle.law_whole.proofs.Lone.{one_item_is_whole}
use Rattle.law_whole.proofs.Stepping.{after_record, after_run, empty_whole}
use Rattle.law_whole.proofs.Taken.{brought_stay_whole}
use Rattle.law_whole.proofs.laws.whole_devices_stay_whole.Goals as goal

pub returns-clause-empty : goal.returns-clause-empty
returns-clause-empty c = empty_whole

pub returns-clause-step : goal.returns-clause-step
returns-clause-step c = after_record

pub returns-clause-run : goal.returns-clause-run
returns-clause-run c d e records whole is brings = after_run records d e whole is brings

pub returns-clause-prefixes : goal.returns-clause-prefixes
returns-clause-prefixes c = brought_stay_whole

pub returns-clause-one_item : goal.returns-clause-one_item
returns-clause-one_item c = one_item_is_whole
