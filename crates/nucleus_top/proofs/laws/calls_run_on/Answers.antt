use Rattle.nucleus_top.proofs.Meeting.{brought_stay_met}
use Rattle.nucleus_top.proofs.Origins.{are_found}
use Rattle.nucleus_top.proofs.Series.{calls_raise, calls_reach, inits_begin, none_met, others_go_on}
use Rattle.nucleus_top.proofs.laws.calls_run_on.Goals as goal

pub returns-clause-none : goal.returns-clause-none
returns-clause-none c = none_met

pub returns-clause-met : goal.returns-clause-met
returns-clause-met c = brought_stay_met

pub returns-clause-init : goal.returns-clause-init
returns-clause-init c = inits_begin

pub returns-clause-others : goal.returns-clause-others
returns-clause-others c = others_go_on

pub returns-clause-reached : goal.returns-clause-reached
returns-clause-reached c = calls_reach

pub returns-clause-raised : goal.returns-clause-raised
returns-clause-raised c = calls_raise c.revisions_rise.ensures

pub returns-clause-found : goal.returns-clause-found
returns-clause-found c = are_found
