use Rattle.law_histories.proofs.Failing.{none_recorded}
use Rattle.law_histories.proofs.Going.{backs_go_on, deploys_go_on, resumes_go_on}
use Rattle.law_histories.proofs.laws.resumes_get_on.Goals as goal

pub returns-clause-up : goal.returns-clause-up
returns-clause-up c = resumes_go_on

pub returns-clause-back : goal.returns-clause-back
returns-clause-back c = backs_go_on

pub returns-clause-quiet : goal.returns-clause-quiet
returns-clause-quiet c = none_recorded

pub returns-clause-accepted : goal.returns-clause-accepted
returns-clause-accepted c = deploys_go_on
