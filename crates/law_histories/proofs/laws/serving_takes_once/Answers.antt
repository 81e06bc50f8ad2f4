use Rattle.law_histories.proofs.Serving.{last_unasked, serving_once}
use Rattle.law_histories.proofs.laws.serving_takes_once.Goals as goal

pub returns-clause-once : goal.returns-clause-once
returns-clause-once c = serving_once

pub returns-clause-last : goal.returns-clause-last
returns-clause-last c = last_unasked
