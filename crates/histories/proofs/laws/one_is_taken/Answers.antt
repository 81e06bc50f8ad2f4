use Rattle.histories.proofs.Once.{takes_once}
use Rattle.histories.proofs.laws.one_is_taken.Goals as goal

pub returns : goal.returns
returns c = λ p h serves proper. takes_once p h serves proper
