use Rattle.law_serving.proofs.Running.{all_steady}
use Rattle.law_serving.proofs.laws.idle_calls_are_steady.Goals as goal

pub returns : goal.returns
returns c = all_steady
