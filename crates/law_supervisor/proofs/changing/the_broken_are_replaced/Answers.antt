use Rattle.law_supervisor.proofs.Replaced.{broken_replaced}
use Rattle.law_supervisor.proofs.changing.the_broken_are_replaced.Goals as goal

pub returns : goal.returns
returns c = broken_replaced
