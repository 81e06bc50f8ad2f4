use Rattle.law_termination.proofs.Steps.{measure_less, time_on}
use Rattle.law_termination.proofs.numbers.turns_fall.Goals as goal

pub returns-clause-waits : goal.returns-clause-waits
returns-clause-waits c = time_on

pub returns-clause-measured : goal.returns-clause-measured
returns-clause-measured c = measure_less
