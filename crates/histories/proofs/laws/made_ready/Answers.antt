use Rattle.histories.proofs.Ready.{fitted, booted}
use Rattle.histories.proofs.laws.made_ready.Goals as goal

pub returns-clause-one : goal.returns-clause-one
returns-clause-one c = fitted

pub returns-clause-boot : goal.returns-clause-boot
returns-clause-boot c = booted
