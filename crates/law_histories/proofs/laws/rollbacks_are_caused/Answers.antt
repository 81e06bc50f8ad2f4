use Rattle.law_histories.proofs.BootEnds.{boots_ended}
use Rattle.law_histories.proofs.StepEnds.{failures_ended}
use Rattle.law_histories.proofs.Standing.{records_stand, rollbacks_plain}
use Rattle.law_histories.proofs.RollingBack.{closes_caused, runs_close_caused}
use Rattle.law_histories.proofs.laws.rollbacks_are_caused.Goals as goal

pub returns-clause-stand : goal.returns-clause-stand
returns-clause-stand c = records_stand

pub returns-clause-closes : goal.returns-clause-closes
returns-clause-closes c = closes_caused

pub returns-clause-failures : goal.returns-clause-failures
returns-clause-failures c = failures_ended

pub returns-clause-boots : goal.returns-clause-boots
returns-clause-boots c = boots_ended

pub returns-clause-runs : goal.returns-clause-runs
returns-clause-runs c = runs_close_caused

pub returns-clause-plain : goal.returns-clause-plain
returns-clause-plain c = rollbacks_plain
