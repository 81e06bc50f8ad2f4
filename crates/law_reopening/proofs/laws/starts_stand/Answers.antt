use Rattle.law_reopening.proofs.Left.{boot_starts_stand, failures_stand, starts_stand}
use Rattle.law_reopening.proofs.Owed.{failures_told}
use Rattle.law_reopening.proofs.laws.starts_stand.Goals as goal

pub returns-clause-recorded : goal.returns-clause-recorded
returns-clause-recorded g c = failures_told

pub returns-clause-starts : goal.returns-clause-starts
returns-clause-starts g c = starts_stand _ _

pub returns-clause-boots : goal.returns-clause-boots
returns-clause-boots g c = boot_starts_stand _ _

pub returns-clause-failures : goal.returns-clause-failures
returns-clause-failures g c = failures_stand _ _
