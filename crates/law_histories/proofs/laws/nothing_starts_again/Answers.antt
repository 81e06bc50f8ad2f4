use Rattle.law_histories.proofs.Beginning.{boots_start_once}
use Rattle.law_histories.proofs.Differing.{boots_differ}
use Rattle.law_histories.proofs.Standing.{boots_told, starts_told}
use Rattle.law_histories.proofs.laws.nothing_starts_again.Goals as goal

pub returns-clause-starts : goal.returns-clause-starts
returns-clause-starts c = starts_told

pub returns-clause-boot_starts : goal.returns-clause-boot_starts
returns-clause-boot_starts c = boots_told

pub returns-clause-boots : goal.returns-clause-boots
returns-clause-boots c = boots_start_once

pub returns-clause-differ : goal.returns-clause-differ
returns-clause-differ c = boots_differ
