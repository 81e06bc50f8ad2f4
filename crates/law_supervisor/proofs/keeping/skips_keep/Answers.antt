use Rattle.law_supervisor.proofs.Answered.{skipped_keeps, skipped_owner}
use Rattle.law_supervisor.proofs.keeping.skips_keep.Goals as goal

pub returns-clause-keeps : goal.returns-clause-keeps
returns-clause-keeps c = skipped_keeps

pub returns-clause-owners : goal.returns-clause-owners
returns-clause-owners c = skipped_owner
