use Rattle.law_supervisor.proofs.Told.{told_keeps, told_owner}
use Rattle.law_supervisor.proofs.keeping.tellings_keep.Goals as goal

pub returns-clause-keeps : goal.returns-clause-keeps
returns-clause-keeps c = told_keeps

pub returns-clause-owners : goal.returns-clause-owners
returns-clause-owners c = told_owner
