use Rattle.law_supervisor.proofs.Begun.{started_keeps, started_owns}
use Rattle.law_supervisor.proofs.keeping.starts_keep.Goals as goal

pub returns-clause-keeps : goal.returns-clause-keeps
returns-clause-keeps c = started_keeps

pub returns-clause-owners : goal.returns-clause-owners
returns-clause-owners c = started_owns
