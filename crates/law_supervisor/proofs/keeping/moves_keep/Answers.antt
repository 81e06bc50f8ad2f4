use Rattle.law_supervisor.proofs.Moved.{moved_keeps, moved_owner}
use Rattle.law_supervisor.proofs.keeping.moves_keep.Goals as goal

pub returns-clause-keeps : goal.returns-clause-keeps
returns-clause-keeps c = moved_keeps

pub returns-clause-owners : goal.returns-clause-owners
returns-clause-owners c = moved_owner
