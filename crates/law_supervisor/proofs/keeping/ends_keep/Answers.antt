use Rattle.law_supervisor.proofs.Gone.{ended_keeps, ended_owns}
use Rattle.law_supervisor.proofs.Together.{order_of}
use Rattle.law_supervisor.proofs.keeping.ends_keep.Goals as goal

pub returns-clause-keeps : goal.returns-clause-keeps
returns-clause-keeps c = ended_keeps

pub returns-clause-owners : goal.returns-clause-owners
returns-clause-owners c = λ d n m e w k. ended_owns n m e w (order_of d w k)
