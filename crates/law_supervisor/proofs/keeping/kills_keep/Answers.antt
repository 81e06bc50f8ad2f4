use Rattle.law_supervisor.proofs.Gone.{killed_keeps, killed_owns}
use Rattle.law_supervisor.proofs.Together.{order_of}
use Rattle.law_supervisor.proofs.keeping.kills_keep.Goals as goal

pub returns-clause-keeps : goal.returns-clause-keeps
returns-clause-keeps c = killed_keeps

pub returns-clause-owners : goal.returns-clause-owners
returns-clause-owners c = λ d n m w k. killed_owns n m w (order_of d w k)
