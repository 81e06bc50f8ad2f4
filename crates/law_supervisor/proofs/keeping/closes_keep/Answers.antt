use Rattle.law_supervisor.proofs.Steadied.{owner_steadied, steadied_orderly, told_steadied}
use Rattle.law_supervisor.proofs.keeping.closes_keep.Goals as goal

pub returns-clause-orderly : goal.returns-clause-orderly
returns-clause-orderly c = steadied_orderly

pub returns-clause-owners : goal.returns-clause-owners
returns-clause-owners c = owner_steadied

pub returns-clause-owes_none : goal.returns-clause-owes_none
returns-clause-owes_none c = told_steadied
