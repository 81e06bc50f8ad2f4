use Rattle.law_supervisor.proofs.Placed.{changed_keeps, changed_owns, changed_told}
use Rattle.law_supervisor.proofs.changing.changes_keep.Goals as goal

pub returns-clause-keeps : goal.returns-clause-keeps
returns-clause-keeps c = changed_keeps

pub returns-clause-owners : goal.returns-clause-owners
returns-clause-owners c = changed_owns

pub returns-clause-owes_none : goal.returns-clause-owes_none
returns-clause-owes_none c = changed_told
