use Rattle.law_supervisor.proofs.Answered.{refused_keeps, refused_owner}
use Rattle.law_supervisor.proofs.keeping.refusals_keep.Goals as goal

pub returns-clause-keeps : goal.returns-clause-keeps
returns-clause-keeps c = refused_keeps

pub returns-clause-owners : goal.returns-clause-owners
returns-clause-owners c = refused_owner
