use Rattle.std.proofs.Common.{refl}
use Rattle.law_supervisor.proofs.keeping.time_keeps.Goals as goal

pub returns-clause-keeps : goal.returns-clause-keeps
returns-clause-keeps c = λ d m w k. record { counted = k.counted; sound = k.sound; differ = k.differ; names = k.names; driven = k.driven; counts = k.counts }

pub returns-clause-owners : goal.returns-clause-owners
returns-clause-owners c = λ n m w. refl

pub returns-clause-owes_none : goal.returns-clause-owes_none
returns-clause-owes_none c = λ m w t. t
