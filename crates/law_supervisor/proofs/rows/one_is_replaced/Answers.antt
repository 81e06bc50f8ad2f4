use Rattle.std.proofs.Common.{refl}
use Rattle.law_supervisor.proofs.Small.{stands_orderly, replaced_keeps}
use Rattle.law_supervisor.proofs.rows.one_is_replaced.Goals as goal

pub returns-clause-orderly : goal.returns-clause-orderly
returns-clause-orderly c = stands_orderly

pub returns-clause-keeps : goal.returns-clause-keeps
returns-clause-keeps c = replaced_keeps

pub returns-clause-waits : goal.returns-clause-waits
returns-clause-waits c = λ m. refl

pub returns-clause-stops : goal.returns-clause-stops
returns-clause-stops c = λ m. refl
