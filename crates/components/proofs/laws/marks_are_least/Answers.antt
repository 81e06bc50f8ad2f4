use Rattle.std.proofs.Common.{length}
use Rattle.components.proofs.Closes.{most, closes, least}
use Rattle.components.proofs.laws.marks_are_least.Goals as goal

pub returns-clause-first : goal.returns-clause-first
returns-clause-first c = λ fs. most (length fs) fs

pub returns-clause-closed : goal.returns-clause-closed
returns-clause-closed c = closes

pub returns-clause-least : goal.returns-clause-least
returns-clause-least c = λ fs hs. least (length fs) fs hs
