use Rattle.std.proofs.Common.{Err, ap}
use Rattle.resolver.proofs.search.resolve.Goals as goal

-- no set is valid, as the search says
pub returns-in-Err-NoVersion-clause-none : goal.returns-in-Err-NoVersion-clause-none
returns-in-Err-NoVersion-clause-none c = λ _. c.in-Err-NoVersion.ensures.none (ap Err c.in-Err-NoVersion.field-0-is)
