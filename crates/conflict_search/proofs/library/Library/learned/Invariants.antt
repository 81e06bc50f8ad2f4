use Rattle.conflict_search.specs.Stands.{members_in}
use Rattle.conflict_search.proofs.Drafting.{AreListed}
use Rattle.conflict_search.proofs.library.Library.learned.Given as goal

abbrev pub invariant-loop-place : goal.invariant-loop-place
invariant-loop-place l = AreListed (members_in l.self) l.row l.place l.terms.items
