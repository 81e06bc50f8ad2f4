use Rattle.conflict_search.specs.Stands.{members_in, wanted_in}
use Rattle.conflict_search.specs.Terms.{IsNogoodRow}
use Rattle.conflict_search.proofs.library.Library.join_reasons.Given as goal

abbrev pub invariant-loop-at : goal.invariant-loop-at
invariant-loop-at l = IsNogoodRow (members_in l.self) (wanted_in l.self) l.draft
