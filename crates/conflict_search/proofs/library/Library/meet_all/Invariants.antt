use Rattle.std.proofs.Common.{◌≡◌, length, take}
use Rattle.std.specs.List.{Contains}
use Rattle.conflict_search.specs.Terms.{IsWithin}
use Rattle.conflict_search.specs.declared.terms.Term.{Term}
use Rattle.conflict_search.proofs.library.Library.meet_all.Given as goal

abbrev pub invariant-loop-term : goal.invariant-loop-term
invariant-loop-term l = (length l.row ≡ length l.fn.row) × ((t : Term) → Contains (take l.term-index l.terms) t → IsWithin l.row t)
