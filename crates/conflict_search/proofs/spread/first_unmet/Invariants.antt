use Rattle.std.proofs.Common.{ℕ, ◌<◌, ◌≤◌, get_or}
use Rattle.conflict_search.specs.Terms.{IsWithin}
use Rattle.conflict_search.specs.declared.terms.Term.{Term}
use Rattle.conflict_search.proofs.spread.first_unmet.Given as goal

abbrev pub invariant-loop-at : goal.invariant-loop-at
invariant-loop-at l = (k : ℕ) (t : Term) → l.from ≤ k → k < l.at → IsWithin l.row (get_or l.terms k t)
