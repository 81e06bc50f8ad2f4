use Rattle.std.proofs.Common.{◌≡◌, ℕ, ◌+◌, ◌<◌, get_or}
use Rattle.std.specs.Prelude.{bit_and}
use Rattle.conflict_search.proofs.sets.is_within_at.Given as goal

abbrev pub invariant-loop-at : goal.invariant-loop-at
invariant-loop-at l = (j : ℕ) → j < l.at → bit_and (get_or l.set (l.from + j) 0) (get_or l.other j 0) ≡ get_or l.set (l.from + j) 0
