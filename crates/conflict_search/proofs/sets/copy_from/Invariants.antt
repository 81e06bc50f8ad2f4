use Rattle.std.proofs.Common.{◌≡◌, ℕ, ◌+◌, ◌<◌, length, get_or}
use Rattle.conflict_search.proofs.sets.copy_from.Given as goal

abbrev pub invariant-loop-at : goal.invariant-loop-at
invariant-loop-at l = (length l.set ≡ length l.fn.set) × ((j : ℕ) → j < l.at → get_or l.set j 0 ≡ get_or l.row (l.from + j) 0)
