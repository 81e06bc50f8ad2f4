use Rattle.std.proofs.Common.{ℕ, ◌+◌, ◌-◌, ◌*◌, ◌≤◌}
use Rattle.conflict_search.specs.Terms.{Has}
use Rattle.conflict_search.proofs.library.Library.greatest.Given as goal

abbrev pub invariant-loop-place : goal.invariant-loop-place
invariant-loop-place l = (q : ℕ) → l.place ≤ q → q ≤ l.number → Has l.row (64 * l.first + (q + 1 - l.first)) → ⊥
