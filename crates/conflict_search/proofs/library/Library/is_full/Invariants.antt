use Rattle.std.proofs.Common.{ℕ, ◌+◌, ◌-◌, ◌*◌, ◌<◌, ◌≤◌}
use Rattle.conflict_search.specs.Terms.{Has}
use Rattle.conflict_search.proofs.library.Library.is_full.Given as goal

abbrev pub invariant-loop-other : goal.invariant-loop-other
invariant-loop-other l = (q : ℕ) → l.first ≤ q → q < l.other → Has l.row (64 * l.first + (q + 1 - l.first))
