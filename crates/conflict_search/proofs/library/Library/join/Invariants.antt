use Rattle.std.proofs.Common.{◌≡◌, ◌≢◌, ◌⊎◌, ℕ, ◌+◌, ◌-◌, ◌*◌, ◌<◌, ◌≤◌, length, get_or}
use Rattle.conflict_search.specs.Terms.{Has, IsWithin}
use Rattle.conflict_search.specs.declared.terms.Term.{Term}
use Rattle.conflict_search.proofs.library.Library.join.Given as goal

abbrev pub invariant-loop-index : goal.invariant-loop-index
invariant-loop-index l = (length l.row ≡ length l.fn.row) × ((v : ℕ) → Has l.row v → Has l.initial.row v)
    × ((k : ℕ) (t : Term) → k < l.index → k < length l.terms → k ≢ l.at → IsWithin l.row (get_or l.terms k t))
