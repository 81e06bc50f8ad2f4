use Rattle.std.proofs.Common.{◌≡◌, ℕ, ◌+◌, ◌-◌, ◌*◌, ◌<◌, List, length, Some}
use Rattle.recipe_reader.specs.Sets.{name_of}
use Rattle.conflict_search.specs.Numbers.{IsFirstPlace}
use Rattle.conflict_search.specs.Stands.{members_in}
use Rattle.conflict_search.specs.Terms.{Has}
use Rattle.conflict_search.proofs.library.Library.fill.Given as goal

abbrev pub invariant-loop-place : goal.invariant-loop-place
invariant-loop-place l = (length l.row ≡ length l.fn.row) × ((n : List ℕ) (f p : ℕ) → p < l.place → IsFirstPlace (members_in l.self) n f →
    name_of (members_in l.self) p ≡ Some n → Has l.row (64 * f) × Has l.row (64 * f + (p + 1 - f)))
