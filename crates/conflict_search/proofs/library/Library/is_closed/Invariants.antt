use Rattle.std.proofs.Common.{◌≡◌, ◌⊎◌, ◌<◌, ℕ, List, Some}
use Rattle.recipe_reader.specs.Sets.{name_of}
use Rattle.conflict_search.specs.Numbers.{IsFirstPlace}
use Rattle.conflict_search.specs.Stands.{members_in}
use Rattle.conflict_search.specs.Endless.{IsAmong, NeedsSome}
use Rattle.conflict_search.proofs.library.Library.is_closed.Given as goal

abbrev pub invariant-loop-place : goal.invariant-loop-place
invariant-loop-place l = (p : ℕ) (n : List ℕ) (f : ℕ) → p < l.place → name_of (members_in l.self) p ≡ Some n → IsFirstPlace (members_in l.self) n f →
    IsAmong l.among f → IsAmong l.listed f ⊎ NeedsSome (members_in l.self) l.among p
