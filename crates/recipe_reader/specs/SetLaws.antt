-- Laws of valid and preferred sets, apart from any search.
use Rattle.std.specs.Prelude.{◌≡◌, ℕ, List}
use Rattle.std.specs.List.{Contains}
use Rattle.recipe_reader.specs.Members.{Need, Member, IsRising}
use Rattle.recipe_reader.specs.Sets.{IsValid, IsPreferred}

-- at most one set is preferred
abbrev pub IsOnePreferred : Type 0
IsOnePreferred = (ms : List Member) (wanted : List Need) (s t : List ℕ) → IsPreferred ms wanted s → IsPreferred ms wanted t → s ≡ t

-- where a set is valid one is preferred: it cannot be that none is
abbrev pub HasPreferred : Type 0
HasPreferred = (ms : List Member) (wanted : List Need) (s : List ℕ) → IsRising ms → IsValid ms wanted s → ((t : List ℕ) → IsPreferred ms wanted t → ⊥) → ⊥

-- what the one asks for, the other asks for
abbrev pub AreAmong : List Need → List Need → Type 0
AreAmong some all = (w : Need) → Contains some w → Contains all w

-- valid and preferred sets depend on what is wanted, and neither on its order nor on how often it is wanted
abbrev pub DependsOnElements : Type 0
DependsOnElements = (ms : List Member) (v w : List Need) (s : List ℕ) → AreAmong v w → AreAmong w v → (IsValid ms v s → IsValid ms w s) ×
    (IsPreferred ms v s → IsPreferred ms w s)
