-- Names each of which needs one of them again.
use Rattle.std.specs.Prelude.{◌≡◌, ◌⊎◌, ℕ, ◌+◌, ◌-◌, ◌≤◌, Bool, true, false, List, length, get_or, Some}
use Rattle.std.specs.List.{Contains}
use Rattle.recipe_reader.specs.Members.{Need, Member}
use Rattle.recipe_reader.specs.Sets.{name_of, needs_of}
use Rattle.conflict_search.specs.Numbers.{IsFirstPlace}
use Rattle.conflict_search.specs.Terms.{Has, IsTerm}
use Rattle.conflict_search.specs.declared.terms.Term.{Term}

-- the table has the name with that first place
abbrev pub IsAmong : List Bool → ℕ → Type 0
IsAmong table first = get_or table first false ≡ true

-- the place needs some name of the table
abbrev pub NeedsSome : List Member → List Bool → ℕ → Type 0
NeedsSome ms among p = (d : Need) × Contains (needs_of ms p) d × (g : ℕ) × IsFirstPlace ms d.name g × IsAmong among g

-- the set has no version but such as need some name of the table
pub record IsNeeding (ms : List Member) (among : List Bool) (t : Term) : Type 0 where
  pub term : IsTerm ms t
  pub only : (v : ℕ) → Has t.set.items v → (v ≡ 0) ⊎ ((q : ℕ) × (t.from ≤ q) × (v ≡ q + 1 - t.from) × NeedsSome ms among q)

-- a name is listed only where one of the places has it
abbrev pub AreListedOf : (ℕ → ℕ) → List ℕ → List Bool → Type 0
AreListedOf first places listed = (f : ℕ) → IsAmong listed f → (x : ℕ) × Contains places x × (first x ≡ f)

-- each version of a name of the table that is not listed needs some name of the table
abbrev pub IsClosed : List Member → List Bool → List Bool → Type 0
IsClosed ms listed among = (p : ℕ) (n : List ℕ) (f : ℕ) → name_of ms p ≡ Some n → IsFirstPlace ms n f → IsAmong among f →
    IsAmong listed f ⊎ NeedsSome ms among p

-- each of the places has a term of versions that need some name of the table, and one of these has no "absent"
pub record AreNeeding (ms : List Member) (among : List Bool) (first : ℕ → ℕ) (places : List ℕ) (terms : List Term) : Type 0 where
  pub each : (x : ℕ) → Contains places x → (t : Term) × Contains terms t × (t.from ≡ first x)
  pub sets : (t : Term) → Contains terms t → IsNeeding ms among t
  pub present : (t : Term) × Contains terms t × IsAmong among t.from × (Has t.set.items 0 → ⊥)
