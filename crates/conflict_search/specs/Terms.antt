-- What a walk has of each name, as a value, and what nogoods and domains say of it. A name is known by the first of its places.
use Rattle.std.specs.Prelude.{◌≡◌, ◌≢◌, ◌⊎◌, ℕ, ◌+◌, ◌-◌, ◌*◌, ◌/◌, ◌%◌, ◌<◌, List, [], length, get_or, Some}
use Rattle.std.specs.Int.{bit_at}
use Rattle.std.specs.List.{All, Contains}
use Rattle.recipe_reader.specs.Members.{Need, Member}
use Rattle.recipe_reader.specs.Sets.{name_of, IsTaken, IsWalk}
use Rattle.recipe_reader.specs.Searches.{IsConsistent, IsBest}
use Rattle.conflict_search.specs.Numbers.{IsNumber, IsNumberAt, IsFirstPlace}
use Rattle.conflict_search.specs.declared.names.Names.{Names}
use Rattle.conflict_search.specs.declared.terms.Term.{Term}
use Rattle.conflict_search.specs.declared.nogoods.Nogoods.{Nogoods}

-- the set of numbers, in words of bits, has the value; behind its words it has none
unfoldable pub Has : List ℕ → ℕ → Type 0
Has set v = bit_at (get_or set (v / 64) 0) (v % 64) ≡ 1

-- by place, the first and the last place that have its name
pub record AreNames (ms : List Member) (names : Names) : Type 0 where
  pub first_count : length names.first.items ≡ length ms
  pub last_count : length names.last.items ≡ length ms
  pub first : (p : ℕ) (n : List ℕ) → name_of ms p ≡ Some n → IsFirstPlace ms n (get_or names.first.items p 0)
  pub last : (p : ℕ) (n : List ℕ) → name_of ms p ≡ Some n → IsNumber ms n (get_or names.last.items p 0)

-- what the walk has of the name with that first place: 0 where it has no version of it, or its version, the oldest of the name counted as 1
pub record IsValue (ms : List Member) (walk : List ℕ) (first v : ℕ) : Type 0 where
  pub name : List ℕ
  pub is : IsFirstPlace ms name first
  pub choice : ((v ≡ 0) × (IsTaken ms walk name → ⊥)) ⊎ ((p : ℕ) × Contains walk p × (name_of ms p ≡ Some name) × (v ≡ p + 1 - first))

-- a set of values of a name: its words stand at places of the name, and there is a bit for each value
pub record IsTerm (ms : List Member) (t : Term) : Type 0 where
  pub name : List ℕ
  pub is : IsFirstPlace ms name t.from
  pub inside : (j : ℕ) → j < length t.set.items → name_of ms (t.from + j) ≡ Some name
  pub covers : (p : ℕ) → name_of ms p ≡ Some name → p + 1 - t.from < 64 * length t.set.items

-- a whole walk against which nothing stands: the walk of a valid set
pub record Stands (ms : List Member) (wanted : List Need) (walk : List ℕ) : Type 0 where
  pub is_walk : IsWalk ms wanted [] walk
  pub consistent : IsConsistent ms wanted walk

-- what the walk has of the term's name is in the term's set
abbrev pub Meets : List Member → List ℕ → Term → Type 0
Meets ms walk t = (v : ℕ) × IsValue ms walk t.from v × Has t.set.items v

-- no walk that stands meets all terms
pub record IsNogood (ms : List Member) (wanted : List Need) (terms : List Term) : Type 0 where
  pub sets : (t : Term) → Contains terms t → IsTerm ms t
  pub none : (walk : List ℕ) → Stands ms wanted walk → ((t : Term) → Contains terms t → Meets ms walk t) → ⊥

abbrev pub AreNogoods : List Member → List Need → Nogoods → Type 0
AreNogoods ms wanted nogoods = All (λ terms. IsNogood ms wanted terms.items) nogoods.list.items

-- a row has a set of values for each name, from the word of the name's first place on: the row has what the walk has of the name
abbrev pub MeetsRow : List Member → List ℕ → List ℕ → ℕ → Type 0
MeetsRow ms walk row first = (v : ℕ) × IsValue ms walk first v × Has row (64 * first + v)

-- no walk that stands has of each name what is in the row
pub record IsNogoodRow (ms : List Member) (wanted : List Need) (row : List ℕ) : Type 0 where
  pub count : length row ≡ length ms
  pub none : (walk : List ℕ) → Stands ms wanted walk → ((n : List ℕ) (first : ℕ) → IsFirstPlace ms n first → MeetsRow ms walk row first) → ⊥

-- each walk that stands and has the taken places has of each name what is in its domain
pub record IsSound (ms : List Member) (wanted : List Need) (taken row : List ℕ) : Type 0 where
  pub has : (walk : List ℕ) → Stands ms wanted walk → ((x : ℕ) → Contains taken x → Contains walk x) →
      (first v : ℕ) → IsValue ms walk first v → Has row (64 * first + v)

-- of the term's name the row has nothing but what is in the term's set
abbrev pub IsWithin : List ℕ → Term → Type 0
IsWithin row t = (v : ℕ) → v < 64 * length t.set.items → Has row (64 * t.from + v) → Has t.set.items v

-- of each term but that one
abbrev pub AreOthersWithin : List ℕ → List Term → ℕ → Type 0
AreOthersWithin row terms at = (k : ℕ) (t : Term) → k < length terms → k ≢ at → IsWithin row (get_or terms k t)

-- the row has the place
abbrev pub IsLeft : List Member → List ℕ → ℕ → Type 0
IsLeft ms row p = (n : List ℕ) (first : ℕ) → name_of ms p ≡ Some n → IsFirstPlace ms n first → Has row (64 * first + (p + 1 - first))

-- the row has no place behind that one of the name with that number
abbrev pub IsGreatestLeft : List Member → List ℕ → ℕ → ℕ → Type 0
IsGreatestLeft ms row number p = (q : ℕ) → IsNumberAt ms q number → p < q → IsLeft ms row q → ⊥

-- what is best from the places is best from the start
pub record GoesOn (ms : List Member) (wanted : List Need) (taken : List ℕ) : Type 0 where
  pub on : (all : List ℕ) → IsBest ms wanted taken all → IsBest ms wanted [] all
