-- Which names are open for some taken places.
use Rattle.std.specs.Prelude.{◌≡◌, ◌⊎◌, ℕ, List, map, Some}
use Rattle.std.specs.List.{Contains}
use denote.Bor.{Bor}
use Rattle.recipe_reader.specs.Members.{Need, Member}
use Rattle.recipe_reader.specs.Sets.{name_of, required_names, IsTaken}
use Rattle.why_not.specs.Certificates.{IsOpen}

-- what the references point to
abbrev pub listed : List (Bor (List ℕ)) → List (List ℕ)
listed names = map (λ (n : Bor (List ℕ)). n.now) names

-- each of the names is open, and each required name is among them or taken
pub record IsFront (ms : List Member) (wanted : List Need) (taken : List ℕ) (names : List (List ℕ)) : Type 0 where
  pub are_open : (n : List ℕ) → Contains names n → IsOpen ms wanted taken n
  pub all : (n : List ℕ) → Contains (required_names ms wanted taken) n → IsTaken ms taken n ⊎ Contains names n

-- the new names are the old ones but that of the place
pub record LeavesOut (ms : List Member) (place : ℕ) (old new : List (List ℕ)) : Type 0 where
  pub only : (n : List ℕ) → Contains new n → Contains old n × (name_of ms place ≡ Some n → ⊥)
  pub all : (n : List ℕ) → Contains old n → (name_of ms place ≡ Some n) ⊎ Contains new n

-- the new names are the old ones and those of the needed names of which no place is taken
pub record AddsOpen (ms : List Member) (taken : List ℕ) (needed old new : List (List ℕ)) : Type 0 where
  pub kept : (n : List ℕ) → Contains old n → Contains new n
  pub only : (n : List ℕ) → Contains new n → Contains old n ⊎ (Contains needed n × (IsTaken ms taken n → ⊥))
  pub all : (n : List ℕ) → Contains needed n → IsTaken ms taken n ⊎ Contains new n
