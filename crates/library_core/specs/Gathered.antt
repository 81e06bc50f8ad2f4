-- The candidates of a device and a library, or the first refusal.
use Rattle.std.specs.Prelude.{◌≡◌, ◌⊎◌, ℕ, ◌<◌, List, [], ◌∷◌, ◌++◌, length, map, take, slice_index_or, ◌↔◌, All, Contains}
use Rattle.nuc_base.specs.declared.platform.Platform.{Platform}
use Rattle.recipe_reader.specs.Members.{members, IsRising}
use Rattle.recipe_reader.specs.Candidates.{IsReadFor}
use Rattle.recipe_reader.specs.declared.candidate.Candidate.{Candidate}
use Rattle.recipe_reader.specs.declared.fault.RecipeFault.{RecipeFault}
use Rattle.records.specs.declared.record.Origin.{Origin}
use Rattle.records.specs.Stored.{Item}
use Rattle.library_core.specs.Sources.{Source, source, own, IsTaken, MayPass, IsFaulty, IsSource, HasNoClash, IsAgainst}

-- the most recipes of a library
abbrev pub most : ℕ
most = 1024

-- the candidates in order, each what its bytes say for the platform: as a set they are the sources
pub record AreGathered (mine : List Source) (p : Platform) (recipes : List (List ℕ)) (cs : List Candidate) : Type 0 where
  pub rising : IsRising (members cs)
  pub read : All (IsReadFor p) cs
  pub whole : (s : Source) → Contains (map source cs) s ↔ IsSource mine p recipes s

-- the candidates of what the device has and of some recipes, as one finds them where a library tells nothing
abbrev pub IsGatheredOf : Origin → List Item → List Candidate → Type 0
IsGatheredOf origin kept cs = (recipes : List (List ℕ)) × AreGathered (own origin kept) origin.platform recipes cs

-- a candidate of a kept item's name and version has its recipe
abbrev pub KeepBytes : List Item → List Candidate → Type 0
KeepBytes kept cs = (i : Item) (c : Candidate) → Contains kept i → Contains cs c → c.recipe.name ≡ i.name → c.recipe.version ≡ i.version → c.bytes ≡ i.recipe

-- ---- the first refusal

-- the first recipe with a fault
pub record IsFirstFaulty (p : Platform) (recipes : List (List ℕ)) (at : ℕ) (fault : RecipeFault) : Type 0 where
  pub within : at < length recipes
  pub before : All (MayPass p) (take at recipes)
  pub faulty : IsFaulty p (slice_index_or recipes at []) fault

-- the first of the device's own sources that clashes with one before it
pub record IsFirstOwnClash (mine : List Source) (s : Source) : Type 0 where
  pub before : List Source
  pub after : List Source
  pub is : mine ≡ before ++ s ∷ after
  pub agree : HasNoClash (Contains before)
  pub against : IsAgainst (Contains before) s

-- the first recipe that clashes with one of the device's own sources or with a recipe before it
pub record IsFirstClash (mine : List Source) (p : Platform) (recipes : List (List ℕ)) (s : Source) : Type 0 where
  pub before : List (List ℕ)
  pub bytes : List ℕ
  pub after : List (List ℕ)
  pub is : recipes ≡ before ++ bytes ∷ after
  pub taken : IsTaken p bytes s
  pub agree : HasNoClash (IsSource mine p before)
  pub against : IsAgainst (IsSource mine p before) s

-- a source of that name and version
abbrev pub HasSource : List ℕ → List ℕ → (Source → Type 0) → Type 0
HasSource name version P = (s : Source) × (s.name ≡ name) × (s.version ≡ version) × P s

-- it clashes with one of the device's own sources
abbrev pub IsFirstDiffering : List Source → Platform → List (List ℕ) → Source → Type 0
IsFirstDiffering mine p recipes s = IsFirstOwnClash mine s ⊎ (IsFirstClash mine p recipes s × IsAgainst (Contains mine) s)

-- it clashes with an earlier recipe alone
abbrev pub IsSecond : List Source → Platform → List (List ℕ) → Source → Type 0
IsSecond mine p recipes s = IsFirstClash mine p recipes s × (IsAgainst (Contains mine) s → ⊥)
