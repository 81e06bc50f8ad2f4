-- Where candidates come from: the built-in component, what a device keeps, and a library.
use Rattle.std.specs.Prelude.{◌≡◌, ◌≢◌, ◌⊎◌, ℕ, List, ◌∷◌, map, Ok, Contains}
use Rattle.nuc_base.specs.declared.platform.Platform.{Platform}
use Rattle.records.specs.declared.record.Origin.{Origin}
use Rattle.records.specs.Stored.{Item}
use Rattle.recipe_reader.specs.Recipes.{ReadsRecipe, IsFault}
use Rattle.recipe_reader.specs.Candidates.{nucleus_name, nucleus_bytes}
use Rattle.recipe_reader.specs.declared.candidate.Candidate.{Candidate}
use Rattle.recipe_reader.specs.declared.recipe.Recipe.{Recipe}
use Rattle.recipe_reader.specs.declared.fault.RecipeFault.{RecipeFault}
use Rattle.recipe_reader.specs.declared.fault.RecipeFault.TheVariants.{NoManifest}

-- a component in one version, and its recipe's bytes
pub record Source : Type 0 where
  pub name : List ℕ
  pub version : List ℕ
  pub bytes : List ℕ

abbrev pub source : Candidate → Source
source c = record { name = c.recipe.name; version = c.recipe.version; bytes = c.bytes }

-- the same name and version, and other bytes
pub record Clash (a b : Source) : Type 0 where
  pub name : a.name ≡ b.name
  pub version : a.version ≡ b.version
  pub differs : a.bytes ≢ b.bytes

-- ---- what a device has of its own

abbrev pub nucleus : List ℕ → Source
nucleus version = record { name = nucleus_name; version = version; bytes = nucleus_bytes version }

abbrev pub kept_source : Item → Source
kept_source i = record { name = i.name; version = i.version; bytes = i.recipe }

-- the built-in component, and then the kept items
abbrev pub own : Origin → List Item → List Source
own origin kept = nucleus origin.nucleus ∷ map kept_source kept

-- its recipe reads for the platform, as that name and version
abbrev pub IsKept : Platform → Item → Type 0
IsKept p i = (recipe : Recipe) × ReadsRecipe i.recipe p (Ok recipe) × (recipe.name ≡ i.name) × (recipe.version ≡ i.version)

-- ---- what a library's recipe is for a platform

-- it reads, and is another component than the built-in one
pub record IsTaken (p : Platform) (bytes : List ℕ) (s : Source) : Type 0 where
  pub recipe : Recipe
  pub reads : ReadsRecipe bytes p (Ok recipe)
  pub other : recipe.name ≢ nucleus_name
  pub is : s ≡ record { name = recipe.name; version = recipe.version; bytes = bytes }

-- it has manifests and none for the platform, or the name of the built-in component
abbrev pub IsSkipped : Platform → List ℕ → Type 0
IsSkipped p bytes = IsFault bytes p NoManifest ⊎ ((recipe : Recipe) × ReadsRecipe bytes p (Ok recipe) × (recipe.name ≡ nucleus_name))

abbrev pub MayPass : Platform → List ℕ → Type 0
MayPass p bytes = IsSkipped p bytes ⊎ ((s : Source) × IsTaken p bytes s)

-- any other fault
abbrev pub IsFaulty : Platform → List ℕ → RecipeFault → Type 0
IsFaulty p bytes fault = IsFault bytes p fault × (fault ≢ NoManifest)

-- ---- together

-- one of the device's own, or a recipe of the library that is taken
abbrev pub IsSource : List Source → Platform → List (List ℕ) → Source → Type 0
IsSource mine p recipes s = Contains mine s ⊎ ((bytes : List ℕ) × Contains recipes bytes × IsTaken p bytes s)

-- no two of them clash
abbrev pub HasNoClash : (Source → Type 0) → Type 0
HasNoClash P = (a b : Source) → P a → P b → Clash a b → ⊥

-- one of them clashes with it
abbrev pub IsAgainst : (Source → Type 0) → Source → Type 0
IsAgainst P s = (a : Source) × P a × Clash a s
