-- Recipes that may be chosen, kept in order.
use Rattle.std.specs.Prelude.{◌≡◌, ◌≢◌, ◌⊎◌, ℕ, ◌<◌, ◌^◌, List, ◌∷◌, ◌++◌, length, codes, Ok}
use Rattle.std.specs.List.{All, Contains}
use Rattle.std.specs.Ordering.{nat_cmp, ordering_then}
use Rattle.std.specs.Cmp.Lexicographic.{slice_cmp}
use Rattle.std.specs.declared.cmp.Ordering.{Ordering}
use Rattle.npm_ranges.specs.Versions.{version_order}
use Rattle.serde_json.specs.Data.{Data, string, object, no_members, member}
use Rattle.nuc_base.specs.declared.platform.Platform.{Platform}
use Rattle.recipe_reader.specs.Spelled.{spelled}
use Rattle.recipe_reader.specs.Recipes.{ReadsRecipe}
use Rattle.recipe_reader.specs.Members.{Member, members, IsRising}
use Rattle.recipe_reader.specs.declared.candidate.Candidate.{Candidate}
use Rattle.recipe_reader.specs.declared.fault.Key.TheVariants as key

-- the recipe is what its bytes say for the platform
abbrev pub IsReadFor : Platform → Candidate → Type 0
IsReadFor p c = ReadsRecipe c.bytes p (Ok c.recipe)

-- for some platform
abbrev pub IsRead : Candidate → Type 0
IsRead c = (p : Platform) × IsReadFor p c

-- each is before all that come later, and what its bytes say
pub record AreCandidates (cs : List Candidate) : Type 0 where
  pub rising : IsRising (members cs)
  pub read : All IsRead cs
  pub count : length cs < 2 ^ 32

-- by name, then by version
abbrev pub member_order : Member → Member → Ordering
member_order a b = ordering_then (slice_cmp nat_cmp a.name b.name) (version_order a.version b.version)

-- ---- the built-in component

abbrev pub nucleus_name : List ℕ
nucleus_name = codes "aws.greengrass.Nucleus"

-- the bytes of its recipe
abbrev pub nucleus_bytes : List ℕ → List ℕ
nucleus_bytes version =
    codes "{\"ComponentName\":\"aws.greengrass.Nucleus\",\"ComponentVersion\":\""
    ++ version
    ++ codes "\",\"RecipeFormatVersion\":\"2020-01-25\"}"

-- the value that they are the text of
abbrev pub nucleus_data : List ℕ → Data
nucleus_data version = object
    (member (spelled key.ComponentName) (string nucleus_name)
    (member (spelled key.ComponentVersion) (string version)
    (member (spelled key.RecipeFormatVersion) (string (codes "2020-01-25")) no_members)))

-- the built-in candidate, which reads on each platform alike
pub record IsNucleus (v : List ℕ) (c : Candidate) : Type 0 where
  pub name : c.recipe.name ≡ nucleus_name
  pub version : c.recipe.version ≡ v
  pub bytes : c.bytes ≡ nucleus_bytes v
  pub read : (p : Platform) → IsReadFor p c

-- ---- one more

-- of the same name and version
pub record IsAlike (c d : Candidate) : Type 0 where
  pub name : c.recipe.name ≡ d.recipe.name
  pub version : c.recipe.version ≡ d.recipe.version

-- one of them has that name and version, and other bytes
pub record HasClash (cs : List Candidate) (c : Candidate) : Type 0 where
  pub with : Candidate
  pub there : Contains cs with
  pub alike : IsAlike with c
  pub differs : with.bytes ≢ c.bytes

-- one of them has that name and version, and the same bytes
pub record HasSameCandidate (cs : List Candidate) (c : Candidate) : Type 0 where
  pub as_one : Candidate
  pub there : Contains cs as_one
  pub alike : IsAlike as_one c
  pub same : as_one.bytes ≡ c.bytes

-- it is put among the others, none of which has that name and version
pub record IsPutIn (cs : List Candidate) (c : Candidate) (more : List Candidate) : Type 0 where
  pub before : List Candidate
  pub after : List Candidate
  pub was : cs ≡ before ++ after
  pub is : more ≡ before ++ c ∷ after
  pub free : (d : Candidate) → Contains cs d → IsAlike d c → ⊥

-- what adding makes of them
abbrev pub IsAdded : List Candidate → Candidate → List Candidate → Type 0
IsAdded cs c more = (HasSameCandidate cs c × (more ≡ cs)) ⊎ IsPutIn cs c more
