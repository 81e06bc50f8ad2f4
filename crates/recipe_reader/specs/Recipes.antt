-- The lines of a recipe, and the recipe that they name.
use Rattle.std.specs.Prelude.{◌≡◌, ◌⊎◌, ℕ, Bool, List, ◌++◌, codes, Option, Some, None, Result, MatchResult}
use Rattle.serde_json.specs.Data.{Data, string, object, no_members}
use Rattle.serde_json.specs.Find.{get}
use Rattle.nuc_base.specs.Names.{IsName}
use Rattle.nuc_base.specs.Tables.{Table, AllHold, IsFirst, on}
use Rattle.nuc_base.specs.declared.platform.Platform.{Platform}
use Rattle.npm_ranges.specs.Versions.{IsVersion}
use Rattle.tree_core.specs.Parts.{present, IsTextOf, IsObject, check, optional, required}
use Rattle.tree_core.specs.Reading.{IsTreeOf, IsFirstFault}
use Rattle.tree_core.specs.Regular.{IsRegular}
use Rattle.tree_core.specs.View.{view}
use Rattle.tree_core.specs.declared.fault.TreeFault.{TreeFault}
use Rattle.tree_core.specs.declared.fault.TreeFault.TheVariants as tree
use Rattle.recipe_reader.specs.Spelled.{spelled}
use Rattle.recipe_reader.specs.Platforms.{manifests_lines, chosen_in}
use Rattle.recipe_reader.specs.Dependencies.{dependencies_lines, AreDependencies}
use Rattle.recipe_reader.specs.Steps.{text_lines, step_of}
use Rattle.recipe_reader.specs.Lifecycles.{lifecycle_lines, AreSteps, back_of}
use Rattle.recipe_reader.specs.Artifacts.{artifacts_lines, AreArtifacts}
use Rattle.recipe_reader.specs.declared.recipe.Recipe.{Recipe}
use Rattle.recipe_reader.specs.declared.fault.Key.{Key}
use Rattle.recipe_reader.specs.declared.fault.Key.TheVariants as key
use Rattle.recipe_reader.specs.declared.fault.RecipeFault.{RecipeFault}
use Rattle.recipe_reader.specs.declared.fault.RecipeFault.TheVariants as fault

-- ---- what the component is

abbrev pub needed : Key → Data → (Data → Table RecipeFault) → Table RecipeFault
needed k d lines = required (spelled k) (fault.Missing k) d lines

abbrev pub format_lines : Data → Table RecipeFault
format_lines v = text_lines key.RecipeFormatVersion v ++ check (v ≡ string (codes "2020-01-25")) fault.FormatVersion

abbrev pub name_lines : Data → Table RecipeFault
name_lines v = text_lines key.ComponentName v ++ check (IsTextOf IsName v) (fault.BadName key.ComponentName)

abbrev pub version_lines : Data → Table RecipeFault
version_lines v = text_lines key.ComponentVersion v ++ check (IsTextOf IsVersion v) fault.BadVersion

abbrev pub type_lines : Data → Table RecipeFault
type_lines v = text_lines key.ComponentType v ++ check (v ≡ string (codes "aws.greengrass.generic")) fault.UnsupportedType

abbrev pub global_lines : Data → Table RecipeFault
global_lines v = check (v ≡ object no_members) fault.GlobalLifecycle

abbrev pub head_lines : Data → Table RecipeFault
head_lines d =
    check (IsObject d) (fault.WrongKind key.Recipe)
    ++ needed key.RecipeFormatVersion d format_lines
    ++ needed key.ComponentName d name_lines
    ++ needed key.ComponentVersion d version_lines
    ++ optional (spelled key.ComponentType) d type_lines
    ++ optional (spelled key.Lifecycle) d global_lines

-- ---- its configuration

abbrev pub object_lines : Key → Data → Table RecipeFault
object_lines k v = check (IsObject v) (fault.WrongKind k)

abbrev pub config_lines : Data → Table RecipeFault
config_lines v =
    object_lines key.ComponentConfiguration v
    ++ optional (spelled key.DefaultConfiguration) v (object_lines key.DefaultConfiguration)

-- the value of a key of a value that may be absent
abbrev pub inner : Key → Option Data → Option Data
inner k None = None
inner k (Some v) = present (get (spelled k) v)

-- the value, or the empty object
abbrev pub IsDefault : Option Data → Data → Type 0
IsDefault None d = d ≡ object no_members
IsDefault (Some v) d = d ≡ v

-- ---- what the manifest for the platform says

abbrev pub manifest_of : Platform → Data → Option Data
manifest_of platform d = chosen_in platform (present (get (spelled key.Manifests) d))

-- whether the bootstrap runs again on the way back
abbrev pub back_in : Platform → Data → Bool
back_in platform d = back_of (inner key.Lifecycle (manifest_of platform d))

abbrev pub chosen_lines : Data → Table RecipeFault
chosen_lines m =
    optional (spelled key.Lifecycle) m lifecycle_lines
    ++ optional (spelled key.Artifacts) m artifacts_lines

abbrev pub part_lines : Platform → Data → Table RecipeFault
part_lines platform d =
    optional (spelled key.Manifests) d (manifests_lines platform)
    ++ on (manifest_of platform d) chosen_lines

-- ---- the whole

abbrev pub recipe_lines : Platform → Data → Table RecipeFault
recipe_lines platform d =
    head_lines d
    ++ optional (spelled key.ComponentConfiguration) d config_lines
    ++ optional (spelled key.ComponentDependencies) d dependencies_lines
    ++ part_lines platform d

pub record IsRecipe (platform : Platform) (d : Data) (recipe : Recipe) : Type 0 where
  pub name : get (spelled key.ComponentName) d ≡ Some (string recipe.name)
  pub version : get (spelled key.ComponentVersion) d ≡ Some (string recipe.version)
  pub default_config : IsDefault (inner key.DefaultConfiguration (present (get (spelled key.ComponentConfiguration) d))) (view recipe.default_config)
  pub regular : IsRegular (view recipe.default_config)
  pub dependencies : AreDependencies (present (get (spelled key.ComponentDependencies) d)) recipe.dependencies
  pub steps : AreSteps (inner key.Lifecycle (manifest_of platform d)) (step_of recipe)
  pub boot_back : recipe.boot_back ≡ back_in platform d
  pub artifacts : AreArtifacts (inner key.Artifacts (manifest_of platform d)) recipe.artifacts

-- the most bytes of a recipe
abbrev pub limit : ℕ
limit = 65536

-- the fault of the first line that fails, where the first of all asks that the bytes are a tree
abbrev pub IsFault : List ℕ → Platform → RecipeFault → Type 0
IsFault bytes platform f =
    ((t : TreeFault) × (f ≡ fault.Tree t) × IsFirstFault bytes limit t × (t ≡ tree.NoMemory → ⊥))
    ⊎ ((d : Data) × IsTreeOf bytes limit d × IsFirst (recipe_lines platform d) f)

-- what reading a recipe answers, where want of memory is free
abbrev pub ReadsRecipe : List ℕ → Platform → Result Recipe RecipeFault → Type 0
ReadsRecipe bytes platform result = MatchResult result
    (λ recipe. (d : Data) × IsTreeOf bytes limit d × AllHold (recipe_lines platform d) × IsRecipe platform d recipe)
    (λ f. (f ≡ fault.NoMemory) ⊎ IsFault bytes platform f)
