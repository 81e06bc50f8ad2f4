-- What two readings of the same bytes have in common.
use Rattle.std.specs.Prelude.{◌≡◌, ℕ, List, Ok, Err}
use Rattle.nuc_base.specs.declared.kinds.Step.{Step}
use Rattle.nuc_base.specs.declared.platform.Platform.{Platform}
use Rattle.tree_core.specs.View.{view}
use Rattle.recipe_reader.specs.Recipes.{ReadsRecipe, IsFault}
use Rattle.recipe_reader.specs.Steps.{step_of}
use Rattle.recipe_reader.specs.declared.recipe.Recipe.{Recipe}
use Rattle.recipe_reader.specs.declared.fault.RecipeFault.{RecipeFault}
use Rattle.recipe_reader.specs.declared.fault.RecipeFault.TheVariants.{NoMemory}

-- the bytes are a recipe, which says this for the platform
abbrev pub IsRecipeFor : List ℕ → Platform → Recipe → Type 0
IsRecipeFor bytes platform recipe = ReadsRecipe bytes platform (Ok recipe)

-- one recipe: two trees of one value count as one default configuration
pub record AreAlike (r s : Recipe) : Type 0 where
  pub name : r.name ≡ s.name
  pub version : r.version ≡ s.version
  pub default_config : view r.default_config ≡ view s.default_config
  pub dependencies : r.dependencies ≡ s.dependencies
  pub steps : (step : Step) → step_of r step ≡ step_of s step
  pub boot_back : r.boot_back ≡ s.boot_back
  pub artifacts : r.artifacts ≡ s.artifacts

-- bytes are one recipe at most for a platform
abbrev pub IsOneRecipe : Type 0
IsOneRecipe = (bytes : List ℕ) (platform : Platform) (r s : Recipe) → IsRecipeFor bytes platform r → IsRecipeFor bytes platform s → AreAlike r s

-- bytes have one fault at most for a platform
abbrev pub IsOneFault : Type 0
IsOneFault = (bytes : List ℕ) (platform : Platform) (f g : RecipeFault) → IsFault bytes platform f → IsFault bytes platform g → f ≡ g

-- what is a recipe has no fault
abbrev pub HasNoFault : Type 0
HasNoFault = (bytes : List ℕ) (platform : Platform) (r : Recipe) (f : RecipeFault) → IsRecipeFor bytes platform r → ReadsRecipe bytes platform (Err f)
    → f ≡ NoMemory
