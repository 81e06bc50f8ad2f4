-- Whether a component's bootstrap runs again on the way back, as its recipe's bytes say it.
use Rattle.std.specs.Prelude.{◌≡◌, ℕ, Bool, false, List, Option, Some, None}
use Rattle.serde_json.specs.Data.{Data}
use Rattle.serde_json.specs.Read.{read}
use Rattle.nuc_base.specs.declared.platform.Platform.{Platform}
use Rattle.recipe_reader.specs.OneRecipe.{IsRecipeFor}
use Rattle.recipe_reader.specs.Recipes.{back_in}
use Rattle.recipe_reader.specs.declared.recipe.Recipe.{Recipe}

-- what a text says, where it is one of a value
abbrev pub back_read : Platform → Option Data → Bool
back_read platform None = false
back_read platform (Some d) = back_in platform d

-- what the bytes of a recipe say for the platform
unfoldable pub is_back : Platform → List ℕ → Bool
is_back platform bytes = back_read platform (read bytes)

-- for bytes that are a recipe, what the recipe says
abbrev pub IsBack : Type 0
IsBack = (bytes : List ℕ) (platform : Platform) (r : Recipe) → IsRecipeFor bytes platform r → r.boot_back ≡ is_back platform bytes
