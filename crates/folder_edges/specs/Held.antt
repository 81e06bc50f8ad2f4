-- What the recipes in a folder have.
use Rattle.std.specs.Prelude.{◌≡◌, ℕ, List, [], Option, Some, None}
use Rattle.folders.specs.History.{Event}
use Rattle.folder_edges.specs.declared.recipes.FolderRecipes.{FolderRecipes}
use Rattle.folder_edges.specs.Recipes.{HoldsRecipes}

abbrev pub recipes_folder : {F : Type 0} → FolderRecipes F → F
recipes_folder r = r.folder

-- what is held, where something is
abbrev pub recipes_held : {F : Type 0} → FolderRecipes F → Option (List (List ℕ))
recipes_held r = r.held

abbrev pub held_now : Option (List (List ℕ)) → List (List ℕ)
held_now None = []
held_now (Some recipes) = recipes

-- what was held is held on, and where nothing was the folder was read
abbrev pub Holds : List Event → Option (List (List ℕ)) → Option (List (List ℕ)) → Type 0
Holds found (Some recipes) new = new ≡ Some recipes
Holds found None (Some recipes) = HoldsRecipes found recipes
Holds found None None = ⊥
