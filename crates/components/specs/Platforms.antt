-- Items that were made ready for one platform: the same item has the same steps and the same hard needs.
use Rattle.std.specs.Prelude.{◌≡◌, IfSome, List, is_some}
use Rattle.std.specs.List.{AllByRecursion}
use Rattle.nuc_base.specs.declared.platform.Platform.{Platform}
use Rattle.recipe_reader.specs.OneRecipe.{IsRecipeFor}
use Rattle.recipe_reader.specs.declared.recipe.Recipe.{Recipe}
use Rattle.lifecycle.specs.declared.kinds.StepSet.{StepSet}
use Rattle.components.specs.Fitted.{Fitted, steps_of}
use Rattle.components.specs.Components.{ComponentState}
use Rattle.components.specs.Made.{hard_names}

-- the steps that a recipe has
abbrev pub steps_in : Recipe → StepSet
steps_in r = record {
  install = is_some r.install;
  run = is_some r.run;
  startup = is_some r.startup;
  shutdown = is_some r.shutdown;
  recover =
      is_some r.recover;
}

-- it has the steps and the hard needs that its recipe has for the platform
pub record IsFor (platform : Platform) (f : Fitted) : Type 0 where
  pub recipe : Recipe
  pub reads : IsRecipeFor f.item.recipe platform recipe
  pub steps : steps_of f ≡ steps_in recipe
  pub hard : f.hard ≡ hard_names recipe.dependencies

abbrev pub AllFor : Platform → List Fitted → Type 0
AllFor platform fs = AllByRecursion (IsFor platform) fs

-- so has the component's item, and the one that it is to take
abbrev pub RunsFor : Platform → ComponentState → Type 0
RunsFor platform p = IsFor platform p.fitted × IfSome p.next (λ n. IsFor platform n.0)

abbrev pub AllRunFor : Platform → List ComponentState → Type 0
AllRunFor platform parts = AllByRecursion (RunsFor platform) parts
