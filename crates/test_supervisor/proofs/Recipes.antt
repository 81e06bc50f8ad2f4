-- Each item has a recipe.
use Rattle.std.proofs.Common.{List, [], ◌∷◌}
use Rattle.std.specs.List.{AllByRecursion}
use Rattle.nuc_base.specs.declared.platform.Platform.{Platform}
use Rattle.records.specs.Stored.{Item}
use Rattle.device.specs.Plans.{HasRecipe, HasSomeRecipe}

pub some_recipes : (platform : Platform) (items : List Item) → AllByRecursion (HasRecipe platform) items →
    AllByRecursion (λ i. HasSomeRecipe platform i.recipe) items
some_recipes platform [] h = tt
some_recipes platform (i ∷ items) h = ((h.0.0, h.0.1.reads), some_recipes platform items h.1)
