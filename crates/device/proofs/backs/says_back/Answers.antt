use Rattle.std.proofs.Common.{List, ℕ, MatchOption, subst}
use Rattle.recipe_reader.specs.OneRecipe.{IsRecipeFor}
use Rattle.device.specs.Plans.{IsNoRecipe}
use Rattle.device.proofs.backs.says_back.Goals as goal

pub returns-in-Some : goal.returns-in-Some
returns-in-Some c =
    let platform = c.args.platform.now in
    let bytes = c.as_slice.result.now in
    let reads = subst (λ o. MatchOption o (IsNoRecipe platform bytes) (IsRecipeFor bytes platform)) c.in-Some.is c.in_ok-recipe.ensures in
    let here = subst (λ (b : List ℕ). IsRecipeFor b platform c.in-Some.recipe) c.as_slice.ensures reads in
    ((c.in-Some.recipe, here), c.recipe_laws.ensures.boot_back c.args.item.now.recipe platform c.in-Some.recipe here)

pub returns-in-None : goal.returns-in-None
returns-in-None c =
    let platform = c.args.platform.now in
    let bytes = c.as_slice.result.now in
    let none = subst (λ o. MatchOption o (IsNoRecipe platform bytes) (IsRecipeFor bytes platform)) c.in-None.is c.in_ok-recipe.ensures in
    let no_recipe = subst (IsNoRecipe platform) c.as_slice.ensures none in
    λ h. no_recipe h.0 h.1
