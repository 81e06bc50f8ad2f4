use Rattle.std.proofs.Common.{subst, MatchOption}
use Rattle.recipe_reader.specs.OneRecipe.{IsRecipeFor}
use Rattle.device.specs.Plans.{IsNoRecipe}
use Rattle.device.proofs.scopes.known_recipe.Goals as goal

pub unreachable-requires : goal.unreachable-requires
unreachable-requires c =
    let platform = c.args.platform.now in
    let none = subst (λ o. MatchOption o (IsNoRecipe platform c.as_slice.result.now) (IsRecipeFor c.as_slice.result.now platform)) c.in-None.is
    c.in_ok-recipe.ensures in
    let no_recipe = subst (IsNoRecipe platform) c.as_slice.ensures none in
    no_recipe c.requires.0 c.requires.1
