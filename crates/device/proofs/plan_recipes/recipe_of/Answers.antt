use Rattle.std.proofs.Common.{subst, MatchOption}
use Rattle.std.proofs.lemmas.Bool.{false≢true}
use Rattle.recipe_reader.specs.OneRecipe.{IsRecipeFor}
use Rattle.records.specs.Stored.{item_view}
use Rattle.device.specs.Plans.{IsNoRecipe}
use Rattle.device.proofs.PlanWhole.{not_recipe}
use Rattle.device.proofs.plan_recipes.recipe_of.Goals as goal

pub returns-else-is_recipe_of : goal.returns-else-is_recipe_of
returns-else-is_recipe_of c =
    let platform = c.args.platform.now in
    let item = c.args.item.now in
    let r = c.in-Some.recipe in
    let here = subst (λ o. MatchOption o (IsNoRecipe platform c.as_slice.result.now) (IsRecipeFor c.as_slice.result.now platform)) c.in-Some.is
    c.in_ok-recipe.ensures in
    let reads = subst (λ bytes. IsRecipeFor bytes platform r) c.as_slice.ensures here in
    not_recipe c.recipe_laws.ensures.one_recipe platform (item_view item) r reads (λ is. false≢true (c.if-is_recipe_of.ensures.1 is))

pub returns-in-None : goal.returns-in-None
returns-in-None c =
    let platform = c.args.platform.now in
    let none = subst (λ o. MatchOption o (IsNoRecipe platform c.as_slice.result.now) (IsRecipeFor c.as_slice.result.now platform)) c.in-None.is
    c.in_ok-recipe.ensures in
    let no_recipe = subst (IsNoRecipe platform) c.as_slice.ensures none in
    λ h. no_recipe h.0 h.1.reads
