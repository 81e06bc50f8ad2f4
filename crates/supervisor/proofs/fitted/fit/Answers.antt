use Rattle.std.proofs.Common.{◌≡◌, ◌<◌, List, length, get_or, map, subst, sym}
use Rattle.std.proofs.lemmas.Result.{IfOk-weaker}
use Rattle.recipe_reader.specs.OneRecipe.{IsRecipeFor}
use Rattle.records.specs.Stored.{item_view}
use Rattle.records.specs.declared.record.Item as code
use Rattle.device.specs.Plans.{HasSomeRecipe}
use Rattle.components.specs.Made.{IsFittedAt}
use Rattle.components.specs.Runs.{IsFittedBy}
use Rattle.components.proofs.Scoped.{place_below, item_there, recipe_there, fitted_made}
use Rattle.supervisor.proofs.fitted.fit.Goals as goal

pub bounds-items-at : goal.bounds-items-at
bounds-items-at c = subst (λ (xs : List code.Item). c.args.at < length xs) (sym c.as_slice-items.ensures)
    (place_below c.args.origin.now c.args.items.now c.args.at c.requires.recipe)

pub known_recipe-requires : goal.known_recipe-requires
known_recipe-requires c =
    let items = c.args.items.now in
    let x = c.index-items-at.result in
    let is = subst (λ (xs : List code.Item). x ≡ get_or xs c.args.at x) c.as_slice-items.ensures c.index-items-at.is in
    let there = item_there items c.args.at x (place_below c.args.origin.now items c.args.at c.requires.recipe) is in
    subst (λ bs. HasSomeRecipe c.args.origin.now.platform bs) (sym c.as_slice.ensures)
    (recipe_there c.args.origin.now items c.args.at x there c.requires.recipe)

pub returns : goal.returns
returns c =
    let items = c.args.items.now in
    let x = c.index-items-at.result in
    let is = subst (λ (xs : List code.Item). x ≡ get_or xs c.args.at x) c.as_slice-items.ensures c.index-items-at.is in
    let there = item_there items c.args.at x (place_below c.args.origin.now items c.args.at c.requires.recipe) is in
    let reads = subst (λ bs. IsRecipeFor bs c.args.origin.now.platform c.in_ok-recipe.recipe) c.as_slice.ensures c.in_ok-recipe.ensures in
    let scope = c.in_ok-scope.scope in
    IfOk-weaker c.fit_by.result (IsFittedBy scope c.in_ok-recipe.recipe (item_view x)) (IsFittedAt c.args.origin.now (map item_view items) c.args.at)
    (λ f h. fitted_made c.recipe_laws.ensures.one_recipe c.args.origin.now items c.args.at x there c.in_ok-recipe.recipe reads scope c.in_ok-scope.ensures f h)
    c.fit_by.ensures
