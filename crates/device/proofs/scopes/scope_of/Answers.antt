use Rattle.std.proofs.Common.{◌≡◌, ◌<◌, length, get_or, map, subst, sym}
use Rattle.std.proofs.lemmas.Result.{IfOk-weaker}
use Rattle.records.specs.Stored.{item_view}
use Rattle.device.specs.Scopes.{IsScopeOf, IsScopeBy}
use Rattle.device.proofs.ScopeLoops.{there_below, there_is, there_has_recipe, scope_whole}
use Rattle.device.proofs.scopes.scope_of.Goals as goal

pub bounds-items-at : goal.bounds-items-at
bounds-items-at c =
    subst (λ xs. c.args.at < length xs) (sym c.as_slice-items.ensures) (there_below c.args.origin.now c.args.items.now c.args.at c.requires.recipe)

pub known_recipe-requires : goal.known_recipe-requires
known_recipe-requires c =
    let x = c.index-items-at.result in
    let is = subst (λ xs. x ≡ get_or xs c.args.at x) c.as_slice-items.ensures c.index-items-at.is in
    there_has_recipe c.args.origin.now c.args.items.now c.args.at x c.requires.recipe is

pub returns : goal.returns
returns c =
    let origin = c.args.origin.now in
    let items = c.args.items.now in
    let at = c.args.at in
    let x = c.index-items-at.result in
    let recipe = c.in_ok-recipe.recipe in
    let is = subst (λ xs. x ≡ get_or xs at x) c.as_slice-items.ensures c.index-items-at.is in
    let there = there_is origin items at x c.requires.recipe is in
    IfOk-weaker c.scope_by.result (IsScopeBy origin recipe x c.as_slice-items.result.now) (IsScopeOf origin (map item_view items) at)
    (λ scope s. scope_whole origin items at x recipe scope there c.requires.regular c.in_ok-recipe.ensures
    (subst (λ xs. IsScopeBy origin recipe x xs scope) c.as_slice-items.ensures s))
    c.scope_by.ensures
