use Rattle.std.proofs.Common.{arith, subst, sym, ◌<◌, ◌≤◌, ◌+◌, length, drop, MatchOption, List}
use Rattle.recipe_reader.specs.declared.recipe.Recipe.{Recipe}
use Rattle.device.specs.PlanNeeds.{HasRecipeAt, IsRecipeAt}
use Rattle.device.proofs.PlanLoops.{Goes, goes_more, goes_bad, goes_end}
use Rattle.device.proofs.plan_recipes.recipes_of.Goals as goal

pub returns-in_default : goal.returns-in_default
returns-in_default c =
    let xs = c.args.items.now in
    let i = c.loop-item.item-index in
    let p = c.args.platform.now in
    let x = c.item-item.result in
    let below : i < length xs = omega arith in
    let none = subst (λ o. MatchOption o (HasRecipeAt p x → ⊥) (IsRecipeAt p x)) c.in_default.is c.in_ok-recipe.ensures in
    goes_bad (HasRecipeAt p) (IsRecipeAt p) xs xs i x c.loop-item.recipes.items below c.item-item.is c.loop-item.invariant none

pub loop-item-preserved : goal.loop-item-preserved
loop-item-preserved c =
    let xs = c.args.items.now in
    let i = c.loop-item.item-index in
    let p = c.args.platform.now in
    let x = c.item-item.result in
    let below : i < length xs = omega arith in
    let is = subst (λ o. MatchOption o (HasRecipeAt p x → ⊥) (IsRecipeAt p x)) c.in-Some.is c.in_ok-recipe.ensures in
    let next = goes_more (HasRecipeAt p) (IsRecipeAt p) xs xs i x c.loop-item.recipes.items c.in-Some.recipe below c.item-item.is c.loop-item.invariant is in
    subst (λ (rs : List Recipe). Goes (HasRecipeAt p) (IsRecipeAt p) xs (drop (i + 1) xs) rs) (sym c.in_ok-push.ensures.items) next

pub returns : goal.returns
returns c =
    let xs = c.args.items.now in
    let i = c.loop-item.item-index in
    let p = c.args.platform.now in
    let past : length xs ≤ i = omega arith in
    goes_end (HasRecipeAt p) (IsRecipeAt p) xs xs i c.loop-item.recipes.items past c.loop-item.invariant
