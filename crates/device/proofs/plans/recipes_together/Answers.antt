use Rattle.std.proofs.Common.{false, true, refl, sym, subst, ap, rules, ◌∙◌, ◌≡◌, length, MatchOption}
use Rattle.std.proofs.lemmas.Bool.{false≢true}
use Rattle.std.specs.List.{AllByRecursion, AllZip}
use Rattle.records.specs.Stored.{item_view}
use Rattle.device.specs.PlanNeeds.{HasRecipeAt, IsRecipeAt, FitsTogether}
use Rattle.device.specs.Plans.{HasRecipe, HasConfig}
use Rattle.device.proofs.PlanPlaces.{long}
use Rattle.device.proofs.PlanWhole.{all_back, items_listed, items_whole, items_fit}
use Rattle.device.proofs.plans.recipes_together.Goals as goal

pub returns-then-not-are_listed : goal.returns-then-not-are_listed
returns-then-not-are_listed c = λ is. absurd (false≢true (c.if-not-are_listed.ensures.1 (items_listed c.args.platform.now c.args.items.now is)))

pub returns-then-not-are_configured : goal.returns-then-not-are_configured
returns-then-not-are_configured c =
    let e : c.in_ok-are_configured.are_configured ≡ false = search rules in
    λ is. absurd (false≢true (sym e ∙ c.in_ok-are_configured.ensures.1 (all_back item_view HasConfig c.args.items.now is.configs)))

pub are_in_order-requires-clause-count : goal.are_in_order-requires-clause-count
are_in_order-requires-clause-count c =
    let p = c.args.platform.now in
    let items = c.args.items.now in
    let zip = subst (λ o. MatchOption o (AllByRecursion (HasRecipeAt p) items → ⊥) (λ rs. AllZip (IsRecipeAt p) items rs.items)) c.in-Some.is
    c.in_ok-recipes.ensures in
    ap length c.as_slice.ensures.value ∙ long (IsRecipeAt p) items c.in-Some.recipes.items zip

pub returns-then-fit : goal.returns-then-fit
returns-then-fit c =
    let p = c.args.platform.now in
    let items = c.args.items.now in
    let recipes = c.in-Some.recipes.items in
    let zip = subst (λ o. MatchOption o (AllByRecursion (HasRecipeAt p) items → ⊥) (λ rs. AllZip (IsRecipeAt p) items rs.items)) c.in-Some.is
    c.in_ok-recipes.ensures in
    let here : c.in_ok-are_configured.are_configured ≡ true = search rules in
    let fits = subst (FitsTogether items) c.as_slice.ensures.value (c.in_ok-fit.ensures.0 c.if-fit.true) in
    record {
      are_items = items_whole c.recipe_laws.ensures.one_recipe p items recipes zip (c.if-not-are_listed.ensures.0 refl)
          (c.in_ok-are_configured.ensures.0 here) fits;
      each = zip;
    }

pub returns-else-fit : goal.returns-else-fit
returns-else-fit c =
    let p = c.args.platform.now in
    let items = c.args.items.now in
    let recipes = c.in-Some.recipes.items in
    let zip = subst (λ o. MatchOption o (AllByRecursion (HasRecipeAt p) items → ⊥) (λ rs. AllZip (IsRecipeAt p) items rs.items)) c.in-Some.is
    c.in_ok-recipes.ensures in
    λ is. absurd (false≢true (sym c.if-fit.false ∙ c.in_ok-fit.ensures.1
    (subst (FitsTogether items) (sym c.as_slice.ensures.value) (items_fit c.recipe_laws.ensures.one_recipe p items recipes zip is))))

pub returns-in_default : goal.returns-in_default
returns-in_default c =
    let p = c.args.platform.now in
    let items = c.args.items.now in
    let none = subst (λ o. MatchOption o (AllByRecursion (HasRecipeAt p) items → ⊥) (λ rs. AllZip (IsRecipeAt p) items rs.items)) c.in_default.is
    c.in_ok-recipes.ensures in
    λ is. none (all_back item_view (HasRecipe p) items is.recipes)
