use Rattle.std.proofs.Common.{refl, sym, subst, ap, ◌∙◌, length, map, MatchOption}
use Rattle.std.proofs.lemmas.Bool.{false≢true}
use Rattle.std.specs.List.{All}
use Rattle.records.specs.Stored.{item_view, plan_view}
use Rattle.device.specs.Plans.{AreRequirements, AreItems, IsPlan}
use Rattle.device.specs.PlanNeeds.{IsRegularAt, IsRecipeAt, AreItemsWith}
use Rattle.device.proofs.PlanLoops.{no}
use Rattle.device.proofs.PlanPlaces.{long}
use Rattle.device.proofs.PlanWhole.{regular_back, items_listed, plan_answer}
use Rattle.device.proofs.plans.is_plan.Goals as goal

pub returns-then-not-are_requirements : goal.returns-then-not-are_requirements
returns-then-not-are_requirements c =
    no (IsPlan c.args.platform.now (plan_view c.args.plan.now))
    (λ is. absurd (false≢true (c.if-not-are_requirements.ensures.1 (subst AreRequirements (sym c.as_slice.ensures) is.requirements))))

pub recipes_together-requires : goal.recipes_together-requires
recipes_together-requires c = subst (λ is. All IsRegularAt is) (sym c.as_slice-items.ensures) (regular_back c.args.plan.now.items c.requires)

pub are_boots-requires-clause-rise : goal.are_boots-requires-clause-rise
are_boots-requires-clause-rise c =
    let p = c.args.platform.now in
    let items = c.as_slice-items.result.now in
    let w = subst (λ o. MatchOption o (AreItems p (map item_view items) → ⊥) (λ rs. AreItemsWith p items rs.items)) c.in-Some.is c.in_ok-recipes.ensures in
    (items_listed p items w.are_items).rise

pub are_boots-requires-clause-count : goal.are_boots-requires-clause-count
are_boots-requires-clause-count c =
    let p = c.args.platform.now in
    let items = c.as_slice-items.result.now in
    let w = subst (λ o. MatchOption o (AreItems p (map item_view items) → ⊥) (λ rs. AreItemsWith p items rs.items)) c.in-Some.is c.in_ok-recipes.ensures in
    ap length c.as_slice-in-Some.ensures.value ∙ long (IsRecipeAt p) items c.in-Some.recipes.items w.each

pub returns-in-Some : goal.returns-in-Some
returns-in-Some c =
    let p = c.args.platform.now in
    let plan = c.args.plan.now in
    let items = c.as_slice-items.result.now in
    let w = subst (λ o. MatchOption o (AreItems p (map item_view items) → ⊥) (λ rs. AreItemsWith p items rs.items)) c.in-Some.is c.in_ok-recipes.ensures in
    let requirements = subst AreRequirements c.as_slice.ensures (c.if-not-are_requirements.ensures.0 refl) in
    plan_answer c.recipe_laws.ensures.one_recipe p plan items c.in-Some.recipes.items c.as_slice-in-Some.result.now c.as_slice-in-Some-2.result.now
    c.are_boots.result (sym c.as_slice-items.ensures) c.as_slice-in-Some.ensures.value c.as_slice-in-Some-2.ensures
    requirements w c.are_boots.ensures

pub returns-in-None : goal.returns-in-None
returns-in-None c =
    let p = c.args.platform.now in
    let items = c.as_slice-items.result.now in
    let none = subst (λ o. MatchOption o (AreItems p (map item_view items) → ⊥) (λ rs. AreItemsWith p items rs.items)) c.in-None.is c.in_ok-recipes.ensures in
    no (IsPlan p (plan_view c.args.plan.now)) (λ is. none (subst (λ is. AreItems p (map item_view is)) (sym c.as_slice-items.ensures) is.items))
