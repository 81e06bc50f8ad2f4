use Rattle.std.proofs.Common.{arith, refl, sym, subst, MatchOption, ◌<◌, length}
use Rattle.std.specs.List.{All, AllByRecursion}
use Rattle.dep_order.specs.Orders.{IsAcyclic}
use Rattle.dep_order.specs.declared.Need.{Need}
use Rattle.device.specs.PlanNeeds.{AreMet, AreNeeds, FitsTogether}
use Rattle.device.proofs.PlanEdges.{nodes, edges, fits, no_cycle}
use Rattle.device.proofs.PlanWhole.{answers}
use Rattle.device.proofs.plans.are_in_order.Goals as goal

pub is_acyclic-requires : goal.is_acyclic-requires
is_acyclic-requires c =
    let items = c.args.items.now in
    let recipes = c.args.recipes.now in
    let are = subst (λ o. MatchOption o (AllByRecursion (AreMet items) recipes → ⊥) (λ needs. AreNeeds items 0 recipes needs.items)) c.in-Some.is
    c.in_ok-needs.ensures in
    let count = c.requires.count in
    subst (λ l. All (λ (e : Need). (e.from < length items) × (e.to < length items)) l) (sym c.new.ensures)
    (nodes items 0 (length items) recipes c.in-Some.needs.items (omega (arith, count)) refl are)

pub returns : goal.returns
returns c =
    let items = c.args.items.now in
    let recipes = c.args.recipes.now in
    let are = subst (λ o. MatchOption o (AllByRecursion (AreMet items) recipes → ⊥) (λ needs. AreNeeds items 0 recipes needs.items)) c.in-Some.is
    c.in_ok-needs.ensures in
    let there = subst (AreNeeds items 0 recipes) (sym c.new.ensures) are in
    answers c.is_acyclic.result (IsAcyclic (edges items recipes c.new.result (length items) c.requires.rise c.requires.count there))
    (FitsTogether items recipes)
    (fits items recipes c.new.result (length items) c.requires.rise c.requires.count there)
    (no_cycle items recipes c.new.result (length items) c.requires.rise c.requires.count there)
    c.is_acyclic.ensures
