use Rattle.std.proofs.Common.{arith, rules, subst, true, ◌≡◌, ◌<◌, ◌≤◌, length, MatchBool}
use Rattle.device.specs.PlanNeeds.{AddsNeeds, AreMet}
use Rattle.device.proofs.PlanEdges.{rows_next, rows_end}
use Rattle.device.proofs.plan_needs.needs_of.Goals as goal

pub loop-from-preserved : goal.loop-from-preserved
loop-from-preserved c =
    let xs = c.args.recipes.now in
    let i = c.loop-from.from in
    let r = c.index-recipes-from.result in
    let below : i < length xs = omega arith in
    let yes : c.in_ok-are_met.are_met ≡ true = search rules in
    let added = subst (λ b. MatchBool b (AddsNeeds c.args.items.now i r.dependencies c.loop-from.needs.items c.add_needs.new.needs.items)
    (AreMet c.args.items.now r → ⊥)) yes c.in_ok-are_met.ensures in
    rows_next c.args.items.now xs xs i r c.loop-from.needs.items c.add_needs.new.needs.items below c.index-recipes-from.is c.loop-from.invariant added

pub returns : goal.returns
returns c =
    let xs = c.args.recipes.now in
    let i = c.loop-from.from in
    let past : length xs ≤ i = omega arith in
    rows_end c.args.items.now xs xs i c.loop-from.needs.items past c.loop-from.invariant
