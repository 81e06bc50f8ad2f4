use Rattle.std.proofs.Common.{arith, subst, ◌≤◌, length}
use Rattle.device.specs.PlanNeeds.{AddsNeeds}
use Rattle.device.proofs.PlanEdges.{adding_end}
use Rattle.device.proofs.plan_needs.add_needs.Goals as goal

pub returns : goal.returns
returns c =
    let xs = c.as_slice-dependency-items.result.now in
    let i = c.loop-dependency.dependency-index in
    let past : length xs ≤ i = omega arith in
    subst (λ ds. AddsNeeds c.args.items.now c.args.from ds c.args.needs.now.items c.loop-dependency.needs.items) c.as_slice-dependency-items.ensures
    (adding_end c.args.items.now c.args.from xs xs i c.args.needs.now.items c.loop-dependency.needs.items past c.loop-dependency.invariant)
