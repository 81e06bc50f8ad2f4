use Rattle.std.proofs.Common.{◌<◌, false, get_or, take, length, length-take, eqb, arith}
use Rattle.std.proofs.lemmas.List.{get_or_default}
use Rattle.std.proofs.lemmas.List.Sums.{count_by-le-length}
use Rattle.dep_order.specs.declared.Need.{Need}
use Rattle.dep_order.proofs.waiting.counts_of.Goals as goal

pub overflow_add-index_mut : goal.overflow_add-index_mut
overflow_add-index_mut c =
    let i = c.loop-need.need-index in
    let d : Need = record { from = 0; to = 0; hard = false } in
    let f = (get_or c.args.needs.now i d).from in
    let below = c.requires i d c.loop-need-test.true in
    let place : f < length c.loop-need.counts.items = omega (arith, below, c.loop-need.invariant.len) in
    let each = c.loop-need.invariant.each f in
    let few = count_by-le-length (λ (e : Need). eqb e.from f) (take i c.args.needs.now) in
    let same = get_or_default c.loop-need.counts.items f c.index_mut.result.now 0 place in
    omega (arith, c.index_mut.ensures.value, same, each, few, length-take i c.args.needs.now)
