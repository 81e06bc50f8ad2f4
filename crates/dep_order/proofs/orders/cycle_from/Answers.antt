use Rattle.std.proofs.Common.{None, Some, MatchOption, ◌≡◌, ◌<◌, ◌∷◌, [], length, length-append, drop, get_or, arith, subst, sym, ap, ◌∙◌}
use Rattle.std.specs.List.{Contains}
use Rattle.std.proofs.lemmas.List.{get_or_default}
use Rattle.dep_order.specs.Orders.{HasNeed, IsReady, AreLinked, IsCycle}
use Rattle.dep_order.proofs.Marked.{tidy_length}
use Rattle.dep_order.proofs.Counted.{not_added, is_added}
use Rattle.dep_order.proofs.Cycles.{needs_nodes, linked_push, cycle_at}
use Rattle.dep_order.proofs.orders.cycle_from.Goals as goal

pub returns-then-not-added : goal.returns-then-not-added
returns-then-not-added c =
    let there = not_added _ _ c.in_ok-added.added c.if-not-added.true c.in_ok-added.ensures.list in
    let part = c.in_ok-cycle.ensures in
    let same = c.deref.ensures.value ∙ there.1 in
    let at : (part.0 < length c.loop-way.way.list.items) × (get_or c.loop-way.way.list.items part.0 0 ≡ c.loop-way.place) =
    subst (λ l. (part.0 < length l) × (get_or l part.0 0 ≡ c.loop-way.place)) same (part.1, part.2) in
    let cycle = cycle_at c.args.edges.now c.loop-way.way.list.items part.0 c.loop-way.place 0 at.0 at.1 c.loop-way.invariant.linked in
    subst (IsCycle c.args.edges.now) (sym (part.3 ∙ ap (drop part.0) same)) cycle

pub unreachable-requires : goal.unreachable-requires
unreachable-requires c =
    let next = c.in_ok-next_of.next_of.items in
    let place = c.loop-way.place in
    let taken = c.args.taken.now.list.items in
    let lt : place < length next = omega (arith, c.loop-way.invariant.node, c.in_ok-next_of.ensures.count) in
    let at : get_or next place None ≡ None = sym (c.index.ensures ∙ get_or_default next place c.index.result.now None lt) ∙ c.in_default.is in
    let ready = subst (λ o. MatchOption o (IsReady c.args.edges.now taken place) (λ q. HasNeed c.args.edges.now place q ×
    (Contains taken q → ⊥))) at (c.in_ok-next_of.ensures.each place) in
    c.requires.stuck place (record { node = c.loop-way.invariant.node; untaken = c.loop-way.invariant.untaken; ready = ready })

pub loop-way-smaller : goal.loop-way-smaller
loop-way-smaller c =
    let new = is_added _ _ c.in_ok-added.added c.if-not-added.false c.in_ok-added.ensures.list in
    let few = tidy_length c.add.new.self c.in_ok-added.ensures.tidy in
    omega (arith, few, ap length new.1, length-append c.loop-way.way.list.items (c.loop-way.place ∷ []), c.in_ok-added.ensures.count, c.loop-way.invariant.len)

pub loop-way-preserved : goal.loop-way-preserved
loop-way-preserved c =
    let edges = c.args.edges.now in
    let next = c.in_ok-next_of.next_of.items in
    let place = c.loop-way.place in
    let taken = c.args.taken.now.list.items in
    let lt : place < length next = omega (arith, c.loop-way.invariant.node, c.in_ok-next_of.ensures.count) in
    let at : get_or next place None ≡ Some c.in-Some.next = sym (c.index.ensures ∙ get_or_default next place c.index.result.now None lt) ∙ c.in-Some.is in
    let step = subst (λ o. MatchOption o (IsReady edges taken place) (λ q. HasNeed edges place q ×
    (Contains taken q → ⊥))) at (c.in_ok-next_of.ensures.each place) in
    let new = is_added _ _ c.in_ok-added.added c.if-not-added.false c.in_ok-added.ensures.list in
    let nodes = needs_nodes edges place c.in-Some.next c.requires.nodes step.0 in
    record {
      linked = subst (λ l. AreLinked edges l c.in-Some.next) (sym new.1) (linked_push edges c.loop-way.way.list.items place c.in-Some.next
          c.loop-way.invariant.linked step.0);
      node = nodes.1;
      untaken = step.1;
      tidy = c.in_ok-added.ensures.tidy;
      len = c.in_ok-added.ensures.count ∙ c.loop-way.invariant.len;
    }
