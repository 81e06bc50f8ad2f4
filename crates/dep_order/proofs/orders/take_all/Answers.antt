use Rattle.std.proofs.Common.{◌≡◌, ◌<◌, ◌≤◌, ◌+◌, ◌++◌, ◌∷◌, ◌↔◌, ◌⊎◌, [], ℕ, length, get_or, eqb, arith, subst, sym, ap, ◌∙◌, refl, length-append}
use Rattle.std.proofs.Common.{append_assoc, append-nil}
use Rattle.std.specs.List.{Contains, count_by}
use Rattle.dep_order.specs.declared.Need.{Need}
use Rattle.dep_order.specs.Orders.{IsOrder, IsOrderAfter}
use Rattle.dep_order.proofs.RowNodes.{rows_nodes, row_nodes}
use Rattle.dep_order.proofs.Marked.{tidy_length}
use Rattle.dep_order.proofs.Counted.{AreCounts, counts_start, counts_more, enough, least_open, none_open, added_new}
use Rattle.dep_order.proofs.orders.take_all.Goals as goal

pub new-requires : goal.new-requires
new-requires c = rows_nodes c.args.edges.now c.args.rows.now c.args.edges.now.nodes c.requires.nodes c.requires.rows refl

pub loop-place-init : goal.loop-place-init
loop-place-init c =
    let edges = c.args.edges.now in
    let e = c.in_ok-taken.ensures.list in
    let counts = c.in_ok-waiting.waiting.counts.items in
    let ready = c.in_ok-waiting.waiting.ready.keys in
    record {
      so_far = λ rest o. subst (λ l. IsOrder edges (l ++ rest)) (sym e) (subst (λ l. IsOrderAfter edges l rest) e o);
      tidy = c.in_ok-taken.ensures.tidy;
      len = c.in_ok-taken.ensures.count;
      counted = subst (λ l. AreCounts edges c.args.rows.now l counts ready) (sym e) (counts_start edges c.args.rows.now counts ready
          c.in_ok-waiting.ensures.count c.in_ok-waiting.ensures.each c.in_ok-waiting.ensures.ready);
    }

pub add-requires-clause-place : goal.add-requires-clause-place
add-requires-clause-place c =
    let least = c.in-Some.ensures.place in
    let here = (c.loop-place.invariant.counted.members c.in-Some.place).0 least.taken in
    let node = here.0 in
    omega (arith, node, c.loop-place.invariant.len)

pub settle-requires-clause-nodes : goal.settle-requires-clause-nodes
settle-requires-clause-nodes c =
    let counted = c.loop-place.invariant.counted in
    row_nodes c.args.edges.now c.args.rows.now c.row_to.result.now c.in-Some.place (length c.take_least.new.self.counts.items) c.requires.nodes
    c.requires.rows (ap length c.in-Some.ensures.counts ∙ counted.count) c.row_to.ensures

pub settle-requires-clause-counted : goal.settle-requires-clause-counted
settle-requires-clause-counted c = λ q.
    let waiting = c.loop-place.waiting in
    let few = enough c.args.edges.now c.args.rows.now c.loop-place.taken.list.items waiting.counts.items waiting.ready.keys c.take_least.new.self.ready.keys
    c.in-Some.place c.loop-place.invariant.counted c.in-Some.ensures.place q in
    let few' = subst (λ ns. count_by (λ (e : Need). eqb e.from q) ns ≤ get_or waiting.counts.items q 0) (sym c.row_to.ensures) few in
    subst (λ l. count_by (λ (e : Need). eqb e.from q) c.row_to.result.now ≤ get_or l q 0) (sym c.in-Some.ensures.counts) few'

pub loop-place-smaller : goal.loop-place-smaller
loop-place-smaller c =
    let least = c.in-Some.ensures.place in
    let here = (c.loop-place.invariant.counted.members c.in-Some.place).0 least.taken in
    let grown = added_new c.in_ok-add.field-0 c.loop-place.taken.list.items c.add.new.self.list.items c.in-Some.place here.2 c.in_ok-add.ensures.list in
    let few = tidy_length c.add.new.self c.in_ok-add.ensures.tidy in
    omega (
      arith,
      few,
      ap length grown,
      length-append c.loop-place.taken.list.items (c.in-Some.place ∷ []),
      c.in_ok-add.ensures.count,
      c.loop-place.invariant.len,
    )

pub loop-place-preserved : goal.loop-place-preserved
loop-place-preserved c =
    let edges = c.args.edges.now in
    let rows = c.args.rows.now in
    let p = c.in-Some.place in
    let list = c.loop-place.taken.list.items in
    let counts = c.loop-place.waiting.counts.items in
    let ready = c.loop-place.waiting.ready.keys in
    let rest' = c.take_least.new.self.ready.keys in
    let next = c.settle.new.self.counts.items in
    let then' = c.settle.new.self.ready.keys in
    let counted = c.loop-place.invariant.counted in
    let least = c.in-Some.ensures.place in
    let here = (counted.members p).0 least.taken in
    let grown = added_new c.in_ok-add.field-0 list c.add.new.self.list.items p here.2 c.in_ok-add.ensures.list in
    let same = c.in-Some.ensures.counts in
    let row = c.row_to.ensures in
    let settled = subst (λ ns. (q : ℕ) → get_or next q 0 + count_by (λ (e : Need). eqb e.from q) ns ≡ get_or counts q 0) row
    (subst (λ l. (q : ℕ) → get_or next q 0 + count_by (λ (e : Need). eqb e.from q) c.row_to.result.now ≡ get_or l q 0) same c.in_ok-settle.ensures.counts) in
    let more = subst (λ ns. (q : ℕ) → Contains then' q ↔ (Contains rest' q ⊎ ((0 < count_by (λ (e : Need). eqb e.from q) ns) × (get_or next q 0 ≡ 0)))) row
    c.in_ok-settle.ensures.ready in
    record {
      so_far = λ rest o. (let o' = subst (λ l. IsOrderAfter edges l rest) grown o in
          let h = c.loop-place.invariant.so_far (p ∷ rest) (least_open edges rows list counts ready rest' p c.requires.rows counted least, o') in
          subst (IsOrder edges) (sym (append_assoc list (p ∷ []) rest) ∙ ap (λ l. l ++ rest) (sym grown)) h);
      tidy = c.in_ok-add.ensures.tidy;
      len = c.in_ok-add.ensures.count ∙ c.loop-place.invariant.len;
      counted = subst (λ l. AreCounts edges rows l next then') (sym grown) (counts_more edges rows list counts next ready rest' then' p counted least
          (c.in_ok-settle.ensures.count ∙ ap length same) settled more);
    }

pub returns-clause-order : goal.returns-clause-order
returns-clause-order c =
    let list = c.loop-place.taken.list.items in
    let done = none_open c.args.edges.now c.args.rows.now list c.loop-place.waiting.counts.items c.loop-place.waiting.ready.keys c.requires.rows
    c.loop-place.invariant.counted c.in_default.ensures.place in
    subst (IsOrder c.args.edges.now) (append-nil list) (c.loop-place.invariant.so_far [] done)
