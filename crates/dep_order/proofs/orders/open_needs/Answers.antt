use Rattle.std.proofs.Common.{Vec, Global, Option, Some, ◌<◌, ◌≤◌, ◌+◌, ℕ, false, length, length-set, get_or, set, take, subst, sym, ap, ◌∙◌}
use Rattle.std.proofs.lemmas.Bool.{false≢true}
use Rattle.dep_order.specs.declared.Need.{Need}
use Rattle.dep_order.proofs.OpenNeeds.{AreOpenNeeds, open_set_of, open_kept_of, open_all}
use Rattle.dep_order.proofs.orders.open_needs.Goals as goal
use Rattle.dep_order.proofs.orders.open_needs.Goals.{then-not-has, else-not-has}

pub loop-need-preserved : goal.loop-need-preserved
loop-need-preserved c =
    let d : Need = record { from = 0; to = 0; hard = false } in
    let edges = c.args.edges.now in
    let taken = c.args.taken.now.list.items in
    let i = c.loop-need.need-index in
    let ns = c.as_slice-need-items.result.now in
    let is = c.as_slice-need-items.ensures in
    let need = get_or ns i d in
    let lt = c.loop-need-test.true in
    let node = c.requires.nodes i d (subst (λ l. i < length l) is lt) in
    let from : need.from < length c.loop-need.next.items = subst (λ n. need.from < n) (sym c.loop-need.invariant.len) (subst (λ l. (get_or l i d).from <
    edges.nodes) (sym is) node.0) in
    let open' = subst (λ l. AreOpenNeeds edges taken (take i l) c.loop-need.next.items) (sym is) c.loop-need.invariant.each in
    elim c.if-not-has.branch [
      | then-not-has w ↦ record {
        len = ap (λ (v : Vec (Option ℕ) Global). length v.items) w.next-is ∙ length-set c.loop-need.next.items need.from (Some need.to)
            ∙ c.loop-need.invariant.len;
        each = subst (λ (v : Vec (Option ℕ) Global). AreOpenNeeds edges taken (take (i + 1) edges.needs) v.items) (sym w.next-is)
            (subst (λ l. AreOpenNeeds edges taken (take (i + 1) l) (set c.loop-need.next.items need.from (Some need.to))) is
            (open_set_of edges taken ns i d c.loop-need.next.items is lt from (λ j. absurd (false≢true (sym w.if-not-has.true ∙ c.has.ensures.1 j))) open'));
      }
      | else-not-has w ↦ record {
        len = ap (λ (v : Vec (Option ℕ) Global). length v.items) w.next-is ∙ c.loop-need.invariant.len;
        each = subst (λ (v : Vec (Option ℕ) Global). AreOpenNeeds edges taken (take (i + 1) edges.needs) v.items) (sym w.next-is)
            (subst (λ l. AreOpenNeeds edges taken (take (i + 1) l) c.loop-need.next.items) is
            (open_kept_of edges taken ns i d c.loop-need.next.items is lt (c.has.ensures.0 w.if-not-has.false) open'));
      }
    ]

pub returns-clause-each : goal.returns-clause-each
returns-clause-each c =
    let le : length c.args.edges.now.needs ≤ c.loop-need.need-index = subst (λ l. length l ≤ c.loop-need.need-index) c.as_slice-need-items.ensures
    c.loop-need-test.false in
    open_all c.args.edges.now c.args.taken.now.list.items c.loop-need.need-index c.loop-need.next.items le c.loop-need.invariant.each
