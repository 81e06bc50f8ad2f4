use Rattle.std.proofs.Common.{◌≡◌, ◌<◌, ◌≤◌, [], eqb, length, length-append, get_or, refl, subst, ap, ◌∙◌, arith, inl, inr}
use Rattle.std.specs.List.{filter}
use Rattle.std.proofs.lemmas.List.{get_or_default}
use Rattle.std.proofs.lemmas.List.Elements.{Contains-get_or}
use Rattle.nuc_base.proofs.Lists.{in_nil}
use Rattle.dep_order.specs.declared.Need.{Need}
use Rattle.dep_order.specs.Dependents.{AddsRow}
use Rattle.dep_order.proofs.Marked.{tidy_length}
use Rattle.dep_order.proofs.RowNodes.{row_nodes}
use Rattle.dep_order.proofs.HardRows.{found_more, closed_first, closed_more, closed_all}
use Rattle.dep_order.proofs.dependents.find_all.Goals as goal

pub add_row-requires-clause-nodes : goal.add_row-requires-clause-nodes
add_row-requires-clause-nodes c = row_nodes c.args.edges.now c.args.rows.now c.row_to.result.now c.args.of (length c.in_ok-found.found.marks.items)
    c.requires.nodes c.requires.rows c.in_ok-found.ensures.count c.row_to.ensures

pub loop-index-init : goal.loop-index-init
loop-index-init c =
    let rows = c.args.rows.now in
    let new = c.add_row.new.found.list.items in
    let row = filter (λ (e : Need). eqb e.to c.args.of) rows in
    let adds = subst (λ l. AddsRow l c.in_ok-found.found.list.items new) c.row_to.ensures c.in_ok-add_row.ensures.adds in
    let adds' = subst (λ l. AddsRow row l new) c.in_ok-found.ensures.list adds in
    record {
      tidy = c.in_ok-add_row.ensures.tidy;
      len = c.in_ok-add_row.ensures.count ∙ c.in_ok-found.ensures.count;
      within = omega arith;
      found = found_more c.args.edges.now c.args.of c.args.of rows [] new c.requires.rows (inl refl) (λ p i. absurd (in_nil p i)) adds';
      closed = closed_first c.args.edges.now c.args.of rows new c.requires.rows adds';
    }

pub add_row-requires-in-loop-index-clause-nodes : goal.add_row-requires-in-loop-index-clause-nodes
add_row-requires-in-loop-index-clause-nodes c = row_nodes c.args.edges.now c.args.rows.now c.row_to-in-loop-index.result.now c.index-place.result.now
    (length c.loop-index.found.marks.items) c.requires.nodes c.requires.rows c.loop-index.invariant.len c.row_to-in-loop-index.ensures

pub loop-index-smaller : goal.loop-index-smaller
loop-index-smaller c =
    let few = tidy_length c.loop-index.found c.loop-index.invariant.tidy in
    omega (arith, few, c.loop-index.invariant.len, c.loop-index.found.list.ok.0, c.len.ensures)

pub loop-index-preserved : goal.loop-index-preserved
loop-index-preserved c =
    let edges = c.args.edges.now in
    let rows = c.args.rows.now in
    let i = c.loop-index.index in
    let old = c.loop-index.found.list.items in
    let new = c.add_row-in-loop-index.new.found.list.items in
    let b = c.index-place.result.now in
    let lt : i < length old = omega (arith, c.loop-index-test.true, c.loop-index.found.list.ok.0, c.len.ensures) in
    let at : b ≡ get_or old i 0 = c.index-place.ensures ∙ get_or_default old i b 0 lt in
    let adds = subst (λ l. AddsRow l old new) c.row_to-in-loop-index.ensures c.in_ok-add_row-2.ensures.adds in
    let adds' = subst (λ x. AddsRow (filter (λ (e : Need). eqb e.to x) rows) old new) at adds in
    let grown = ap length adds'.grows in
    record {
      tidy = c.in_ok-add_row-2.ensures.tidy;
      len = c.in_ok-add_row-2.ensures.count ∙ c.loop-index.invariant.len;
      within = omega (arith, lt, grown, length-append old adds'.rest);
      found = found_more edges c.args.of (get_or old i 0) rows old new c.requires.rows (inr (Contains-get_or old i 0 lt)) c.loop-index.invariant.found adds';
      closed = closed_more edges c.args.of rows i 0 old new c.requires.rows lt adds' c.loop-index.invariant.closed;
    }

pub returns-clause-closed : goal.returns-clause-closed
returns-clause-closed c =
    let le : length c.loop-index.found.list.items ≤ c.loop-index.index = omega (arith, c.loop-index-test.false, c.loop-index.found.list.ok.0, c.len.ensures) in
    closed_all c.args.edges.now c.args.of c.loop-index.index c.loop-index.found.list.items le c.loop-index.invariant.closed
