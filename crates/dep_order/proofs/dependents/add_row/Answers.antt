use Rattle.std.proofs.Common.{◌+◌, false, length, take, subst, sym, ap, ◌∙◌}
use Rattle.dep_order.specs.declared.Need.{Need}
use Rattle.dep_order.specs.declared.places.Places.{Places}
use Rattle.dep_order.specs.Places.{IsTidy}
use Rattle.dep_order.specs.Dependents.{AddsRow}
use Rattle.dep_order.proofs.HardRows.{adds_soft, adds_hard}
use Rattle.dep_order.proofs.dependents.add_row.Goals as goal
use Rattle.dep_order.proofs.dependents.add_row.Goals.{then-need+in_ok-add, else-need}

pub loop-need-preserved : goal.loop-need-preserved
loop-need-preserved c =
    let d : Need = record { from = 0; to = 0; hard = false } in
    let i = c.loop-need.need-index in
    let row = c.args.row.now in
    let old = c.args.found.now.list.items in
    let new = c.loop-need.found.list.items in
    elim c.if-need.branch [
      | then-need+in_ok-add w ↦ record {
        tidy = subst IsTidy (sym w.found-is) w.in_ok-add.ensures.tidy;
        len = ap (λ (p : Places). length p.marks.items) w.found-is ∙ w.in_ok-add.ensures.count ∙ c.loop-need.invariant.len;
        adds = subst (λ (p : Places). AddsRow (take (i + 1) row) old p.list.items) (sym w.found-is) (adds_hard w.in_ok-add.field-0 row i d old new
            w.add.new.self.list.items c.loop-need-test.true w.if-need.true c.loop-need.invariant.adds w.in_ok-add.ensures.list);
      }
      | else-need w ↦ record {
        tidy = subst IsTidy (sym w.found-is) c.loop-need.invariant.tidy;
        len = ap (λ (p : Places). length p.marks.items) w.found-is ∙ c.loop-need.invariant.len;
        adds = subst (λ (p : Places). AddsRow (take (i + 1) row) old p.list.items) (sym w.found-is) (adds_soft row i d old new c.loop-need-test.true
            w.if-need.false c.loop-need.invariant.adds);
      }
    ]
