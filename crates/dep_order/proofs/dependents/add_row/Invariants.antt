use Rattle.std.proofs.Common.{◌≡◌, length, take}
use Rattle.dep_order.specs.Places.{IsTidy}
use Rattle.dep_order.specs.Dependents.{AddsRow}
use Rattle.dep_order.proofs.dependents.add_row.Given as goal

abbrev pub invariant-loop-need : goal.invariant-loop-need
invariant-loop-need l = record {
  tidy : IsTidy l.found;
  len : length l.found.marks.items ≡ length l.fn.found.marks.items;
  adds : AddsRow (take l.need-index l.row) l.fn.found.list.items l.found.list.items;
}
