use Rattle.std.proofs.Common.{◌≡◌, ◌-◌, ◌≤◌, length, take}
use Rattle.dep_order.specs.Places.{IsTidy}
use Rattle.dep_order.specs.Dependents.{HasFound}
use Rattle.dep_order.proofs.HardRows.{IsClosedFor}
use Rattle.dep_order.proofs.dependents.find_all.Given as goal

abbrev pub invariant-loop-index : goal.invariant-loop-index
invariant-loop-index l = record {
  tidy : IsTidy l.found;
  len : length l.found.marks.items ≡ l.edges.nodes;
  within : l.index ≤ length l.found.list.items;
  found : HasFound l.edges l.of l.found.list.items;
  closed : IsClosedFor l.edges l.of (take l.index l.found.list.items) l.found.list.items;
}

abbrev pub decreases-loop-index : goal.decreases-loop-index
decreases-loop-index l = l.edges.nodes - l.index
