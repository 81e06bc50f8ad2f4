use Rattle.std.proofs.Common.{◌≡◌, ◌<◌, ◌-◌, length}
use Rattle.std.specs.List.{Contains}
use Rattle.dep_order.specs.Orders.{AreLinked}
use Rattle.dep_order.specs.Places.{IsTidy}
use Rattle.dep_order.proofs.orders.cycle_from.Given as goal

abbrev pub invariant-loop-way : goal.invariant-loop-way
invariant-loop-way l = record {
  linked : AreLinked l.edges l.way.list.items l.place;
  node : l.place < l.edges.nodes;
  untaken : Contains l.taken.list.items l.place → ⊥;
  tidy : IsTidy l.way;
  len : length l.way.marks.items ≡ l.edges.nodes;
}

abbrev pub decreases-loop-way : goal.decreases-loop-way
decreases-loop-way l = l.edges.nodes - length l.way.list.items
