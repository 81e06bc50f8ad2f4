use Rattle.std.proofs.Common.{◌≡◌, length, take}
use Rattle.dep_order.proofs.OpenNeeds.{AreOpenNeeds}
use Rattle.dep_order.proofs.orders.open_needs.Given as goal

abbrev pub invariant-loop-need : goal.invariant-loop-need
invariant-loop-need l = record {
  len : length l.next.items ≡ l.edges.nodes;
  each : AreOpenNeeds l.edges l.taken.list.items (take l.need-index l.edges.needs) l.next.items;
}
