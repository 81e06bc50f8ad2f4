use Rattle.std.proofs.Common.{◌≡◌, ℕ, List, ◌++◌, ◌-◌, length}
use Rattle.dep_order.specs.Orders.{IsOrder, IsOrderAfter}
use Rattle.dep_order.specs.Places.{IsTidy}
use Rattle.dep_order.proofs.Counted.{AreCounts}
use Rattle.dep_order.proofs.orders.take_all.Given as goal

abbrev pub invariant-loop-place : goal.invariant-loop-place
invariant-loop-place l = record {
  so_far : (rest : List ℕ) → IsOrderAfter l.edges l.taken.list.items rest → IsOrder l.edges (l.taken.list.items ++ rest);
  tidy : IsTidy l.taken;
  len : length l.taken.marks.items ≡ l.edges.nodes;
  counted : AreCounts l.edges l.rows l.taken.list.items l.waiting.counts.items l.waiting.ready.keys;
}

abbrev pub decreases-loop-place : goal.decreases-loop-place
decreases-loop-place l = l.edges.nodes - length l.taken.list.items
