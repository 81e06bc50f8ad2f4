use Rattle.std.specs.Vec.Iter.{into_iter_items}
use Rattle.device.specs.Rebuilt.{building_view, IsOrderly}
use Rattle.device.proofs.Restoring.{Taken}
use Rattle.device.proofs.device.Device.restore.Given as goal

abbrev pub invariant-loop-entry : goal.invariant-loop-entry
invariant-loop-entry l = record {
  can_next : (goal.iterator-loop-entry).can_next l.entry-iterator;
  is_finite : (goal.iterator-loop-entry).is_finite l.entry-iterator;
  orderly : IsOrderly (building_view l.building);
  taken : Taken l.fn.front (into_iter_items l.entry-iterator) (building_view l.building);
}
