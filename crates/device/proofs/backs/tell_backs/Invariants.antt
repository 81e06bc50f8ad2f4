use Rattle.std.proofs.Common.{◌≡◌, ◌≤◌, length, drop, take, map}
use Rattle.records.specs.Stored.{item_view}
use Rattle.device.specs.Lawful.{IsReadable, goes_back}
use Rattle.device.proofs.PlanLoops.{Left}
use Rattle.device.proofs.backs.tell_backs.Given as goal

abbrev pub invariant-loop-at : goal.invariant-loop-at
invariant-loop-at l = record {
  within : l.at ≤ length l.names;
  left : Left (IsReadable l.platform (map item_view l.set)) l.names (drop l.at l.names);
  told : take l.at l.flags ≡ map (goes_back l.platform (map item_view l.set)) (take l.at l.names);
}
