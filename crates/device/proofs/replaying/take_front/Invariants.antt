use Rattle.std.proofs.Common.{◌≡◌, ◌-◌, ℕ, List, IsTrue}
use Rattle.disk_model.specs.Disk.{HasLeft}
use Rattle.device.specs.Rebuilt.{building_view, IsOrderly}
use Rattle.device.specs.Standing.{Walked}
use Rattle.device.proofs.replaying.take_front.Given as goal

abbrev pub invariant-loop-building : goal.invariant-loop-building
invariant-loop-building g l = record {
  goes : HasLeft g.D.Disk.moment g.D.Disk.left_since l.fn.disk l.disk (g.D.Disk.may_leave l.fn.disk);
  seen : g.D.Disk.seen l.disk ≡ g.D.Disk.seen l.fn.disk;
  faults : g.D.Disk.faults l.disk ≡ g.D.Disk.faults l.fn.disk;
  orderly : IsOrderly (building_view l.building);
  walked : IsTrue g.D.Disk.is_modelled → (payloads : List (List ℕ)) → g.J.Journal.stands l.log (g.D.Disk.seen l.fn.disk) payloads
      → Walked payloads l.at (building_view l.building);
}

abbrev pub decreases-loop-building : goal.decreases-loop-building
decreases-loop-building g l = l.end - l.at
