use Rattle.std.proofs.Common.{◌≡◌, ◌-◌, ℕ, List, IsTrue}
use Rattle.disk_model.specs.Disk.{HasLeft}
use Rattle.device.specs.Devices.{device_view, IsRegularDevice}
use Rattle.device.specs.Sound.{IsSound}
use Rattle.device.proofs.Marching.{Reached}
use Rattle.device.proofs.Roomy.{IsAhead}
use Rattle.device.proofs.replaying.replay.Given as goal

abbrev pub invariant-loop-at : goal.invariant-loop-at
invariant-loop-at g l = record {
  goes : HasLeft g.D.Disk.moment g.D.Disk.left_since l.fn.disk l.disk (g.D.Disk.may_leave l.fn.disk);
  seen : g.D.Disk.seen l.disk ≡ g.D.Disk.seen l.fn.disk;
  faults : g.D.Disk.faults l.disk ≡ g.D.Disk.faults l.fn.disk;
  regular : IsRegularDevice (device_view l.device);
  sound : IsSound (device_view l.device);
  ahead : IsAhead l.at l.behind (device_view l.device);
  reached : IsTrue g.D.Disk.is_modelled → (payloads : List (List ℕ)) → g.J.Journal.stands l.log (g.D.Disk.seen l.fn.disk) payloads
      → Reached payloads l.end l.at l.behind (device_view l.device);
}

abbrev pub decreases-loop-at : goal.decreases-loop-at
decreases-loop-at g l = l.end - l.at
