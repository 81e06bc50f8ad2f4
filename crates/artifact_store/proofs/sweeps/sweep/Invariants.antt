use Rattle.std.proofs.Common.{◌≡◌, ℕ, List, [], IsTrue, take}
use Rattle.std.specs.Prelude.{◌≢◌}
use Rattle.std.specs.List.{Contains}
use Rattle.disk_model.specs.Disk.{HasLeft, IsAfter}
use Rattle.disk_model.specs.Spares.{IsSameBut}
use Rattle.device.specs.Devices.{device_view}
use Rattle.artifact_store.specs.Paths.{IsFileAmong}
use Rattle.artifact_store.specs.Swept.{items_of, IsStray}
use Rattle.artifact_store.proofs.sweeps.sweep.Given as goal

abbrev pub invariant-loop-file : goal.invariant-loop-file
invariant-loop-file g l = record {
  goes : HasLeft g.D.Disk.moment g.D.Disk.left_since l.fn.disk l.disk
      (IsAfter (g.D.Disk.may_leave l.fn.disk) (IsSameBut (IsStray (items_of (device_view l.device)))));
  others : IsTrue g.D.Disk.is_modelled → IsSameBut (IsStray (items_of (device_view l.device))) (g.D.Disk.seen l.fn.disk) (g.D.Disk.seen l.disk);
  faults : g.D.Disk.faults l.disk ≡ g.D.Disk.faults l.fn.disk;
  gone : IsTrue g.D.Disk.is_modelled → (file : List ℕ) → Contains (take l.file-index l.file-items) file → g.D.Disk.seen l.disk file ≢ [] →
      IsFileAmong (items_of (device_view l.device)) file;
  less : IsTrue g.D.Disk.is_modelled → (file : List ℕ) → g.D.Disk.seen l.disk file ≢ [] → g.D.Disk.seen l.fn.disk file ≢ [];
}
