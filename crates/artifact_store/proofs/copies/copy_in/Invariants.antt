use Rattle.std.proofs.Common.{◌≡◌, ◌-◌, ◌≤◌, ℕ, List, IsTrue, length, Some, vec_len}
use Rattle.sha2.specs.Hashers.{Holds256}
use Rattle.disk_model.specs.Disk.{HasLeft, IsAfter}
use Rattle.disk_model.specs.Spares.{IsSameBut, IsFile}
use Rattle.library_core.specs.Library.{Artifacts}
use Rattle.artifact_store.proofs.Copying.{IsFoundPrefix}
use Rattle.artifact_store.proofs.copies.copy_in.Given as goal

abbrev pub invariant-pieces : goal.invariant-pieces
invariant-pieces g l = record {
  short : l.at ≤ 67108864;
  room : vec_len l.piece ≡ 65536;
  goes : HasLeft g.D.Disk.moment g.D.Disk.left_since l.fn.disk l.disk (IsAfter (g.D.Disk.may_leave l.fn.disk) (IsSameBut (IsFile l.target)));
  others : IsTrue g.D.Disk.is_modelled → IsSameBut (IsFile l.target) (g.D.Disk.seen l.fn.disk) (g.D.Disk.seen l.disk);
  disk_faults : g.D.Disk.faults l.disk ≡ g.D.Disk.faults l.fn.disk;
  content : g.L.Library.content l.library ≡ g.L.Library.content l.fn.library;
  coming : g.L.Library.coming l.library ≡ g.L.Library.coming l.fn.library;
  library_faults : g.L.Library.faults l.library ≡ g.L.Library.faults l.fn.library;
  copied : (m : List ℕ) × Holds256 l.hasher m × (length m ≡ l.at) × (IsTrue g.D.Disk.is_modelled → g.D.Disk.seen l.disk l.target ≡ m)
      × ((c : Artifacts) → (g.L.Library.content l.fn.library).artifacts ≡ Some c → IsFoundPrefix (c l.item.name l.item.version l.artifact.file) m);
}

abbrev pub decreases-pieces : goal.decreases-pieces
decreases-pieces g l = 67108864 - l.at
