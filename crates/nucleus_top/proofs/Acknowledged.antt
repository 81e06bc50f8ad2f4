-- What a call printed as accepted stays pending or closed.
use Rattle.std.specs.Prelude.{ℕ, ◌≤◌, true, List, [], length}
use Rattle.std.proofs.Common.{◌≡◌, inl, refl, sym, subst, arith}
use Rattle.disk_model.specs.Disk.{Image, Settled}
use Rattle.disk_model.specs.Memory.{left_by, seen_by}
use Rattle.disk_model.specs.declared.memory.MemoryDisk.{MemoryDisk}
use Rattle.gate_log.specs.Entries.{HoldsNone, journal}
use Rattle.checkpoint_log.specs.Beginnings.{second}
use Rattle.device.specs.Devices.{no_device}
use Rattle.disk_model.specs.declared.disk.Disk as a_disk
use Rattle.nucleus_top.specs.Acknowledged.{DeployedStay, ServedStay}
use Rattle.nucleus_top.specs.Series.{BeginsBehind, FirstBegins}
use Rattle.nucleus_top.proofs.Series.{acknowledged_last}

pub deployed_stay : {D : Type 0} (may_leave : D → Image → Type 0) (moment : D → ℕ) (left_since : D → ℕ → Image → Type 0) (faults : D → ℕ) →
    DeployedStay may_leave moment left_since faults
deployed_stay may_leave moment left_since faults old new old_list new_list printed result d start library what bytes h before after plan is =
    λ first one e stands later follow image left.
    acknowledged_last may_leave new h.call.0.prints.printed_records h.lasts first one e stands later follow image left before after plan is

pub served_stay : {D : Type 0} (disk : a_disk.Ghosts D) → ServedStay disk
served_stay disk old new result d turns s before after plan is =
    λ first one e stands later follow image left.
    acknowledged_last disk.may_leave new.disk s.printed_records s.lasts first one e stands later follow image left before after plan is

-- ---- a disk that was just made

holds_none : (bytes : List ℕ) → bytes ≡ [] → HoldsNone bytes
holds_none bytes is = subst HoldsNone (sym is) (inl (omega arith))

pub first_begun : FirstBegins left_by true seen_by → (disk : MemoryDisk) → ((name : List ℕ) → Settled (left_by disk) name []) →
    BeginsBehind left_by no_device [] no_device disk
first_begun begins disk settled = begins disk refl (λ image left. (
  holds_none (image journal) (settled journal image left),
  holds_none (image second) (settled second image left),
))
