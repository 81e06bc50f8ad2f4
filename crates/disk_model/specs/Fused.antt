-- A disk in memory behind a fuse.
use Rattle.std.specs.Prelude.{ℕ, Bool, Option}
use Rattle.disk_model.specs.Disk.{Image}
use Rattle.disk_model.specs.Fuse.{IsBlown}
use Rattle.disk_model.specs.Memory.{seen_by, left_by, left_since_by, moment_by, faults_by, shortages_by, writer_by}
use Rattle.nuc_base.specs.Faults.{Rose}
use Rattle.disk_model.specs.declared.fuse.Fuse.{Fuse}
use Rattle.disk_model.specs.declared.fused.FusedDisk.{FusedDisk}
use Rattle.disk_model.specs.declared.memory.MemoryDisk.{MemoryDisk}

-- the disk inside
abbrev pub inside : FusedDisk → MemoryDisk
inside f = f.disk

-- its fuse: from which call on it fails all, which others it fails, and how many calls came
abbrev pub fuse_of : FusedDisk → Fuse
fuse_of f = f.fuse

-- the next call fails
abbrev pub IsDue : FusedDisk → Type 0
IsDue f = IsBlown f.fuse

-- the disk inside failed by itself, for want of memory or of room
abbrev pub InsideFailed : FusedDisk → FusedDisk → Type 0
InsideFailed old new = Rose (faults_by (inside old)) (faults_by (inside new))

abbrev pub fused_seen : FusedDisk → Image
fused_seen f = seen_by f.disk

abbrev pub fused_left : FusedDisk → Image → Type 0
fused_left f = left_by f.disk

abbrev pub fused_left_since : FusedDisk → ℕ → Image → Type 0
fused_left_since f = left_since_by f.disk

abbrev pub fused_moment : FusedDisk → ℕ
fused_moment f = moment_by f.disk

abbrev pub fused_faults : FusedDisk → ℕ
fused_faults f = f.fuse.faults

abbrev pub fused_shortages : FusedDisk → ℕ
fused_shortages f = shortages_by f.disk

abbrev pub fused_writer : FusedDisk → Option Bool
fused_writer f = writer_by f.disk
