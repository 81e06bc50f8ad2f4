-- What the calls of a disk in memory do, exactly.
use Rattle.std.specs.Prelude.{◌≡◌, ◌↔◌, ◌⊎◌, ◌+◌, ◌-◌, ◌^◌, ◌≤◌, ◌++◌, List, ℕ, Bool, Option, Some, min, length, replicate}
use Rattle.disk_model.specs.Disk.{Image, Step, IsAfter}
use Rattle.disk_model.specs.Files.{bytes_of, image_of}
use Rattle.disk_model.specs.Record.{seen_after, left_after, left_from}
use Rattle.disk_model.specs.declared.memory.MemoryDisk.{MemoryDisk}

-- what each file reads as
abbrev pub seen_by : MemoryDisk → Image
seen_by d = seen_after d.calls.items (image_of d.start)

-- the images that a crash now may leave
abbrev pub left_by : MemoryDisk → Image → Type 0
left_by d = left_after d.calls.items (image_of d.start)

-- the images that a crash since a moment might have left
abbrev pub left_since_by : MemoryDisk → ℕ → Image → Type 0
left_since_by d = left_from d.calls.items (image_of d.start)

-- the moments are counted by the calls that changed something
abbrev pub moment_by : MemoryDisk → ℕ
moment_by d = length d.calls.items

abbrev pub faults_by : MemoryDisk → ℕ
faults_by d = d.faults

-- how often a write found no room
abbrev pub shortages_by : MemoryDisk → ℕ
shortages_by d = d.shortages

-- how many bytes all files together may have
abbrev pub room_by : MemoryDisk → ℕ
room_by d = d.room

-- whether another program holds the lock of the writers
abbrev pub writer_by : MemoryDisk → Option Bool
writer_by d = Some d.has_writer

-- how many bytes all files together have
abbrev pub used_by : MemoryDisk → ℕ
used_by d = bytes_of d.files

-- the file may go up to this place: it does so already, or all files together have room for what is added
abbrev pub HasRoomTo : MemoryDisk → List ℕ → ℕ → Type 0
HasRoomTo d file end = (end ≤ length (seen_by d file)) ⊎ (min (used_by d + (end - length (seen_by d file))) (2 ^ 64 - 1) ≤ room_by d)

-- the file goes on up to this place by zeros
abbrev pub IsZeroedTo : ℕ → List ℕ → List ℕ → Type 0
IsZeroedTo to old new = new ≡ old ++ replicate (to - length old) 0

-- one file reads as changed in this way, and a crash may leave of it what this allows: no more, and no less
pub record Changed (file : List ℕ) (reads_as may_leave : List ℕ → List ℕ → Type 0) (old new : MemoryDisk) : Type 0 where
  pub reads : Step file reads_as (seen_by old) (seen_by new)
  pub leaves : (c : Image) → left_by new c ↔ IsAfter (left_by old) (Step file may_leave) c

-- one file is stable
pub record Stable (file : List ℕ) (old new : MemoryDisk) : Type 0 where
  pub reads : seen_by new ≡ seen_by old
  pub leaves : (c : Image) → left_by new c ↔ (left_by old c × (c file ≡ seen_by old file))

-- nothing changed
pub record Unchanged (old new : MemoryDisk) : Type 0 where
  pub reads : seen_by new ≡ seen_by old
  pub leaves : (c : Image) → left_by new c ↔ left_by old c
