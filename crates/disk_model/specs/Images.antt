-- The image that each pick names.
use Rattle.std.specs.Prelude.{◌≡◌, ℕ, List, Option}
use Rattle.disk_model.specs.Crash.{Unsynced, IsFilled, unsynced_after, all_stable}
use Rattle.disk_model.specs.Disk.{Image}
use Rattle.disk_model.specs.Picked.{picked_after}
use Rattle.disk_model.specs.Files.{image_of}
use Rattle.disk_model.specs.declared.memory.MemoryDisk.{MemoryDisk}
use Rattle.disk_model.specs.declared.image.Pick.{Pick}
use Rattle.disk_model.specs.declared.image.Pick.TheVariants.{Old, New, Fill}

-- a file of the disk since it was last made stable
abbrev pub unsynced_of : MemoryDisk → List ℕ → Unsynced
unsynced_of d = unsynced_after d.calls.items (image_of d.start) (all_stable (image_of d.start))

-- what is left of its record where the writes that aren't stable are lost, or fill their range with one byte
abbrev pub picked_by : Option ℕ → MemoryDisk → Image
picked_by fill d = picked_after fill d.calls.items (image_of d.start) (image_of d.start)

-- what the pick has of a file that reads as `seen`
abbrev pub PickedAs : Pick → Unsynced → List ℕ → List ℕ → Type 0
PickedAs Old u seen bytes = bytes ≡ u.held
PickedAs New u seen bytes = bytes ≡ seen
PickedAs (Fill byte) u seen bytes = IsFilled byte u bytes
