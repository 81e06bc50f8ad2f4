-- The images that a disk in memory gives.
use Rattle.std.specs.Prelude.{ℕ, min, List, [], ◌∷◌, length, replicate, Option, Some, None}
use Rattle.disk_model.specs.Disk.{Image}
use Rattle.disk_model.specs.Put.{put, overwritten}
use Rattle.disk_model.specs.Record.{seen_step}
use Rattle.disk_model.specs.declared.record.Call.{Call}
use Rattle.disk_model.specs.declared.record.Call.TheVariants.{Write as Written, Cut as CutTo, Sync as Synced}

-- a range of a file filled with one byte, if there is one
abbrev pub filled : Option ℕ → List ℕ → ℕ → ℕ → Image → Image
filled None file at n image = image
filled (Some byte) file at n image = put file (overwritten at (replicate n byte) (image file)) image

-- a call, where the writes that aren't stable are lost, or fill their range with one byte
abbrev pub picked_step : Option ℕ → Call → Image → Image → Image
picked_step fill (Written file at bytes) seen image = filled fill file (min at (length (seen file))) (length bytes) image
picked_step fill (CutTo file n) seen image = image
picked_step fill (Synced file) seen image = put file (seen file) image

abbrev pub picked_after : Option ℕ → List Call → Image → Image → Image
picked_after fill [] seen image = image
picked_after fill (call ∷ calls) seen image = picked_after fill calls (seen_step call seen) (picked_step fill call seen image)
