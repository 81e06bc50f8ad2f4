-- A device of which the first record alone was written.
use Rattle.std.specs.Prelude.{◌⊎◌, Some}
use Rattle.disk_model.specs.Disk.{Image}
use Rattle.checkpoint_log.specs.Slots.{slots_files, slots_none}
use Rattle.gate_log.specs.Journal.{IsChangeIn}
use Rattle.records.specs.declared.record.Origin.{Origin}
use Rattle.device.specs.Devices.{Device, no_device}
use Rattle.nucleus_top.specs.Opening.{IsImageOf}

-- the device that begins with this origin
abbrev pub begun_device : Origin → Device
begun_device origin = record no_device { origin = Some origin }

-- the journal holds no entry, or stands for the device that begins with this origin
abbrev pub IsNoneOrBegun : Origin → Image → Type 0
IsNoneOrBegun origin image = slots_none image ⊎ IsImageOf image (begun_device origin)

-- what making a store makes of an image, whose journal holds no entry: no other file changes
pub record ImageBegun (origin : Origin) (old new : Image) : Type 0 where
  pub none : slots_none old
  pub within : IsChangeIn slots_files (IsNoneOrBegun origin) old new
