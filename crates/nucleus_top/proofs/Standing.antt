-- What the journal in its two slots stands for.
use Rattle.std.proofs.Common.{◌≡◌, [], inl, inr, length, ap, arith}
use Rattle.disk_model.specs.Disk.{Image}
use Rattle.checkpoint_log.specs.Slots.{slots_entries, slots_none}
use Rattle.checkpoint_log.specs.Laws.{slots_laws}
use Rattle.device.specs.Devices.{Device, no_device}
use Rattle.device.proofs.OneDevice.{none_stands_for, same_device_for}
use Rattle.nucleus_top.specs.Opening.{IsImageOf}

-- a journal without an entry stands for the device before its first record
pub none_stands : (image : Image) → slots_none image → IsImageOf image no_device
none_stands image none = none_stands_for slots_laws image none

pub same_device : (image : Image) (d e : Device) → IsImageOf image d → IsImageOf image e → d ≡ e
same_device image d e x y = same_device_for slots_laws image d e x y

-- no slot holds an entry where the journal holds no payload
pub none_of : (image : Image) → slots_entries image [] → slots_none image
none_of image (inl none) = none.0
none_of image (inr live) = let says = live.2.says in absurd (omega (arith, ap length says.is))
