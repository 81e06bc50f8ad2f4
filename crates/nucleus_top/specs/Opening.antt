-- What the journal of an image stands for.
use Rattle.std.specs.Prelude.{◌≡◌, ℕ, List, Some, Result, Ok, Err, ⊤}
use Rattle.std.specs.Option.{IsSome}
use Rattle.disk_model.specs.Disk.{Image}
use Rattle.checkpoint_log.specs.Slots.{slots_none, slots_entries, slots_damaged}
use Rattle.records.specs.declared.record.Origin.{Origin}
use Rattle.device.specs.Devices.{Device}
use Rattle.device.specs.Standing.{StandsFor}
use Rattle.device.specs.Damage as damage
use Rattle.checkpoint_log.specs.declared.slots.Slots.{Slots}
use Rattle.deploy_state.specs.States.{loaded_device}
use Rattle.deploy_state.specs.declared.fault.LoadFault.{LoadFault}
use Rattle.deploy_state.specs.declared.fault.LoadFault.TheVariants as load
use Rattle.deploy_state.specs.declared.state.Loaded.{Loaded}

-- the journal of the image, in its two slots, stands for the device
abbrev pub IsImageOf : Image → Device → Type 0
IsImageOf = StandsFor slots_entries

abbrev pub HasEntry : Image → Type 0
HasEntry image = ¬ (slots_none image)

abbrev pub StandsForNone : Image → Type 0
StandsForNone = damage.StandsForNone slots_entries

-- the journal stands for no device, by the fault at this place: the first open gate without a whole entry, the first
-- entry that is no record or is not lawful there, or, where only the room behind a pending plan is missing, the place
-- behind its entry
abbrev pub IsDamage : Image → ℕ → Type 0
IsDamage = damage.IsDamage slots_entries slots_damaged

-- The journal has an entry, and stands for this device and for no other: it is not damaged.
pub record IsFoundAs (image : Image) (d : Device) : Type 0 where
  pub some : HasEntry image
  pub one : (e : Device) → IsImageOf image e → e ≡ d
  pub whole : ¬ (StandsForNone image)

-- so it is where it stands for a device with an origin
abbrev pub AreFound : Type 0
AreFound = (image : Image) (d : Device) → IsImageOf image d → IsSome d.origin → IsFoundAs image d

-- the journal has an entry, and stands for a device of this thing
pub record IsInitialised (image : Image) (thing : List ℕ) : Type 0 where
  pub some : HasEntry image
  pub device : Device
  pub stands : IsImageOf image device
  pub origin : Origin
  pub origin_is : device.origin ≡ Some origin
  pub thing_is : thing ≡ origin.thing

-- what opening an image answers
abbrev pub OpenAnswer : Image → Result (Loaded Slots) LoadFault → Type 0
OpenAnswer image (Ok s) = HasEntry image × IsImageOf image (loaded_device s)
OpenAnswer image (Err load.Disk) = ⊤
OpenAnswer image (Err load.NotInitialised) = slots_none image
OpenAnswer image (Err (load.Damaged at)) = IsDamage image at
OpenAnswer image (Err load.NoMemory) = ⊤
