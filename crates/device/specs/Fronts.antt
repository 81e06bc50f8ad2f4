-- The records that begin a journal anew with a device: its front.
use Rattle.std.specs.Prelude.{◌≡◌, ℕ, List, [], ◌∷◌, ◌++◌, length, map, Option, Some, None, Result, Ok, Err, slice_get, ⊤}
use Rattle.std.specs.Option.{IsSome}
use Rattle.nuc_base.specs.declared.kinds.Outcome.{Outcome}
use Rattle.records.specs.declared.record.Origin.{Origin}
use Rattle.records.specs.declared.record.Record as code_record
use Rattle.records.specs.Stored.{Record, Turned, Grouped, Kept, Ended, record_view}
use Rattle.records.specs.Layout.{Spelled}
use Rattle.device.specs.Devices.{Device, device_view}
use Rattle.device.specs.declared.device.Device as code
use Rattle.device.specs.Regularity.{IsRegularRecord}
use Rattle.device.specs.Sound.{IsSound}
use Rattle.device.specs.declared.fault.RestoreFault.{RestoreFault}
use Rattle.device.specs.declared.fault.RestoreFault.TheVariants.{NotSound, NoMemory}

abbrev pub ended : List ℕ × Outcome → Record
ended e = Ended e.0 e.1

-- a record for each group, each item and each closed deployment, in their order
abbrev pub stock_of : Device → List Record
stock_of d = map Grouped d.groups ++ (map Kept d.set ++ map ended d.closed)

-- the turn with its number, the origin and how many there are of each, then they
abbrev pub front_of : ℕ → Origin → Device → List Record
front_of number o d = Turned number o (length d.groups) (length d.set) (length d.closed) ∷ stock_of d

abbrev pub front_by : ℕ → Device → Option Origin → List Record
front_by number d None = []
front_by number d (Some o) = front_of number o d

-- what begins a journal anew with the device, in the turn of this number
abbrev pub Front : ℕ → Device → List Record
Front number d = front_by number d d.origin

-- a device that a front tells whole
pub record HasFront (d : Device) : Type 0 where
  pub origin : IsSome d.origin
  pub idle : d.pending ≡ None
  pub sound : IsSound d

-- these records are the front of this device, its snapshot
pub record IsFrontOf (records : List Record) (d : Device) : Type 0 where
  pub has : HasFront d
  pub number : ℕ
  pub is : records ≡ Front number d

-- no device has this front
abbrev pub IsNoFront : List Record → Type 0
IsNoFront records = (d : Device) → IsFrontOf records d → ⊥

-- records are the front of one device
abbrev pub FrontsAreOne : Type 0
FrontsAreOne = (records : List Record) (d e : Device) → IsFrontOf records d → IsFrontOf records e → d ≡ e

-- the bytes spell the record at this place
pub record SpellsAt (records : List Record) (at : ℕ) (bytes : List ℕ) : Type 0 where
  pub record_at : Record
  pub there : slice_get records at ≡ Some record_at
  pub spelled : Spelled bytes record_at

abbrev pub IsRegularEntry : code_record.Record → Type 0
IsRegularEntry r = IsRegularRecord (record_view r)

-- what restoring a device from these records answers
abbrev pub Restored : List Record → Result code.Device RestoreFault → Type 0
Restored records (Ok d) = IsFrontOf records (device_view d)
Restored records (Err NotSound) = IsNoFront records
Restored records (Err NoMemory) = ⊤
