-- What `init` answers.
use Rattle.std.specs.Prelude.{◌≡◌, ◌⊎◌, ℕ, List, IsTrue, Some, ⊤}
use Rattle.std.specs.Fmt.{decimal}
use Rattle.nuc_base.specs.declared.status.Status.{Status}
use Rattle.nuc_base.specs.declared.status.Status.TheVariants as status
use Rattle.checkpoint_log.specs.Slots.{slots_files, slots_none}
use Rattle.records.specs.declared.record.Origin.{Origin}
use Rattle.device.specs.Devices.{Device}
use Rattle.nucleus_top.specs.Begun.{begun_device, ImageBegun}
use Rattle.nucleus_top.specs.Opening.{IsImageOf, HasEntry, StandsForNone, IsDamage, IsInitialised}
use Rattle.nucleus_top.specs.Answers.{Store, Printed, IsUnchanged, HasRisen, HasPrinted, IsOrFault, made_line, damaged_line, initialised_line, status_of}
use Rattle.nucleus_top.specs.declared.answer.Answer.{Answer}
use Rattle.nucleus_top.specs.declared.answer.Answer.TheVariants.{Made, DiskFailed, Damaged, Initialised, NoMemory}

-- The journal held no entry and stands for the device that begins with this origin; the other files stay.
pub record IsMade (store : Store) (origin : Origin) : Type 0 where
  pub none : slots_none store.before
  pub stands : IsImageOf store.after (begun_device origin)
  pub others : (name : List ℕ) → ¬ (slots_files name) → store.after name ≡ store.before name

-- Every file reads as before; or the journal held no entry, and holds none or stands for the device of the origin.
abbrev pub MayBegin : Store → Origin → Type 0
MayBegin store origin = IsUnchanged store ⊎ ImageBegun origin store.before store.after

-- refused by a fault of the journal, with its place
abbrev pub IsRefusedAt : Store → List ℕ → Type 0
IsRefusedAt store place = IsUnchanged store × ((at : ℕ) × (place ≡ decimal at) × (IsTrue store.is_modelled → IsDamage store.before at))

-- such an answer to a fault at this place, or want of memory
abbrev pub IsPlace : ℕ → Answer → Type 0
IsPlace at (Damaged place) = place ≡ decimal at
IsPlace at NoMemory = ⊤
IsPlace at _ = ⊥

-- the refusal that names the thing of a device, or want of memory
abbrev pub NamesThing : Device → Answer → Type 0
NamesThing d (Initialised thing) = (origin : Origin) × (d.origin ≡ Some origin) × (thing ≡ origin.thing)
NamesThing d NoMemory = ⊤
NamesThing d _ = ⊥

-- Why an answer comes, and what it leaves on the disk.
abbrev pub InitAnswer : Origin → Store → Answer → Type 0
InitAnswer origin store (Made thing) = (thing ≡ origin.thing) × (IsTrue store.is_modelled → IsMade store origin)
InitAnswer origin store DiskFailed = HasRisen store × (IsTrue store.is_modelled → MayBegin store origin)
InitAnswer origin store (Damaged place) = IsRefusedAt store place
InitAnswer origin store (Initialised thing) = IsUnchanged store × (IsTrue store.is_modelled → IsInitialised store.before thing)
InitAnswer origin store NoMemory = IsUnchanged store
InitAnswer origin store _ = ⊥

pub record InitParts (origin : Origin) (store : Store) (printed : Printed) (result : Status) : Type 0 where
  -- The status is that of an answer that comes by its cause, or 6.
  pub which : (result ≡ status.Edge) ⊎ ((answer : Answer) × InitAnswer origin store answer × (result ≡ status_of answer))
  -- 0 comes exactly where the journal held no entry; it then stands for the device of the origin.
  pub done : result ≡ status.Done → (IsTrue store.is_modelled → IsMade store origin) × HasPrinted printed (made_line origin.thing)
  pub done_comes : IsTrue store.is_modelled → slots_none store.before → IsOrFault result status.Done
  -- 5: every file reads as before, or the journal held no entry, and holds none or stands for the device of the origin.
  pub failed : result ≡ status.Disk → IsTrue store.is_modelled → MayBegin store origin
  -- 9 comes exactly where the journal stands for no device.
  pub damaged : result ≡ status.Damaged → (place : List ℕ) × IsRefusedAt store place × HasPrinted printed (damaged_line place)
  pub damaged_comes : IsTrue store.is_modelled → StandsForNone store.before → IsOrFault result status.Damaged
  -- 16 comes exactly where it has an entry and stands for a device, whose thing is named.
  pub initialised : result ≡ status.Initialised → (thing : List ℕ) × IsUnchanged store × (IsTrue store.is_modelled → IsInitialised store.before thing) ×
      HasPrinted printed (initialised_line thing)
  pub initialised_comes : IsTrue store.is_modelled → HasEntry store.before → (d : Device) → IsImageOf store.before d → IsOrFault result status.Initialised
