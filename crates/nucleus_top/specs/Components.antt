-- What `components` answers.
use Rattle.std.specs.Prelude.{◌≡◌, ◌≢◌, ◌⊎◌, ℕ, Bool, true, false, List, [], ◌∷◌, take, Option, Some, None, IsTrue, IsUtf8, codes, ⊤}
use Rattle.std.specs.List.{flat_map}
use Rattle.nuc_base.specs.declared.status.Status.{Status}
use Rattle.nuc_base.specs.declared.status.Status.TheVariants as status
use Rattle.disk_model.specs.Disk.{Image}
use Rattle.checkpoint_log.specs.Slots.{slots_none}
use Rattle.records.specs.Stored.{Item}
use Rattle.device.specs.Devices.{Device}
use Rattle.status_text.specs.Status.{line}
use Rattle.nucleus_top.specs.Answers.{Store, Printed, IsUnchanged, HasPrinted, IsOrFault, damaged_line, none_line, status_of}
use Rattle.nucleus_top.specs.Inits.{IsRefusedAt}
use Rattle.nucleus_top.specs.Opening.{IsImageOf, HasEntry, StandsForNone}
use Rattle.nucleus_top.specs.Planning.{IsFound}
use Rattle.nucleus_top.specs.Refusing.{NoDeviceAnswer}
use Rattle.nucleus_top.specs.declared.answer.Answer.{Answer}
use Rattle.nucleus_top.specs.declared.answer.Answer.TheVariants.{Shown, DiskFailed, NotInitialised, Damaged, NoMemory}

-- ---- where nobody runs them

-- a component that nobody runs
abbrev pub stopped_line : Item → List ℕ
stopped_line i = line (codes "component") (i.name ∷ i.version ∷ codes "STOPPED" ∷ [])

-- the components of the set in its order
abbrev pub stopped_lines : Device → List ℕ
stopped_lines d = flat_map stopped_line d.set

-- they, or want of memory
abbrev pub ListsStopped : Device → Answer → Type 0
ListsStopped d (Shown text) = text ≡ stopped_lines d
ListsStopped d NoMemory = ⊤
ListsStopped d _ = ⊥

-- ---- where another program runs them

-- the file in which it says how they stand
abbrev pub running_file : List ℕ
running_file = codes "running"

-- as much of it as one read takes, which is more than a view has
abbrev pub running_text : Image → List ℕ
running_text image = take 262144 (image running_file)

-- Another program holds the lock of the writers, where the disk tells that, and these are the lines of that file, which is there.
pub record IsRunning (writer : Option Bool) (store : Store) (text : List ℕ) : Type 0 where
  pub held : writer ≢ Some false
  pub lines : IsTrue store.is_modelled → (text ≡ running_text store.before) × (text ≢ []) × IsUtf8 text

-- None holds it, or that file is not there or no text.
abbrev pub IsSilent : Option Bool → Image → Type 0
IsSilent writer image = (writer ≡ Some false) ⊎ ((running_text image ≡ []) ⊎ (IsUtf8 (running_text image) → ⊥))

-- what is made of the bytes of that file: its text, where they are some and UTF-8
abbrev pub RunningOutcome : List ℕ → Option (List ℕ) → Type 0
RunningOutcome bytes (Some text) = (text ≡ bytes) × (bytes ≢ []) × IsUtf8 bytes
RunningOutcome bytes None = (bytes ≡ []) ⊎ (IsUtf8 bytes → ⊥)

-- where the disk tells both
abbrev pub SaysNone : Option Bool → Store → Type 0
SaysNone writer store = IsTrue store.is_modelled → writer ≡ Some true → IsSilent writer store.before

-- ---- the command

-- the components of the set of the device for which the journal stands
pub record IsStopped (writer : Option Bool) (store : Store) (text : List ℕ) : Type 0 where
  pub silent : SaysNone writer store
  pub device : Device
  pub found : IsFound store device
  pub text_is : text ≡ stopped_lines device

-- Why an answer comes: the lines of a program that runs them, or else by what the journal stands for. Every file reads as before.
abbrev pub ComponentsAnswer : Option Bool → Store → Answer → Type 0
ComponentsAnswer writer store (Shown text) = IsUnchanged store × (IsRunning writer store text ⊎ IsStopped writer store text)
ComponentsAnswer writer store DiskFailed = NoDeviceAnswer store DiskFailed
ComponentsAnswer writer store NotInitialised = NoDeviceAnswer store NotInitialised × SaysNone writer store
ComponentsAnswer writer store (Damaged place) = NoDeviceAnswer store (Damaged place) × SaysNone writer store
ComponentsAnswer writer store NoMemory = NoDeviceAnswer store NoMemory
ComponentsAnswer writer store _ = ⊥

pub record ComponentsParts (writer : Option Bool) (store : Store) (printed : Printed) (result : Status) : Type 0 where
  -- The status is that of an answer that comes by its cause, or 6.
  pub which : (result ≡ status.Edge) ⊎ ((answer : Answer) × ComponentsAnswer writer store answer × (result ≡ status_of answer))
  -- Whatever it answers, every file reads as before.
  pub reads_only : IsUnchanged store
  -- 0 comes exactly where another program holds the lock and that file is there, whose lines are printed, or the journal stands for a
  -- device, the components of whose set are then printed.
  pub done : result ≡ status.Done → (text : List ℕ) × (IsRunning writer store text ⊎ IsStopped writer store text) × HasPrinted printed text
  pub running_comes : IsTrue store.is_modelled → writer ≡ Some true → (IsSilent writer store.before → ⊥) → IsOrFault result status.Done
  pub done_comes : IsTrue store.is_modelled → HasEntry store.before → (d : Device) → IsImageOf store.before d → IsOrFault result status.Done
  -- 8 and 9 come only where no other program says how they stand, and then exactly where the journal gives no device.
  pub none : result ≡ status.NotInitialised → (IsTrue store.is_modelled → slots_none store.before) × SaysNone writer store × HasPrinted printed none_line
  pub none_comes : IsTrue store.is_modelled → IsSilent writer store.before → slots_none store.before → IsOrFault result status.NotInitialised
  pub damaged : result ≡ status.Damaged → (place : List ℕ) × IsRefusedAt store place × SaysNone writer store × HasPrinted printed (damaged_line place)
  pub damaged_comes : IsTrue store.is_modelled → IsSilent writer store.before → StandsForNone store.before → IsOrFault result status.Damaged
