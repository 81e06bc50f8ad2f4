-- What `status` answers.
use Rattle.std.specs.Prelude.{◌≡◌, ◌⊎◌, ℕ, List, ◌++◌, Bool, true, false, IsTrue, codes, ⊤}
use Rattle.serde_json.specs.Written.{compact_text}
use Rattle.nuc_base.specs.declared.status.Status.{Status}
use Rattle.nuc_base.specs.declared.status.Status.TheVariants as status
use Rattle.disk_model.specs.Disk.{Image}
use Rattle.checkpoint_log.specs.Slots.{slots_none}
use Rattle.device.specs.Devices.{Device}
use Rattle.status_text.specs.Status.{status_text, status_tree}
use Rattle.nucleus_top.specs.Opening.{IsImageOf, HasEntry, StandsForNone}
use Rattle.nucleus_top.specs.Inits.{IsRefusedAt}
use Rattle.nucleus_top.specs.Refusing.{NoDeviceAnswer}
use Rattle.nucleus_top.specs.Answers.{Store, Printed, IsUnchanged, HasPrinted, IsOrFault, none_line, damaged_line, status_of}
use Rattle.nucleus_top.specs.declared.answer.Answer.{Answer}
use Rattle.nucleus_top.specs.declared.answer.Answer.TheVariants.{Shown, NoMemory}

-- the lines of a device, or one line of JSON
abbrev pub shown : Bool → Device → List ℕ
shown false d = status_text d
shown true d = compact_text (status_tree d) ++ codes "\n"

-- the journal has an entry, and the text shows the device for which it stands
pub record IsShown (image : Image) (json : Bool) (text : List ℕ) : Type 0 where
  pub some : HasEntry image
  pub device : Device
  pub stands : IsImageOf image device
  pub text_is : text ≡ shown json device

-- the text of a device, or want of memory
abbrev pub ShowsDevice : Bool → Device → Answer → Type 0
ShowsDevice json d (Shown text) = text ≡ shown json d
ShowsDevice json d NoMemory = ⊤
ShowsDevice json d _ = ⊥

-- Why an answer comes, and what it leaves on the disk.
abbrev pub StatusAnswer : Bool → Store → Answer → Type 0
StatusAnswer json store (Shown text) = IsUnchanged store × (IsTrue store.is_modelled → IsShown store.before json text)
StatusAnswer json store answer = NoDeviceAnswer store answer

pub record StatusParts (json : Bool) (store : Store) (printed : Printed) (result : Status) : Type 0 where
  -- The status is that of an answer that comes by its cause, or 6.
  pub which : (result ≡ status.Edge) ⊎ ((answer : Answer) × StatusAnswer json store answer × (result ≡ status_of answer))
  -- Whatever it answers, every file reads as before.
  pub reads_only : IsUnchanged store
  -- 0 comes exactly where the journal has an entry and stands for a device, which is printed.
  pub done : result ≡ status.Done → (text : List ℕ) × (IsTrue store.is_modelled → IsShown store.before json text) × HasPrinted printed text
  pub done_comes : IsTrue store.is_modelled → HasEntry store.before → (d : Device) → IsImageOf store.before d → IsOrFault result status.Done
  -- 8 comes exactly where the journal holds no entry.
  pub none : result ≡ status.NotInitialised → (IsTrue store.is_modelled → slots_none store.before) × HasPrinted printed none_line
  pub none_comes : IsTrue store.is_modelled → slots_none store.before → IsOrFault result status.NotInitialised
  -- 9 comes exactly where the journal stands for no device.
  pub damaged : result ≡ status.Damaged → (place : List ℕ) × IsRefusedAt store place × HasPrinted printed (damaged_line place)
  pub damaged_comes : IsTrue store.is_modelled → StandsForNone store.before → IsOrFault result status.Damaged
