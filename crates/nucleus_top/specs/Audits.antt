-- What `audit` answers.
use Rattle.std.specs.Prelude.{◌≡◌, ◌⊎◌, ℕ, List, [], ◌∷◌, ◌++◌, Bool, IsTrue, codes, ⊤}
use Rattle.hex.specs.Hex.{encode_lower}
use Rattle.nuc_base.specs.Tables.{IsFirst}
use Rattle.nuc_base.specs.declared.status.Status.{Status}
use Rattle.nuc_base.specs.declared.status.Status.TheVariants as status
use Rattle.disk_model.specs.Disk.{Image}
use Rattle.disk_model.specs.Listing.{artifacts}
use Rattle.checkpoint_log.specs.Slots.{slots_none}
use Rattle.device.specs.Devices.{Device}
use Rattle.artifact_store.specs.Audited.{items_lines}
use Rattle.artifact_store.specs.Holding.{HoldsDevice}
use Rattle.artifact_store.specs.Swept.{items_of}
use Rattle.status_text.specs.Status.{line}
use Rattle.nucleus_top.specs.Opening.{IsImageOf, HasEntry, StandsForNone}
use Rattle.nucleus_top.specs.Inits.{IsRefusedAt}
use Rattle.nucleus_top.specs.Refusing.{NoDeviceAnswer}
use Rattle.nucleus_top.specs.Answers.{Store, Printed, IsUnchanged, HasPrinted, IsOrFault, whole_line, none_line, damaged_line, status_of}
use Rattle.nucleus_top.specs.declared.answer.Answer.{Answer}
use Rattle.nucleus_top.specs.declared.answer.Answer.TheVariants.{Whole, Differs, DiskFailed, NoMemory}

-- a file, as NAME/VERSION/FILE, and the digest that it has
abbrev pub differs_line : List ℕ → List ℕ → List ℕ
differs_line file digest = line (codes "refused 20 Differs") (file ∷ encode_lower digest ∷ [])

-- Of the artifacts of the device's set, and then of its pending plan, this is the first whose file has another digest than
-- the kept one. The text has the file without its folder, and the digest that the file has.
pub record NamesDifferent (image : Image) (d : Device) (text : List ℕ) : Type 0 where
  pub file : List ℕ
  pub digest : List ℕ
  pub first : IsFirst (items_lines image (items_of d)) (artifacts ++ file, digest)
  pub text_is : text ≡ differs_line file digest
  pub unlike : HoldsDevice image d → ⊥

-- what comparing the files of a device answers, where the disk tells what they hold
abbrev pub ComparisonAnswer : Bool → Image → Device → Answer → Type 0
ComparisonAnswer is_modelled image d Whole = IsTrue is_modelled → HoldsDevice image d
ComparisonAnswer is_modelled image d (Differs text) = IsTrue is_modelled → NamesDifferent image d text
ComparisonAnswer is_modelled image d DiskFailed = ⊤
ComparisonAnswer is_modelled image d NoMemory = ⊤
ComparisonAnswer is_modelled image d _ = ⊥

-- the journal has an entry and stands for a device, each of whose artifacts has its digest
pub record IsWhole (image : Image) : Type 0 where
  pub some : HasEntry image
  pub device : Device
  pub stands : IsImageOf image device
  pub holds : HoldsDevice image device

-- it does, and the text names the first file that has another
pub record IsDifferent (image : Image) (text : List ℕ) : Type 0 where
  pub some : HasEntry image
  pub device : Device
  pub stands : IsImageOf image device
  pub names : NamesDifferent image device text

-- Why an answer comes, and what it leaves on the disk.
abbrev pub AuditAnswer : Store → Answer → Type 0
AuditAnswer store Whole = IsUnchanged store × (IsTrue store.is_modelled → IsWhole store.before)
AuditAnswer store (Differs text) = IsUnchanged store × (IsTrue store.is_modelled → IsDifferent store.before text)
AuditAnswer store answer = NoDeviceAnswer store answer

pub record AuditParts (store : Store) (printed : Printed) (result : Status) : Type 0 where
  -- The status is that of an answer that comes by its cause, or 6.
  pub which : (result ≡ status.Edge) ⊎ ((answer : Answer) × AuditAnswer store answer × (result ≡ status_of answer))
  -- Whatever it answers, every file reads as before.
  pub reads_only : IsUnchanged store
  -- 0 comes exactly where each artifact of the device has its digest.
  pub done : result ≡ status.Done → (IsTrue store.is_modelled → IsWhole store.before) × HasPrinted printed whole_line
  pub done_comes : IsTrue store.is_modelled → IsWhole store.before → IsOrFault result status.Done
  -- 20 comes exactly where some file has another, and the first of them is named with the digest found.
  pub differs : result ≡ status.Differs → (text : List ℕ) × (IsTrue store.is_modelled → IsDifferent store.before text) × HasPrinted printed text
  pub differs_comes : IsTrue store.is_modelled → HasEntry store.before → (d : Device) → IsImageOf store.before d → (HoldsDevice store.before d → ⊥) →
      IsOrFault result status.Differs
  -- 8 comes exactly where the journal holds no entry.
  pub none : result ≡ status.NotInitialised → (IsTrue store.is_modelled → slots_none store.before) × HasPrinted printed none_line
  pub none_comes : IsTrue store.is_modelled → slots_none store.before → IsOrFault result status.NotInitialised
  -- 9 comes exactly where the journal stands for no device.
  pub damaged : result ≡ status.Damaged → (place : List ℕ) × IsRefusedAt store place × HasPrinted printed (damaged_line place)
  pub damaged_comes : IsTrue store.is_modelled → StandsForNone store.before → IsOrFault result status.Damaged
