-- What `about` answers.
use Rattle.std.specs.Prelude.{◌≡◌, ◌⊎◌, ℕ, List, [], ◌∷◌, ◌++◌, length, IsTrue, Option, Some, None, codes, decimal, ⊤}
use Rattle.hex.specs.Hex.{encode_lower}
use Rattle.nuc_base.specs.declared.status.Status.{Status}
use Rattle.nuc_base.specs.declared.status.Status.TheVariants as status
use Rattle.disk_model.specs.Disk.{Image}
use Rattle.checkpoint_log.specs.Slots.{slots_none}
use Rattle.store_root.specs.Tallies.{HasRecords, IsFirstUnknown}
use Rattle.store_root.specs.declared.tally.Tally.{Tally}
use Rattle.store_root.specs.declared.tally.UnknownRecord.{UnknownRecord}
use Rattle.records.specs.declared.record.Origin.{Origin}
use Rattle.device.specs.Devices.{Device}
use Rattle.device.specs.Limits.{most_closed, most_groups}
use Rattle.deploy_state.specs.declared.fault.LoadFault.{LoadFault}
use Rattle.deploy_state.specs.declared.fault.LoadFault.TheVariants as load
use Rattle.status_text.specs.Status.{line}
use Rattle.nucleus_top.specs.Opening.{IsImageOf, HasEntry, IsDamage, StandsForNone}
use Rattle.nucleus_top.specs.Refusing.{NoDeviceAnswer}
use Rattle.nucleus_top.specs.Answers.{Store, Printed, IsUnchanged, HasPrinted, IsOrFault, damaged_line, status_of}
use Rattle.nucleus_top.specs.declared.answer.Answer.{Answer}
use Rattle.nucleus_top.specs.declared.answer.Answer.TheVariants.{Shown, Unreadable, DiskFailed, NoMemory}

-- ---- lines

-- the version of the program, and that of the format of its journals
abbrev pub program_lines : List ℕ → List ℕ
program_lines version = line (codes "program") (version ∷ []) ++ line (codes "format") (codes "1" ∷ [])

-- a device has an origin from its first record on
abbrev pub origin_lines : Option Origin → List ℕ
origin_lines None = []
origin_lines (Some o) =
    line (codes "root") (o.root ∷ [])
    ++ line (codes "thing") (o.thing ∷ [])
    ++ line (codes "os") (o.platform.os ∷ [])
    ++ line (codes "arch") (o.platform.architecture ∷ [])
    ++ line (codes "nucleus") (o.nucleus ∷ [])

-- so many of the most that there may be
abbrev pub share_line : List ℕ → ℕ → ℕ → List ℕ
share_line word n most = line word (decimal n ∷ codes "of" ∷ decimal most ∷ [])

-- of a store with this device, whose journal holds so many records
abbrev pub about_text : List ℕ → Device → ℕ → List ℕ
about_text version d records =
    program_lines version
    ++ origin_lines d.origin
    ++ line (codes "records") (decimal records ∷ [])
    ++ share_line (codes "closed") (length d.closed) most_closed
    ++ share_line (codes "groups") (length d.groups) most_groups

-- its first byte in two hexadecimal digits, and the place of its entry
abbrev pub unknown_line : UnknownRecord → List ℕ
unknown_line u = line (codes "unknown record") (encode_lower (u.kind ∷ []) ∷ codes "at" ∷ decimal u.at ∷ [])

abbrev pub unknown_lines : Option UnknownRecord → List ℕ
unknown_lines None = []
unknown_lines (Some u) = unknown_line u

-- of a journal that stands for no device, by the fault at this place
abbrev pub unread_text : List ℕ → ℕ → Option UnknownRecord → List ℕ
unread_text version at unknown = program_lines version ++ damaged_line (decimal at) ++ unknown_lines unknown

-- ---- an image

-- the journal has an entry, and the text tells of the device for which it stands, and how many records it holds
pub record IsStoreTold (image : Image) (version text : List ℕ) : Type 0 where
  pub some : HasEntry image
  pub device : Device
  pub stands : IsImageOf image device
  pub records : ℕ
  pub counted : HasRecords image records
  pub text_is : text ≡ about_text version device records

-- the journal holds no entry, and the text is of the program alone, or it is of its device
abbrev pub IsTold : Image → List ℕ → List ℕ → Type 0
IsTold image version text = (slots_none image × (text ≡ program_lines version)) ⊎ IsStoreTold image version text

-- it stands for no device, and the text tells where it is damaged, and the first live entry of an unknown kind, where there is one
pub record IsUnread (store : Store) (version text : List ℕ) : Type 0 where
  pub at : ℕ
  pub unknown : Option UnknownRecord
  pub damage : IsTrue store.is_modelled → IsDamage store.before at
  pub first : IsTrue store.is_modelled → IsFirstUnknown store.before unknown
  pub text_is : text ≡ unread_text version at unknown

-- ---- what is told

-- the text of a device with so many records, or want of memory
abbrev pub TellsStore : List ℕ → Tally → Device → Answer → Type 0
TellsStore version tally d (Shown text) = text ≡ about_text version d tally.records
TellsStore version tally d NoMemory = ⊤
TellsStore version tally d _ = ⊥

-- that of the program alone, or want of memory
abbrev pub TellsProgram : List ℕ → Answer → Type 0
TellsProgram version (Shown text) = text ≡ program_lines version
TellsProgram version NoMemory = ⊤
TellsProgram version _ = ⊥

-- that of a damaged journal, or want of memory
abbrev pub TellsUnread : List ℕ → ℕ → Option UnknownRecord → Answer → Type 0
TellsUnread version at unknown (Unreadable text) = text ≡ unread_text version at unknown
TellsUnread version at unknown NoMemory = ⊤
TellsUnread version at unknown _ = ⊥

-- what is told where the journal gives no device
abbrev pub TellsNoDevice : List ℕ → Option UnknownRecord → LoadFault → Answer → Type 0
TellsNoDevice version unknown load.Disk a = a ≡ DiskFailed
TellsNoDevice version unknown load.NotInitialised a = TellsProgram version a
TellsNoDevice version unknown (load.Damaged at) a = TellsUnread version at unknown a
TellsNoDevice version unknown load.NoMemory a = a ≡ NoMemory

-- ---- the command

-- Why an answer comes. Every file reads as before.
abbrev pub AboutAnswer : List ℕ → Store → Answer → Type 0
AboutAnswer version store (Shown text) = IsUnchanged store × (IsTrue store.is_modelled → IsTold store.before version text)
AboutAnswer version store (Unreadable text) = IsUnchanged store × IsUnread store version text
AboutAnswer version store DiskFailed = NoDeviceAnswer store DiskFailed
AboutAnswer version store NoMemory = NoDeviceAnswer store NoMemory
AboutAnswer version store _ = ⊥

pub record AboutParts (version : List ℕ) (store : Store) (printed : Printed) (result : Status) : Type 0 where
  -- The status is that of an answer that comes by its cause, or 6.
  pub which : (result ≡ status.Edge) ⊎ ((answer : Answer) × AboutAnswer version store answer × (result ≡ status_of answer))
  -- Whatever it answers, every file reads as before.
  pub reads_only : IsUnchanged store
  -- 0 comes exactly where the journal holds no entry or stands for a device, of which is told.
  pub done : result ≡ status.Done → (text : List ℕ) × (IsTrue store.is_modelled → IsTold store.before version text) × HasPrinted printed text
  pub none_comes : IsTrue store.is_modelled → slots_none store.before → IsOrFault result status.Done
  pub done_comes : IsTrue store.is_modelled → HasEntry store.before → (d : Device) → IsImageOf store.before d → IsOrFault result status.Done
  -- 9 comes exactly where it stands for no device.
  pub damaged : result ≡ status.Damaged → (text : List ℕ) × IsUnread store version text × HasPrinted printed text
  pub damaged_comes : IsTrue store.is_modelled → StandsForNone store.before → IsOrFault result status.Damaged
