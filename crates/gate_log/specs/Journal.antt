-- A journal over some files of a disk, whichever way it keeps its entries.
use Rattle.std.specs.Prelude.{◌≡◌, ◌<◌, ◌⊎◌, ℕ, length, Bool, IsTrue, List, [], ◌∷◌, ◌++◌}
use Rattle.disk_model.specs.Disk.{Image, Settled, DiskLaws}
use Rattle.gate_log.specs.Entries.{journal, ClosedAt, HasEntries, HoldsNone, IsDamaged}
use Rattle.gate_log.specs.Place.{place_behind}
use Rattle.gate_log.specs.declared.log.Log.{Log}

-- the image has this, and the files that aren't the journal's stay
pub record IsChangeIn (files : List ℕ → Type 0) (P : Image → Type 0) (old new : Image) : Type 0 where
  pub here : P new
  pub others : (name : List ℕ) → ¬ (files name) → new name ≡ old name

-- a crash leaves the journal's files as they read
abbrev pub AreSettled : {D : Type 0} → (D → Image) → (D → Image → Type 0) → (List ℕ → Type 0) → D → Type 0
AreSettled seen may_leave files disk = (file : List ℕ) → files file → Settled (may_leave disk) file (seen disk file)

-- in each image that a crash may leave now, the journal stands behind these payloads' entries
pub record IsBehind {J D : Type 0} (may_leave : D → Image → Type 0) (stands : J → Image → List (List ℕ) → Type 0) (log : J) (disk : D)
    (payloads : List (List ℕ)) : Type 0 where
  pub each : (c : Image) → may_leave disk c → stands log c payloads

-- it does so as the disk reads, which is one of these images
pub reads_behind : {J D : Type 0} {is_modelled : Bool} {seen : D → Image} {may_leave : D → Image → Type 0} {moment : D → ℕ} {left_since : D → ℕ → Image →
    Type 0}
    → DiskLaws is_modelled seen may_leave moment left_since → (stands : J → Image → List (List ℕ) → Type 0) (log : J) (disk : D) (payloads : List (List ℕ))
    → IsBehind may_leave stands log disk payloads → IsTrue is_modelled → stands log (seen disk) payloads
reads_behind {seen = seen} laws stands log disk payloads behind told = behind.each (seen disk) (laws.reads disk told)

-- the entries of before, with one more or without
abbrev pub BeforeOrAfter : {A : Type 0} → (A → List (List ℕ) → Type 0) → List (List ℕ) → List ℕ → A → Type 0
BeforeOrAfter entries payloads payload there = entries there payloads ⊎ entries there (payloads ++ payload ∷ [])

-- what layers above need to know of a representation
pub record JournalLaws {J : Type 0} (files : List ℕ → Type 0) (entries : Image → List (List ℕ) → Type 0) (holds_none : Image → Type 0)
    (is_damaged : Image → ℕ → Type 0)
    (stands : J → Image → List (List ℕ) → Type 0) (end : J → ℕ) : Type 0 where
  -- what a journal stands behind are the image's live entries
  pub holds : (log : J) (image : Image) (payloads : List (List ℕ)) → stands log image payloads → entries image payloads
  -- and its end is the place behind them
  pub ends : (log : J) (image : Image) (payloads : List (List ℕ)) → stands log image payloads → end log ≡ place_behind payloads
  -- only its own files matter
  pub depends : (log : J) (a b : Image) (payloads : List (List ℕ)) → ((name : List ℕ) → files name → b name ≡ a name) → stands log a payloads →
      stands log b payloads
  -- an image has one list of live entries
  pub one : (image : Image) (first second : List (List ℕ)) → entries image first → entries image second → first ≡ second
  pub none_held : (image : Image) → holds_none image → entries image []
  pub not_damaged : (image : Image) (at : ℕ) (payloads : List (List ℕ)) → is_damaged image at → entries image payloads → ⊥

-- ---- a log in one file

-- its file
abbrev pub files_of : List ℕ → List ℕ → Type 0
files_of file name = name ≡ file

-- its end is the closed gate behind these payloads' entries
abbrev pub stands_in : List ℕ → Log → Image → List (List ℕ) → Type 0
stands_in file log image payloads = ClosedAt (image file) log.end payloads

-- the image's file holds these entries
abbrev pub entries_in : List ℕ → Image → List (List ℕ) → Type 0
entries_in file image payloads = HasEntries (image file) payloads

-- the image's file holds no entry
abbrev pub none_in : List ℕ → Image → Type 0
none_in file image = HoldsNone (image file)

-- the image's file is damaged at this place
abbrev pub damaged_in : List ℕ → Image → ℕ → Type 0
damaged_in file image at = (1 < length (image file)) × IsDamaged (image file) at

-- ---- the log of a store

abbrev pub log_files : List ℕ → Type 0
log_files = files_of journal

abbrev pub log_stands : Log → Image → List (List ℕ) → Type 0
log_stands = stands_in journal

abbrev pub log_entries : Image → List (List ℕ) → Type 0
log_entries = entries_in journal

abbrev pub log_none : Image → Type 0
log_none = none_in journal

abbrev pub log_damaged : Image → ℕ → Type 0
log_damaged = damaged_in journal
