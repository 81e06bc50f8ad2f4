-- What staging a draft answers and leaves.
use Rattle.std.specs.Prelude.{◌≡◌, ◌⊎◌, ℕ, ◌≤◌, ◌&&◌, nat_eq, Bool, true, false, List, [], ◌++◌, length, map, Option, Some, None, Result, MatchResult}
use Rattle.std.specs.Prelude.{IsErrOf, IfSome}
use Rattle.std.specs.List.{AllByRecursion, Contains, IsDistinct, list_any}
use Rattle.std.specs.Option.{IsSome}
use Rattle.std.specs.Str.{bytes_eq}
use Rattle.std.specs.Cmp.Lexicographic.{pointwise}
use Rattle.sha2.specs.Sha256.{sha256}
use Rattle.nuc_base.specs.Faults.{Rose}
use Rattle.nuc_base.specs.Tables.{Table, IsFirst, AllHold, each}
use Rattle.nuc_base.specs.declared.artifact.Artifact.{Artifact}
use Rattle.tree_core.specs.Parts.{check}
use Rattle.library_core.specs.Library.{Artifacts}
use Rattle.recipe_reader.specs.Sound.{artifact_file}
use Rattle.records.specs.Stored.{Item, DraftItem, Draft}
use Rattle.records.specs.declared.record.Held.{Held}
use Rattle.artifact_store.specs.Paths.{path}
use Rattle.artifact_store.specs.declared.fault.StageFault.{StageFault}
use Rattle.artifact_store.specs.declared.fault.StageFault.TheVariants as fault

-- the most bytes of an artifact
abbrev pub most_bytes : ℕ
most_bytes = 67108864

-- ---- which items are kept

abbrev pub is_same : DraftItem → Item → Bool
is_same i k = pointwise nat_eq k.name i.name && pointwise nat_eq k.version i.version

-- the set has the item in this version
abbrev pub is_kept : List Item → DraftItem → Bool
is_kept kept i = list_any (is_same i) kept

-- the set does not have it
abbrev pub IsNew : List Item → DraftItem → Type 0
IsNew kept i = (k : Item) → Contains kept k → k.name ≡ i.name → k.version ≡ i.version → ⊥

-- a file of the item
abbrev pub IsFileOfDraft : DraftItem → List ℕ → Type 0
IsFileOfDraft i file = (a : Artifact) × Contains i.artifacts a × (file ≡ path i.name i.version a.file)

-- what staging one item reads and writes: its files, unless it is kept
abbrev pub IsStagedOf : List Item → DraftItem → List ℕ → Type 0
IsStagedOf kept i file = IsNew kept i × IsFileOfDraft i file

-- what staging reads and writes
abbrev pub IsStagedAmong : List Item → List DraftItem → List ℕ → Type 0
IsStagedAmong kept items file = (i : DraftItem) × Contains items i × IsStagedOf kept i file

abbrev pub IsStaged : List Item → Draft → List ℕ → Type 0
IsStaged kept draft file = IsStagedAmong kept draft.items file

-- the artifact has a kept file's name and its digest
abbrev pub HasKeptFile : List Held → Artifact → Type 0
HasKeptFile helds a = (h : Held) × Contains helds h × (h.file ≡ a.file) × (a.digest ≡ Some h.digest)

-- an item that is kept in this version has the kept files with the kept digests
abbrev pub KeepsFiles : List Item → DraftItem → Type 0
KeepsFiles kept i = (k : Item) → Contains kept k → k.name ≡ i.name → k.version ≡ i.version → AllByRecursion (HasKeptFile k.artifacts) i.artifacts

abbrev pub draft_name : DraftItem → List ℕ
draft_name i = i.name

-- each of its files has a name of its own
abbrev pub HasItsFiles : DraftItem → Type 0
HasItsFiles i = IsDistinct bytes_eq (map artifact_file i.artifacts)

-- the recipe, or what is kept, gives its digest
abbrev pub IsGiven : Artifact → Type 0
IsGiven a = IsSome a.digest

-- ---- the checks on one artifact, by the bytes that the library has

abbrev pub found_lines : List ℕ → Option (List ℕ) → Option (List ℕ) → Table StageFault
found_lines file given None = check ⊥ (fault.Missing file)
found_lines file given (Some bytes) =
    check (length bytes ≤ most_bytes) (fault.TooLarge file most_bytes)
    ++ check (IfSome given (λ d. d ≡ sha256 bytes)) (fault.Mismatch file (sha256 bytes))

abbrev pub artifact_lines : Artifacts → DraftItem → Artifact → Table StageFault
artifact_lines l i a = found_lines (path i.name i.version a.file) a.digest (l i.name i.version a.file)

abbrev pub unless : Bool → Table StageFault → Table StageFault
unless true lines = []
unless false lines = lines

-- of the artifacts of an item in their order, unless it is kept
abbrev pub item_lines : Artifacts → List Item → DraftItem → Table StageFault
item_lines l kept i = unless (is_kept kept i) (each (artifact_lines l i) i.artifacts)

abbrev pub draft_lines : Artifacts → List Item → Draft → Table StageFault
draft_lines l kept draft = each (item_lines l kept) draft.items

-- ---- answers

-- a fault that the lines say nothing of: the disk's, the library's, or want of memory
abbrev pub IsOutside : StageFault → Type 0
IsOutside f = (f ≡ fault.Disk) ⊎ ((f ≡ fault.Library) ⊎ (f ≡ fault.NoMemory))

-- every line holds of a good answer, and a fault is that of the first that fails
abbrev pub StagesBy : {A : Type 0} → Table StageFault → (A → Type 0) → Result A StageFault → Type 0
StagesBy lines Is result = MatchResult result (λ value. AllHold lines × Is value) (λ f. IsOutside f ⊎ IsFirst lines f)

-- the disk's fault exactly where the disk's count rose, and the library's where the library's did
pub record HasCounted {A : Type 0} (disk_before disk_now library_before library_now : ℕ) (result : Result A StageFault) : Type 0 where
  pub disk_cause : IsErrOf result fault.Disk → Rose disk_before disk_now
  pub disk_quiet : ¬ (IsErrOf result fault.Disk) → disk_now ≡ disk_before
  pub disk_later : disk_before ≤ disk_now
  pub library_cause : IsErrOf result fault.Library → Rose library_before library_now
  pub library_quiet : ¬ (IsErrOf result fault.Library) → library_now ≡ library_before
  pub library_later : library_before ≤ library_now
