-- The answers of a call: what each prints, and with which status it ends.
use Rattle.std.specs.Prelude.{◌≡◌, ◌≢◌, ◌⊎◌, ℕ, List, ◌++◌, Bool, codes}
use Rattle.std.specs.declared.option.Option.{Option}
use Rattle.std.specs.Io.KnownBytes.{Appends}
use Rattle.disk_model.specs.Disk.{Image}
use Rattle.disk_model.specs.declared.disk.Disk as a_disk
use Rattle.nuc_base.specs.declared.status.Status.{Status}
use Rattle.nuc_base.specs.declared.status.Status.TheVariants as status
use Rattle.nuc_base.specs.Faults.{Rose}
use Rattle.edges.specs.Pieces.{AppendsPrefix}
use Rattle.edges.specs.declared.sink.Sink as a_sink
use Rattle.edges.specs.declared.source.Source as a_source
use Rattle.library_core.specs.Library.{Content}
use Rattle.library_core.specs.declared.library.Library as a_library
use Rattle.recipe_reader.specs.Members.{members}
use Rattle.refusal_lines.specs.Statuses.{status_of_refusal}
use Rattle.why_not.specs.Reasons.{seen}
use Rattle.why_not.specs.Texts.{why_bytes}
use Rattle.nucleus_top.specs.declared.answer.Answer.{Answer}
use Rattle.nucleus_top.specs.declared.answer.Answer.TheVariants.{Made, Shown, Planned, Unplanned, Whole, Differs, Pending, WrongWords, DiskFailed}
use Rattle.nucleus_top.specs.declared.answer.Answer.TheVariants.{SourceFailed, LibraryFailed, NotInitialised, Damaged, Initialised}
use Rattle.nucleus_top.specs.declared.answer.Answer.TheVariants.{NoMemory, Possible, Impossible, Got, Absent, Drawn, Unreadable}

abbrev pub status_of : Answer → Status
status_of (Made thing) = status.Done
status_of (Shown text) = status.Done
status_of (Planned text) = status.Done
status_of (Unplanned refusal text) = status_of_refusal refusal
status_of Possible = status.Done
status_of (Impossible e) = status.NoVersion
status_of (Drawn text) = status.Done
status_of (Got text) = status.Done
status_of (Absent text) = status.Absent
status_of Whole = status.Done
status_of (Differs text) = status.Differs
status_of (Pending id) = status.PendingStands
status_of WrongWords = status.Usage
status_of DiskFailed = status.Disk
status_of SourceFailed = status.Edge
status_of LibraryFailed = status.Library
status_of NotInitialised = status.NotInitialised
status_of (Damaged place) = status.Damaged
status_of (Unreadable text) = status.Damaged
status_of (Initialised thing) = status.Initialised
status_of NoMemory = status.Memory

abbrev pub usage_line : List ℕ
usage_line = codes "usage: nucleus --root DIR COMMAND [OPTIONS]\n"

abbrev pub made_line : List ℕ → List ℕ
made_line thing = codes "initialised " ++ thing ++ codes "\n"

abbrev pub pending_line : List ℕ → List ℕ
pending_line id = codes "refused 4 pending " ++ id ++ codes "\n"

abbrev pub whole_line : List ℕ
whole_line = codes "whole\n"

abbrev pub possible_line : List ℕ
possible_line = codes "possible\n"

abbrev pub library_line : List ℕ
library_line = codes "refused 7 library\n"

abbrev pub none_line : List ℕ
none_line = codes "refused 8 NotInitialised\n"

abbrev pub damaged_line : List ℕ → List ℕ
damaged_line place = codes "refused 9 Damaged " ++ place ++ codes "\n"

abbrev pub initialised_line : List ℕ → List ℕ
initialised_line thing = codes "refused 16 Initialised " ++ thing ++ codes "\n"

-- what an answer prints
abbrev pub lines_of : Answer → List ℕ
lines_of (Made thing) = made_line thing
lines_of (Shown text) = text
lines_of (Planned text) = text
lines_of (Unplanned refusal text) = text
lines_of Possible = possible_line
lines_of (Impossible e) = why_bytes (members e.candidates) (seen e.why)
lines_of (Drawn text) = text
lines_of (Got text) = text
lines_of (Absent text) = text
lines_of Whole = whole_line
lines_of (Differs text) = text
lines_of (Pending id) = pending_line id
lines_of WrongWords = usage_line
lines_of DiskFailed = codes "fault 5 disk\n"
lines_of SourceFailed = codes "fault 6 source\n"
lines_of LibraryFailed = library_line
lines_of NotInitialised = none_line
lines_of (Damaged place) = damaged_line place
lines_of (Unreadable text) = text
lines_of (Initialised thing) = initialised_line thing
lines_of NoMemory = codes ""

-- The disk of a call: whether it tells, what its files read as before and after, and its counts of faults.
pub record Store : Type 0 where
  pub is_modelled : Bool
  pub before : Image
  pub after : Image
  pub faults_before : ℕ
  pub faults_after : ℕ

abbrev pub store_of : {D : Type 0} → Bool → (D → Image) → (D → ℕ) → D → D → Store
store_of is_modelled seen faults old new = record {
  is_modelled = is_modelled;
  before = seen old;
  after = seen new;
  faults_before = faults old;
  faults_after =
      faults new;
}

abbrev pub store_over : {D : Type 0} → a_disk.Ghosts D → D → D → Store
store_over disk old new = store_of disk.is_modelled disk.seen disk.faults old new

-- What a call reads from: the bytes that it has left before and after. Untold bytes are None.
pub record Input : Type 0 where
  pub document : Option (List ℕ)
  pub rest : Option (List ℕ)
  pub faults_before : ℕ
  pub faults_after : ℕ

abbrev pub input_of : {S : Type 0} → (S → Option (List ℕ)) → (S → ℕ) → S → S → Input
input_of left faults old new = record { document = left old; rest = left new; faults_before = faults old; faults_after = faults new }

abbrev pub input_over : {S : Type 0} → a_source.Ghosts S → S → S → Input
input_over source old new = input_of source.left source.faults old new

-- The library of a call: what it tells of what it holds when the call ends, and its counts of faults.
pub record Shelf : Type 0 where
  pub content : Content
  pub faults_before : ℕ
  pub faults_after : ℕ

abbrev pub shelf_of : {L : Type 0} → (L → Content) → (L → ℕ) → L → L → Shelf
shelf_of content faults old new = record { content = content new; faults_before = faults old; faults_after = faults new }

abbrev pub shelf_over : {L : Type 0} → a_library.Ghosts L → L → L → Shelf
shelf_over library old new = shelf_of library.content library.faults old new

-- What a call prints to, before and after.
pub record Printed : Type 0 where
  pub before : Option (List ℕ)
  pub after : Option (List ℕ)
  pub faults_before : ℕ
  pub faults_after : ℕ

abbrev pub printed_of : {K : Type 0} → (K → Option (List ℕ)) → (K → ℕ) → K → K → Printed
printed_of held faults old new = record { before = held old; after = held new; faults_before = faults old; faults_after = faults new }

abbrev pub printed_over : {K : Type 0} → a_sink.Ghosts K → K → K → Printed
printed_over sink old new = printed_of sink.held sink.faults old new

-- what every file reads as is unchanged
abbrev pub IsUnchanged : Store → Type 0
IsUnchanged store = store.after ≡ store.before

abbrev pub HasRisen : Store → Type 0
HasRisen store = Rose store.faults_before store.faults_after

abbrev pub HasPrinted : Printed → List ℕ → Type 0
HasPrinted printed lines = Appends printed.before printed.after lines

-- No count rose but that of the fault which is answered.
pub record IsQuiet (store : Store) (input : Input) (answer : Answer) : Type 0 where
  pub disk : answer ≢ DiskFailed → store.faults_after ≡ store.faults_before
  pub source : answer ≢ SourceFailed → input.faults_after ≡ input.faults_before

-- The library's count rose only for its own fault.
abbrev pub IsStill : Shelf → Answer → Type 0
IsStill library answer = answer ≢ LibraryFailed → library.faults_after ≡ library.faults_before

-- The sink failed, and got a prefix of the lines of this answer.
pub record IsCutShort (printed : Printed) (answer : Answer) : Type 0 where
  pub rose : Rose printed.faults_before printed.faults_after
  pub prefix : AppendsPrefix printed.before printed.after (lines_of answer)

-- What the sink got: the lines of the answer, and its count stays; or where it failed a prefix of them.
abbrev pub IsPrinted : Printed → Status → Answer → Type 0
IsPrinted printed result answer =
    ((result ≡ status_of answer) × HasPrinted printed (lines_of answer) × (printed.faults_after ≡ printed.faults_before))
    ⊎ ((result ≡ status.Edge) × IsCutShort printed answer)

-- this answer, or a fault of an edge, or want of memory
abbrev pub IsOrEdgeOrMemory : Status → Status → Type 0
IsOrEdgeOrMemory result expected = (result ≡ expected) ⊎ (result ≡ status.Edge) ⊎ (result ≡ status.Memory)

-- this answer, or a fault of the disk, or of an edge, or want of memory
abbrev pub IsOrFault : Status → Status → Type 0
IsOrFault result expected = (result ≡ status.Disk) ⊎ IsOrEdgeOrMemory result expected
