-- With which status and which line a call ends that does not take its document.
use Rattle.std.specs.Prelude.{ℕ, List, [], ◌++◌, length, take, drop, codes, decimal, if◌then◌else◌}
use Rattle.std.specs.Str.{bytes_eq}
use Rattle.hex.specs.Hex.{encode_lower}
use Rattle.nuc_base.specs.declared.status.Status.{Status}
use Rattle.nuc_base.specs.declared.status.Status.TheVariants as statuses
use Rattle.disk_model.specs.Listing.{artifacts}
use Rattle.artifact_store.specs.declared.fault.StageFault.TheVariants as stage
use Rattle.admission.specs.declared.fault.Declined.{Declined}
use Rattle.admission.specs.declared.fault.Declined.TheVariants.{Refused, Unstaged, Unasked}
use Rattle.refusal_lines.specs.Lines.{refusal_line}
use Rattle.refusal_lines.specs.Statuses.{status_of_refusal}
use Rattle.session.specs.Unasked.{line_of_unasked, status_of_unasked}

abbrev pub status_of_declined : Declined → Status
status_of_declined (Refused r) = status_of_refusal r
status_of_declined (Unstaged stage.Disk) = statuses.Disk
status_of_declined (Unstaged stage.Library) = statuses.Library
status_of_declined (Unstaged (stage.Missing file)) = statuses.Artifact
status_of_declined (Unstaged (stage.TooLarge file bytes)) = statuses.Limit
status_of_declined (Unstaged (stage.Mismatch file digest)) = statuses.Artifact
status_of_declined (Unstaged stage.NoMemory) = statuses.Memory
status_of_declined (Unasked u) = status_of_unasked u

-- ---- lines

-- a file is shown without the folder of the artifacts: `NAME/VERSION/FILE`
abbrev pub file_text : List ℕ → List ℕ
file_text file = if bytes_eq (take (length artifacts) file) artifacts then drop (length artifacts) file else file

-- the disk failed
abbrev pub disk_line : List ℕ
disk_line = codes "fault 5 disk\n"

-- the library failed
abbrev pub library_line : List ℕ
library_line = codes "refused 7 library\n"

-- the library lacks the file
abbrev pub missing_line : List ℕ → List ℕ
missing_line file = codes "refused 13 Missing " ++ file_text file ++ codes "\n"

-- the library's file has more than so many bytes
abbrev pub large_line : List ℕ → ℕ → List ℕ
large_line file bytes = codes "refused 14 ArtifactTooLarge " ++ (file_text file ++ (codes " " ++ (decimal bytes ++ codes "\n")))

-- the library's file has this digest, and its recipe gives another
abbrev pub mismatch_line : List ℕ → List ℕ → List ℕ
mismatch_line file digest = codes "refused 13 Mismatch " ++ (file_text file ++ (codes " " ++ (encode_lower digest ++ codes "\n")))

-- want of memory prints nothing
abbrev pub line_of_declined : Declined → List ℕ
line_of_declined (Refused r) = refusal_line r
line_of_declined (Unstaged stage.Disk) = disk_line
line_of_declined (Unstaged stage.Library) = library_line
line_of_declined (Unstaged (stage.Missing file)) = missing_line file
line_of_declined (Unstaged (stage.TooLarge file bytes)) = large_line file bytes
line_of_declined (Unstaged (stage.Mismatch file digest)) = mismatch_line file digest
line_of_declined (Unstaged stage.NoMemory) = []
line_of_declined (Unasked u) = line_of_unasked u
