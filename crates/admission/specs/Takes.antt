-- What taking in a document answers: the checks of its plan in their order, and then those of its files.
use Rattle.std.specs.Prelude.{◌≡◌, ◌⊎◌, ℕ, List, Some, Result, Ok, Err, ⊤}
use Rattle.nuc_base.specs.Tables.{AllHold, IsFirst}
use Rattle.recipe_reader.specs.declared.candidate.Candidate.{Candidate}
use Rattle.library_core.specs.Library.{Artifacts, Content}
use Rattle.library_core.specs.declared.fault.CandidatesFault.TheVariants as gather
use Rattle.records.specs.Stored.{Item, Draft, Plan, plan_view}
use Rattle.records.specs.declared.record.Plan as code
use Rattle.records.specs.declared.record.Origin.{Origin}
use Rattle.disk_model.specs.Listing.{artifacts, IsBelow}
use Rattle.device.specs.Devices.{Device}
use Rattle.deployment_doc.specs.declared.document.Document.{Document}
use Rattle.plan_core.specs.Checks.{Facts, PassesAll, RefusalOf, facts, plan_checks}
use Rattle.plan_core.specs.declared.fault.Refusal.TheVariants as refusal
use Rattle.device.specs.Filled.{PlanFilled}
use Rattle.artifact_store.specs.Filled.{Filled}
use Rattle.artifact_store.specs.Staged.{IsOutside, draft_lines}
use Rattle.artifact_store.specs.declared.fault.StageFault.{StageFault}
use Rattle.artifact_store.specs.declared.fault.StageFault.TheVariants as stage
use Rattle.admission.specs.declared.fault.Declined.{Declined}
use Rattle.admission.specs.declared.fault.Declined.TheVariants.{Refused, Unstaged, Unasked}

-- ---- the files of a draft

-- the plan is the draft with a digest for each file, and where the library tells its artifacts, with their digests
pub record IsFilled (content : Content) (set : List Item) (draft : Draft) (plan : Plan) : Type 0 where
  pub fills : PlanFilled draft plan
  pub told : (l : Artifacts) → content.artifacts ≡ Some l → AllHold (draft_lines l set draft) × Filled l draft plan

-- a fault from outside, or where the library tells its artifacts the first that they give cause for
abbrev pub IsUnfilled : Content → List Item → Draft → StageFault → Type 0
IsUnfilled content set draft f = (l : Artifacts) → content.artifacts ≡ Some l → IsOutside f ⊎ IsFirst (draft_lines l set draft) f

-- ---- the answer

-- every check passes and the plan is the filled draft, or the first check that fails answers, or the first fault of the files
abbrev pub AdmissionOutcome : Facts → Result code.Plan Declined → Type 0
AdmissionOutcome f (Ok plan) = PassesAll f plan_checks × IsFilled f.content f.device.set f.draft (plan_view plan)
AdmissionOutcome f (Err (Refused a)) = RefusalOf f plan_checks a
AdmissionOutcome f (Err (Unstaged a)) = PassesAll f plan_checks × IsUnfilled f.content f.device.set f.draft a
AdmissionOutcome f (Err (Unasked u)) = ⊥

-- by some candidates and a draft
abbrev pub TakesIn : Device → Origin → Content → ℕ → ℕ → Document → Result code.Plan Declined → Type 0
TakesIn d o content before after document result = (cs : List Candidate) × (draft : Draft)
    × AdmissionOutcome (facts d o content before after document cs draft) result

-- a check fails, or there is no document
abbrev pub IsRefused : Result code.Plan Declined → Type 0
IsRefused (Ok plan) = ⊥
IsRefused (Err (Refused a)) = ⊤
IsRefused (Err (Unstaged f)) = ⊥
IsRefused (Err (Unasked u)) = ⊤

-- ---- what failed outside

abbrev pub HasDiskFailed : Result code.Plan Declined → Type 0
HasDiskFailed (Ok plan) = ⊥
HasDiskFailed (Err (Refused a)) = ⊥
HasDiskFailed (Err (Unstaged f)) = f ≡ stage.Disk
HasDiskFailed (Err (Unasked u)) = ⊥

abbrev pub HasLibraryFailed : Result code.Plan Declined → Type 0
HasLibraryFailed (Ok plan) = ⊥
HasLibraryFailed (Err (Refused a)) = a ≡ refusal.Candidates gather.Library
HasLibraryFailed (Err (Unstaged f)) = f ≡ stage.Library
HasLibraryFailed (Err (Unasked u)) = ⊥

-- ---- where the journal lies

-- none of these files lies in the folder of the artifacts
abbrev pub LieElsewhere : (List ℕ → Type 0) → Type 0
LieElsewhere files = (name : List ℕ) → files name → IsBelow artifacts name → ⊥
