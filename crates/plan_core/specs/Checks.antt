-- The checks of a document in their order, up to its plan: the first that fails answers.
use Rattle.std.specs.Prelude.{◌≡◌, IsTrue, IsSome, ◌⊎◌, ℕ, List, [], ◌∷◌, Some, None, Result, Ok, Err, MatchResult, ⊤}
use Rattle.std.specs.Str.{bytes_eq}
use Rattle.std.specs.Map.{lookup}
use Rattle.nuc_base.specs.Faults.{Rose}
use Rattle.nuc_base.specs.Tables.{AllHold, IsFirst}
use Rattle.nuc_base.specs.declared.kinds.Outcome.{Outcome}
use Rattle.recipe_reader.specs.declared.candidate.Candidate.{Candidate}
use Rattle.library_core.specs.Library.{Content}
use Rattle.library_core.specs.Gathered.{IsGatheredOf, KeepBytes}
use Rattle.library_core.specs.Faults.{AreCounted, Gathered}
use Rattle.library_core.specs.declared.fault.CandidatesFault.{CandidatesFault}
use Rattle.library_core.specs.declared.fault.CandidatesFault.TheVariants as gather
use Rattle.records.specs.Stored.{Draft, draft_view}
use Rattle.records.specs.declared.record.Draft as code
use Rattle.records.specs.declared.record.Origin.{Origin}
use Rattle.device.specs.Devices.{Device}
use Rattle.device.specs.Grouped.{revision_of}
use Rattle.deployment_doc.specs.Reads.{ReadsDocument, IsFault}
use Rattle.deployment_doc.specs.declared.document.Document.{Document}
use Rattle.deployment_doc.specs.declared.fault.DocFault.{DocFault}
use Rattle.deployment_doc.specs.declared.fault.DocFault.TheVariants as doc
use Rattle.plan_core.specs.Plans.{room_lines, IsPlanned, IsRefused}
use Rattle.plan_core.specs.Ready.{IsOpen, IsFresh}
use Rattle.plan_core.specs.declared.fault.PlanFault.{PlanFault}
use Rattle.plan_core.specs.declared.fault.PlanFault.TheVariants as plan
use Rattle.plan_core.specs.declared.fault.Refusal.{Refusal}
use Rattle.plan_core.specs.declared.fault.Refusal.TheVariants.{Document as BadDocument, Repeated, Stale, Candidates, Plan, NoMemory}

-- ---- what is looked at

-- what a call finds, and what it makes of that on its way
pub record Facts : Type 0 where
  pub device : Device
  pub origin : Origin
  pub document : Document
  -- what the library tells of what it holds when the call ends
  pub content : Content
  pub candidates : List Candidate
  pub draft : Draft
  -- how often the library had failed when the call began, and when it ended
  pub before : ℕ
  pub after : ℕ

-- ---- the checks

pub data Check : Type 0 where
  -- the bytes are a document
  Reading : List ℕ → Check
  -- no deployment of its id is closed
  Opening : Check
  -- it is no older than what its group has
  Ageing : Check
  -- the candidates are gathered
  Gathering : Check
  -- one more deployment may close, of its group
  Room : Check
  -- there is a plan
  Planning : Check

-- the candidates that a device has with a library
pub record AreCandidatesOf (f : Facts) : Type 0 where
  pub gathered : IsGatheredOf f.origin f.device.set f.candidates
  pub kept : KeepBytes f.device.set f.candidates
  pub told : (rs : List (List ℕ)) → f.content.recipes ≡ Some rs → Gathered rs f.origin f.device.set (Ok f.candidates)
  pub tells : IsTrue f.content.tells → IsSome f.content.recipes

abbrev pub HasCheckPassed : Facts → Check → Type 0
HasCheckPassed f (Reading bytes) = ReadsDocument bytes (Ok f.document)
HasCheckPassed f Opening = IsOpen f.device f.document
HasCheckPassed f Ageing = IsFresh f.device f.document
HasCheckPassed f Gathering = AreCandidatesOf f
HasCheckPassed f Room = AllHold (room_lines f.device f.document)
HasCheckPassed f Planning = IsPlanned f.origin f.device f.candidates f.document f.draft

-- ---- what a check answers that fails

abbrev pub document_refusal : DocFault → Refusal
document_refusal doc.NoMemory = NoMemory
document_refusal fault = BadDocument fault

abbrev pub gather_refusal : CandidatesFault → Refusal
gather_refusal gather.NoMemory = NoMemory
gather_refusal fault = Candidates fault

abbrev pub plan_refusal : PlanFault → Refusal
plan_refusal plan.NoMemory = NoMemory
plan_refusal fault = Plan fault

-- the library fails only where its count rose, and refuses by the recipes that it tells
pub record IsGatherFault (f : Facts) (fault : CandidatesFault) : Type 0 where
  pub cause : fault ≡ gather.Library → Rose f.before f.after
  pub told : (rs : List (List ℕ)) → f.content.recipes ≡ Some rs → Gathered rs f.origin f.device.set (Err fault)
  pub tells : IsTrue f.content.tells → AreCounted (Err fault) → IsSome f.content.recipes

abbrev pub HasCheckFailed : Facts → Check → Refusal → Type 0
HasCheckFailed f (Reading bytes) a = (fault : DocFault) × IsFault bytes fault × (a ≡ document_refusal fault)
HasCheckFailed f Opening a = (o : Outcome) × (lookup (bytes_eq f.document.id) f.device.closed ≡ Some o) × (a ≡ Repeated f.document.id o)
HasCheckFailed f Ageing a = (IsFresh f.device f.document → ⊥) × (a ≡ Stale f.document.id (revision_of f.document.group f.device.groups))
HasCheckFailed f Gathering a = (fault : CandidatesFault) × IsGatherFault f fault × (a ≡ gather_refusal fault)
HasCheckFailed f Room a = (fault : PlanFault) × IsFirst (room_lines f.device f.document) fault × (a ≡ plan_refusal fault)
HasCheckFailed f Planning a = (fault : PlanFault) × IsRefused f.device f.candidates f.document fault × (a ≡ plan_refusal fault)

-- the first check that fails answers. Want of memory is free.
abbrev pub RefusalOf : Facts → List Check → Refusal → Type 0
RefusalOf f [] a = ⊥
RefusalOf f (k ∷ checks) a = (a ≡ NoMemory) ⊎ HasCheckFailed f k a ⊎ (HasCheckPassed f k × RefusalOf f checks a)

-- none fails
abbrev pub PassesAll : Facts → List Check → Type 0
PassesAll f [] = ⊤
PassesAll f (k ∷ checks) = HasCheckPassed f k × PassesAll f checks

-- ---- the order

-- of a document that was read
abbrev pub plan_checks : List Check
plan_checks = Opening ∷ Ageing ∷ Gathering ∷ Room ∷ Planning ∷ []

-- of the bytes of one
abbrev pub read_checks : List ℕ → List Check
read_checks bytes = Reading bytes ∷ plan_checks

-- every check passes and this is the draft, or the first that fails answers
abbrev pub DraftOfChecks : Facts → List Check → Result code.Draft Refusal → Type 0
DraftOfChecks f checks (Ok draft) = (f.draft ≡ draft_view draft) × PassesAll f checks
DraftOfChecks f checks (Err a) = RefusalOf f checks a

-- ---- the calls

-- no deployment of this id is closed, or it is, with this outcome
abbrev pub OpensId : Device → List ℕ → Result (Unit {0}) Refusal → Type 0
OpensId d id result = MatchResult result
    (λ _. lookup (bytes_eq id) d.closed ≡ None)
    (λ a. (a ≡ NoMemory) ⊎ ((o : Outcome) × (lookup (bytes_eq id) d.closed ≡ Some o) × (a ≡ Repeated id o)))

-- the two checks that look at the device alone pass, or the first that fails answers
abbrev pub DeviceChecks : Device → Document → Result (Unit {0}) Refusal → Type 0
DeviceChecks d document result = MatchResult result
    (λ _. IsOpen d document × IsFresh d document)
    (λ a. (a ≡ NoMemory)
    ⊎ ((o : Outcome) × (lookup (bytes_eq document.id) d.closed ≡ Some o) × (a ≡ Repeated document.id o))
    ⊎ (IsOpen d document × (IsFresh d document → ⊥) × (a ≡ Stale document.id (revision_of document.group d.groups))))

abbrev pub facts : Device → Origin → Content → ℕ → ℕ → Document → List Candidate → Draft → Facts
facts d origin content before after document cs draft =
    record { device = d; origin = origin; document = document; content = content; candidates = cs; draft = draft; before = before; after = after }

-- what comes of a document, by some candidates and a draft
abbrev pub DraftOfDocument : Device → Origin → Content → ℕ → ℕ → Document → Result code.Draft Refusal → Type 0
DraftOfDocument d origin content before after document result =
    (cs : List Candidate) × (draft : Draft) × DraftOfChecks (facts d origin content before after document cs draft) plan_checks result

-- what comes of the bytes of a document, by what they read as besides
abbrev pub ProposesRead : Device → Origin → Content → ℕ → ℕ → List ℕ → Result code.Draft Refusal → Type 0
ProposesRead d origin content before after bytes result =
    (document : Document) × (cs : List Candidate) × (draft : Draft)
    × DraftOfChecks (facts d origin content before after document cs draft) (read_checks bytes) result
