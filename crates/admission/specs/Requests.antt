-- What asks for a deployment: the bytes of a document, a request of the group of the device itself, or a change of one
-- component's configuration. Each comes to a document on a device, or to the first reason why it does not; and the document is
-- then taken in as every one is.
use Rattle.std.specs.Prelude.{◌≡◌, ◌⊎◌, ℕ, List, Some, None, Result, Ok, Err}
use Rattle.std.specs.Map.{lookup}
use Rattle.std.specs.Str.{bytes_eq}
use Rattle.nuc_base.specs.Tables.{IsFirst}
use Rattle.nuc_base.specs.declared.kinds.Outcome.{Outcome}
use Rattle.library_core.specs.Library.{Content}
use Rattle.records.specs.declared.record.Plan as code
use Rattle.records.specs.declared.record.Origin.{Origin}
use Rattle.device.specs.Devices.{Device}
use Rattle.deployment_doc.specs.Reads.{IsFault, ReadsDocument}
use Rattle.deployment_doc.specs.Sound.{AreSound}
use Rattle.deployment_doc.specs.declared.document.Document.{Document}
use Rattle.deployment_doc.specs.declared.fault.DocFault.{DocFault}
use Rattle.plan_core.specs.Checks.{document_refusal}
use Rattle.plan_core.specs.declared.fault.Refusal.TheVariants as refusal
use Rattle.local_deploy.specs.Documents.{IsLocalDocument, IsLocalRefusal}
use Rattle.local_deploy.specs.Reads as request
use Rattle.local_deploy.specs.declared.fault.LocalFault.{LocalFault}
use Rattle.local_deploy.specs.declared.fault.LocalFault.TheVariants as local
use Rattle.local_deploy.specs.declared.refusal.LocalRefusal.{LocalRefusal}
use Rattle.local_deploy.specs.declared.refusal.LocalRefusal.TheVariants as made
use Rattle.local_deploy.specs.declared.request.LocalRequest.{LocalRequest}
use Rattle.config_cmd.specs.Changes.{IsChangeFault, ReadsChange}
use Rattle.config_cmd.specs.Documents.{IsChangeDocument, set_lines}
use Rattle.config_cmd.specs.declared.change.Change.{Change}
use Rattle.config_cmd.specs.declared.fault.SetFault.{SetFault}
use Rattle.config_cmd.specs.declared.fault.SetFault.TheVariants as set
use Rattle.admission.specs.Takes.{HasDiskFailed, HasLibraryFailed, TakesIn}
use Rattle.admission.specs.declared.fault.Declined.{Declined}
use Rattle.admission.specs.declared.fault.Declined.TheVariants.{Refused, Unasked}
use Rattle.admission.specs.declared.unasked.Unasked.TheVariants.{Local, NotLocal, TooManyLocal, Unlisted, NoComponent, NotListed}
use Rattle.admission.specs.declared.ask.Ask.{Ask}
use Rattle.admission.specs.declared.ask.Ask.TheVariants as ask

-- ---- reasons

-- a fault of the bytes of a request, or want of memory
abbrev pub local_declined : LocalFault → Declined
local_declined local.NoMemory = Refused refusal.NoMemory
local_declined fault = Unasked (Local fault)

-- a refusal of one that was read
abbrev pub unmade : LocalRefusal → Declined
unmade (made.NotLocal name) = Unasked (NotLocal name)
unmade (made.TooManyLocal count) = Unasked (TooManyLocal count)
unmade (made.Unlisted name) = Unasked (Unlisted name)
unmade made.NoMemory = Refused refusal.NoMemory

-- a refusal of a change of the component of this name
abbrev pub unset : List ℕ → SetFault → Declined
unset name set.NoComponent = Unasked (NoComponent name)
unset name set.NotListed = Unasked (NotListed name)
unset name set.NoMemory = Refused refusal.NoMemory

-- ---- the id of a deployment

-- none of this id is closed on the device
abbrev pub IsFree : Device → List ℕ → Type 0
IsFree d id = lookup (bytes_eq id) d.closed ≡ None

-- one is, with some outcome, and that is told again
abbrev pub IsRepeated : Device → List ℕ → Declined → Type 0
IsRepeated d id x = (o : Outcome) × (lookup (bytes_eq id) d.closed ≡ Some o) × (x ≡ Refused (refusal.Repeated id o))

-- ---- a document

abbrev pub ReadsAs : List ℕ → Device → Result Document Declined → Type 0
ReadsAs bytes d (Ok document) = ReadsDocument bytes (Ok document)
ReadsAs bytes d (Err x) = (fault : DocFault) × IsFault bytes fault × (x ≡ Refused (document_refusal fault))

-- ---- a request of the group of the device itself

-- it is read, and no deployment of its id is closed
pub record IsLocalOn (bytes : List ℕ) (d : Device) (r : LocalRequest) : Type 0 where
  pub read : request.ReadsRequest bytes (Ok r)
  pub free : IsFree d r.id

-- The first that fails: a line of the request; its id is closed; a refusal in the order in which these are checked.
abbrev pub AsksLocal : List ℕ → Device → Result Document Declined → Type 0
AsksLocal bytes d (Ok document) = (r : LocalRequest) × IsLocalOn bytes d r × IsLocalDocument d r document
AsksLocal bytes d (Err x) =
    ((fault : LocalFault) × request.IsFault bytes fault × (x ≡ local_declined fault))
    ⊎ ((r : LocalRequest) × request.ReadsRequest bytes (Ok r) × IsRepeated d r.id x)
    ⊎ ((r : LocalRequest) × IsLocalOn bytes d r × ((f : LocalRefusal) × IsLocalRefusal d r f × (x ≡ unmade f)))

-- ---- a change of one component's configuration

pub record IsChangeOn (name bytes : List ℕ) (d : Device) (c : Change) : Type 0 where
  pub read : ReadsChange name bytes (Ok c)
  pub free : IsFree d c.id

-- The first that fails: a line of the change, as one of a document; its id is closed; the component is not there, or no group
-- requires it.
abbrev pub AsksChange : List ℕ → List ℕ → Device → Result Document Declined → Type 0
AsksChange name bytes d (Ok document) = (c : Change) × IsChangeOn name bytes d c × IsChangeDocument d name c document
AsksChange name bytes d (Err x) =
    ((fault : DocFault) × IsChangeFault name bytes fault × (x ≡ Refused (document_refusal fault)))
    ⊎ ((c : Change) × ReadsChange name bytes (Ok c) × IsRepeated d c.id x)
    ⊎ ((c : Change) × IsChangeOn name bytes d c × ((f : SetFault) × IsFirst (set_lines d name) f × (x ≡ unset name f)))

-- ---- any of them

-- what the bytes come to on the device
abbrev pub AskOutcome : Ask → List ℕ → Device → Result Document Declined → Type 0
AskOutcome ask.Document bytes = ReadsAs bytes
AskOutcome ask.Local bytes = AsksLocal bytes
AskOutcome (ask.Change name) bytes = AsksChange name bytes

-- Want of memory is free.
abbrev pub AnswerOfAsk : Ask → List ℕ → Device → Result Document Declined → Type 0
AnswerOfAsk what bytes d result = (result ≡ Err (Refused refusal.NoMemory)) ⊎ AskOutcome what bytes d result

-- it came to none without a fault from outside
abbrev pub IsInside : Declined → Type 0
IsInside x = (HasDiskFailed (Err x) → ⊥) × (HasLibraryFailed (Err x) → ⊥)

-- ---- what taking it in answers

-- there is none, for this reason, or the document is taken in so
abbrev pub TakesMade : Device → Origin → Content → ℕ → ℕ → Result Document Declined → Result code.Plan Declined → Type 0
TakesMade d o content before after (Err x) taken = taken ≡ Err x
TakesMade d o content before after (Ok document) taken = AreSound document.roots × TakesIn d o content before after document taken

-- The bytes come to no document, or there is no memory; or the document to which they come is taken in so.
abbrev pub TakesBy : (Device → Result Document Declined → Type 0) → Device → Origin → Content → ℕ → ℕ → Result code.Plan Declined → Type 0
TakesBy request d o content before after taken =
    (taken ≡ Err (Refused refusal.NoMemory))
    ⊎ ((x : Declined) × request d (Err x) × (taken ≡ Err x))
    ⊎ ((document : Document) × request d (Ok document) × AreSound document.roots × TakesIn d o content before after document taken)
