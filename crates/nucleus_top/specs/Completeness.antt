-- A deployment that nothing prevents is begun, and one in which nothing fails ends well or gets on.
use Rattle.std.specs.Prelude.{◌≡◌, ◌⊎◌, ℕ, ◌≤◌, Bool, IsTrue, List, [], ◌∷◌, length, Option, Some, None, Result, Ok, Err, ⊤}
use Rattle.std.specs.Option.{IsSome}
use Rattle.disk_model.specs.Disk.{Image}
use Rattle.nuc_base.specs.Faults.{Rose}
use Rattle.nuc_base.specs.Tables.{AllHold}
use Rattle.nuc_base.specs.declared.kinds.Outcome.TheVariants as outcomes
use Rattle.nuc_base.specs.declared.status.Status.{Status}
use Rattle.nuc_base.specs.declared.status.Status.TheVariants as status
use Rattle.recipe_reader.specs.Members.{members}
use Rattle.recipe_reader.specs.Sets.{IsValid}
use Rattle.recipe_reader.specs.declared.candidate.Candidate.{Candidate}
use Rattle.library_core.specs.Library.{Artifacts}
use Rattle.library_core.specs.Faults.{Gathered}
use Rattle.library_core.specs.declared.fault.CandidatesFault.{CandidatesFault}
use Rattle.library_core.specs.declared.fault.CandidatesFault.TheVariants as gather
use Rattle.records.specs.Stored.{Accepted, Draft, Plan, Record, plan_view}
use Rattle.records.specs.declared.record.Plan as code
use Rattle.records.specs.declared.record.Origin.{Origin}
use Rattle.deployment_doc.specs.declared.document.Document.{Document}
use Rattle.device.specs.Filled.{PlanFilled}
use Rattle.artifact_store.specs.Staged.{draft_lines}
use Rattle.plan_core.specs.Plans.{IsChoice, IsPlanned, room_lines, size_lines}
use Rattle.plan_core.specs.Ready.{IsFresh, IsOpen}
use Rattle.plan_core.specs.Requests.{wanted_of}
use Rattle.plan_core.specs.Set.{items_of}
use Rattle.device.specs.Devices.{Device, Pending}
use Rattle.step_runner.specs.declared.entries.RunnerEntry.{RunnerEntry}
use Rattle.histories.specs.TraceEvents.{records_of}
use Rattle.law_histories.specs.Ends.{NoneFails}
use Rattle.law_histories.specs.Onward.{ClosedAs, ComesUp, IsNoLess, IsOneOn}
use Rattle.admission.specs.Requests.{AskOutcome}
use Rattle.admission.specs.declared.ask.Ask.{Ask}
use Rattle.admission.specs.declared.fault.Declined.{Declined}
use Rattle.session.specs.Documents.{FitsFrom}
use Rattle.nucleus_top.specs.Answers.{HasRisen, Input, Printed, Shelf, Store, store_of}
use Rattle.nucleus_top.specs.Drives.{DriveParts, IsDeployed, IsDeployedOn, IsRefusedBefore, IsResumed, IsResumedOn, MayNotOpen}
use Rattle.nucleus_top.specs.Drives.{StartsFrom, MayNotDeploy, shelf_for}
use Rattle.nucleus_top.specs.Opening.{IsImageOf}

-- ---- nothing outside fails

-- no count of faults rose in the call
pub record NoFaults (store : Store) (input : Input) (library : Shelf) (printed : Printed) : Type 0 where
  pub quiet_disk : HasRisen store → ⊥
  pub quiet_source : Rose input.faults_before input.faults_after → ⊥
  pub quiet_library : Rose library.faults_before library.faults_after → ⊥
  pub quiet_sink : Rose printed.faults_before printed.faults_after → ⊥

-- ---- nothing prevents the deployment

-- Over these candidates a set is valid, every limit of its items holds, the library has each file that is needed, with its digest,
-- and the journal has room for the plan.
pub record HasPlan (d : Device) (o : Origin) (l : Artifacts) (start : ℕ → ℕ) (document : Document) (cs : List Candidate) : Type 0 where
  pub set : List ℕ
  pub valid : IsValid (members cs) (wanted_of d.groups document) set
  pub sizes : (choice : List Candidate) → IsChoice d cs document choice → AllHold (size_lines (items_of d.set document.roots choice))
  pub files : (draft : Draft) → IsPlanned o d cs document draft → AllHold (draft_lines l d.set draft)
  pub room : (draft : Draft) (plan : Plan) → IsPlanned o d cs document draft → PlanFilled draft plan → FitsFrom start plan

-- No deployment of the document's id is closed, it is no older than what its group has, one more deployment may close, candidates are
-- gathered, and so it is over these.
pub record MayDeploy (d : Device) (o : Origin) (recipes : List (List ℕ)) (l : Artifacts) (start : ℕ → ℕ) (document : Document) : Type 0 where
  pub is_open : IsOpen d document
  pub fresh : IsFresh d document
  pub gathered : (fault : CandidatesFault) → Gathered recipes o d.set (Err fault) → (fault ≡ gather.Library) ⊎ (fault ≡ gather.NoMemory)
  pub room : AllHold (room_lines d document)
  pub planned : (cs : List Candidate) → Gathered recipes o d.set (Ok cs) → HasPlan d o l start document cs

-- the request is not refused, and so it is with the document to which it comes
pub record MayAsk (d : Device) (o : Origin) (recipes : List (List ℕ)) (l : Artifacts) (start : ℕ → ℕ)
    (request : Device → Result Document Declined → Type 0) : Type 0 where
  pub comes : (x : Declined) → request d (Err x) → ⊥
  pub document : (document : Document) → request d (Ok document) → MayDeploy d o recipes l start document

-- ---- how the call ends

-- 0, or a restart or a reboot is asked for
abbrev pub EndsWell : Status → Type 0
EndsWell result = (result ≡ status.Done) ⊎ (result ≡ status.Restart) ⊎ (result ≡ status.Reboot)

-- the deployment closed, however that is, or so
abbrev pub EndsDriven : Status → Type 0
EndsDriven result = (result ≡ status.RolledBack) ⊎ (result ≡ status.NotRequested) ⊎ (result ≡ status.Unable) ⊎ EndsWell result

module _ {D : Type 0} (may_leave : D → Image → Type 0) (moment : D → ℕ) (left_since : D → ℕ → Image → Type 0) (faults : D → ℕ) (old new : D)
    (old_list new_list : Option (List RunnerEntry)) (printed : Printed) (result : Status) (d : Device) where
  -- A deployment goes on whose first record accepts the plan of the document, and the call ends with its close, or for a restart. Where no end, no
  -- refused start and no passed limit was a failure it closed as it was to.
  pub record IsComplete (library : Shelf) (request : Device → Result Document Declined → Type 0) : Type 0 where
    pub start : ℕ → ℕ
    pub deployed : IsDeployedOn may_leave moment left_since faults old new old_list new_list printed result d start library request
    pub plan : code.Plan
    pub taken : deployed.taken ≡ Ok plan
    pub rest : List Record
    pub accepted : records_of deployed.call.0.history ≡ Accepted (plan_view plan) ∷ rest
    pub ends : EndsDriven result
    pub quiet : NoneFails deployed.state deployed.call.0.history → EndsWell result

-- each of these images stands for the device
abbrev pub AreImagesOf : (Image → Type 0) → Device → Type 0
AreImagesOf images d = (c : Image) → images c → IsImageOf c d

-- The call ended with 0: the deployment closed as it was to.
pub record HasClosed (images : Image → Type 0) (d : Device) (q : Pending) (result : Status) : Type 0 where
  pub done : result ≡ status.Done
  pub left : Device
  pub stands : AreImagesOf images left
  pub none : left.pending ≡ None
  pub closed : ClosedAs d q.plan outcomes.Successful left

-- It ended for a restart: the deployment is pending and comes up, with one more of its bootstraps ended, of as many as there are.
pub record HasOneMore (images : Image → Type 0) (q : Pending) (result : Status) : Type 0 where
  pub asks : (result ≡ status.Restart) ⊎ (result ≡ status.Reboot)
  pub left : Device
  pub stands : AreImagesOf images left
  pub next : Pending
  pub pending : left.pending ≡ Some next
  pub up : ComesUp next
  pub same : IsNoLess q next
  pub one : IsOneOn q next

abbrev pub HasGotOn : (Image → Type 0) → Device → Pending → Status → Type 0
HasGotOn images d q result = HasClosed images d q result ⊎ HasOneMore images q result

-- ---- laws

module _ {D : Type 0} (is_modelled : Bool) (seen : D → Image) (may_leave : D → Image → Type 0) (moment : D → ℕ) (left_since : D → ℕ → Image → Type 0)
    (faults : D → ℕ) where
  -- A call to deploy, on a store that stands for a device with nothing pending, with a request that nothing prevents: where no count rises the
  -- plan is accepted, and the call ends with the deployment's close, or for a restart. Want of memory is free.
  abbrev pub DeploysComplete : Type 0
  DeploysComplete = (old new : D) (old_list new_list : Option (List RunnerEntry)) (input : Input) (library : Shelf) (printed : Printed) (result : Status)
      (what : Ask) (d : Device) (o : Origin) (bytes : List ℕ) (recipes : List (List ℕ)) (l : Artifacts)
      → IsRefusedBefore seen may_leave moment left_since (λ a. MayNotDeploy (store_of is_modelled seen faults old new) input a) old new printed result
      ⊎ IsDeployed may_leave moment left_since faults old new old_list new_list printed result what (store_of is_modelled seen faults old new) input library
      → DriveParts (store_of is_modelled seen faults old new) input library printed result
      → NoFaults (store_of is_modelled seen faults old new) input library printed
      → IsTrue is_modelled → IsImageOf (seen old) d → d.origin ≡ Some o → d.pending ≡ None
      → input.document ≡ Some bytes → (shelf_for what library).content.recipes ≡ Some recipes → (shelf_for what library).content.artifacts ≡ Some l
      → ((start : ℕ → ℕ) → StartsFrom (seen old) d start → MayAsk d o recipes l start (AskOutcome what bytes))
      → (result ≡ status.Memory)
      ⊎ IsComplete may_leave moment left_since faults old new old_list new_list printed result d (shelf_for what library) (AskOutcome what bytes)

  -- A call to resume, on a store that stands for a device whose deployment comes up, with no failed bootstrap and no component with three
  -- failures: where no count rises, and no end, no refused start and no passed limit is a failure, it ends with 0, or leaves one more of the
  -- plan's bootstraps ended. Want of memory is free.
  abbrev pub ResumesGetOn : Type 0
  ResumesGetOn = (old new : D) (old_list new_list : Option (List RunnerEntry)) (input : Input) (library : Shelf) (printed : Printed) (result : Status)
      (d : Device) (q : Pending)
      → IsRefusedBefore seen may_leave moment left_since (λ a. MayNotOpen (store_of is_modelled seen faults old new) a) old new printed result
      ⊎ IsResumed may_leave moment left_since faults old new old_list new_list printed result (store_of is_modelled seen faults old new)
      → DriveParts (store_of is_modelled seen faults old new) input library printed result
      → NoFaults (store_of is_modelled seen faults old new) input library printed
      → IsTrue is_modelled → IsImageOf (seen old) d → IsSome d.origin → d.pending ≡ Some q → ComesUp q
      → (result ≡ status.Memory)
      ⊎ ((h : IsResumedOn may_leave moment left_since faults old new old_list new_list printed result d)
      × (NoneFails h.state h.call.history → HasGotOn (may_leave new) d q result))

-- ---- how often

-- deployments as calls leave them, each of which got one bootstrap on
abbrev pub EachOneOn : Pending → List Pending → Type 0
EachOneOn q [] = ⊤
EachOneOn q (next ∷ more) = IsNoLess q next × IsOneOn q next × EachOneOn next more

-- so a plan needs no more restarts than it has bootstraps
abbrev pub RestartsAreFew : Type 0
RestartsAreFew = (q : Pending) (calls : List Pending) → EachOneOn q calls → length calls ≤ length q.plan.boots
