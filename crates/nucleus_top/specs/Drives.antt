-- The commands that drive a deployment, and what such a call promises.
use Rattle.std.specs.Prelude.{◌≡◌, ◌≢◌, ◌⊎◌, ℕ, ◌+◌, false, IsTrue, List, Option, Some, None, Result, ⊤}
use Rattle.std.specs.Ordering.{is_lt, nat_cmp}
use Rattle.disk_model.specs.Disk.{Image}
use Rattle.nuc_base.specs.Faults.{Rose}
use Rattle.nuc_base.specs.declared.status.Status.{Status}
use Rattle.nuc_base.specs.declared.status.Status.TheVariants as status
use Rattle.checkpoint_log.specs.Slots.{IsLive, slots_entries, slots_files, slots_none, slots_turn}
use Rattle.checkpoint_log.specs.declared.slots.Slots.{Slots}
use Rattle.command_words.specs.Words.{IsOrder}
use Rattle.command_words.specs.declared.order.Order.{Order}
use Rattle.command_words.specs.declared.order.Order.TheVariants.{ConfigSet, Deploy, Local, Resume, Serve}
use Rattle.command_words.specs.declared.order.Order.TheVariants as orders
use Rattle.records.specs.declared.record.Origin.{Origin}
use Rattle.records.specs.declared.record.Plan as code
use Rattle.artifact_store.specs.Swept.{IsSwept, items_of}
use Rattle.device.specs.Devices.{Device, Pending as PendingPlan}
use Rattle.device.specs.Sound.{IsSound}
use Rattle.deploy_state.specs.Turning.{can_turn, front_bytes, start_of, starts_at}
use Rattle.artifact_store.specs.declared.fault.SweepFault.{SweepFault}
use Rattle.artifact_store.specs.declared.fault.SweepFault.TheVariants as sweep
use Rattle.edges.specs.declared.source.ReadFault.{ReadFault}
use Rattle.edges.specs.declared.source.ReadFault.TheVariants as reading
use Rattle.step_runner.specs.declared.entries.RunnerEntry.{RunnerEntry}
use Rattle.histories.specs.TraceEvents.{TraceEvent, records_of}
use Rattle.histories.specs.States.{SessionState}
use Rattle.law_histories.specs.Stood.{IsHistory}
use Rattle.admission.specs.Requests.{AskOutcome, TakesBy}
use Rattle.admission.specs.Takes.{HasDiskFailed, HasLibraryFailed}
use Rattle.admission.specs.declared.ask.Ask.{Ask}
use Rattle.admission.specs.declared.ask.Ask.TheVariants as ask
use Rattle.admission.specs.declared.fault.Declined.{Declined}
use Rattle.deployment_doc.specs.declared.document.Document.{Document}
use Rattle.law_whole.specs.Taking.{StayWhole}
use Rattle.library_core.specs.Nothing.{no_content}
use Rattle.session.specs.Calls.{Call, AreOthersSame, IsPendingAs, ChangesArtifactsAlone}
use Rattle.session.specs.Documents.{AcceptsTaken, DrivesTaken}
use Rattle.session.specs.Endings.{ByDiskFault, ResumeEnding}
use Rattle.session.specs.Sweeping.{LeavesNoStray}
use Rattle.nucleus_top.specs.Answers.{IsOrFault, HasRisen, Input, Printed, HasPrinted, Shelf, Store, IsPrinted, damaged_line, none_line, pending_line}
use Rattle.nucleus_top.specs.Crashes.{KeepsJournal, KeepsJournalOrFiles, KeepsSameWhole, KeepsWhole, LeavesPrefixes, LeavesSame}
use Rattle.nucleus_top.specs.Inits.{IsRefusedAt}
use Rattle.nucleus_top.specs.Lasting.{AreLasting}
use Rattle.nucleus_top.specs.Meeting.{StayMet}
use Rattle.nucleus_top.specs.Opening.{IsImageOf, StandsForNone}
use Rattle.nucleus_top.specs.Planning.{IsFound, IsPending}
use Rattle.nucleus_top.specs.Refusing.{NoDeviceAnswer}
use Rattle.nucleus_top.specs.declared.answer.Answer.{Answer}
use Rattle.nucleus_top.specs.declared.answer.Answer.TheVariants.{Damaged, DiskFailed, NoMemory, NotInitialised, Pending, SourceFailed}

-- what an order deploys, where it deploys what the source has
abbrev pub ask_of : Order → Option Ask
ask_of Deploy = Some ask.Document
ask_of Local = Some ask.Local
ask_of (ConfigSet name) = Some (ask.Change name)
ask_of Resume = None
ask_of (Serve turns) = None
ask_of (orders.Init origin) = None
ask_of (orders.Status json) = None
ask_of orders.Plan = None
ask_of orders.Audit = None
ask_of (orders.ConfigGet name at) = None
ask_of orders.Why = None
ask_of (orders.Workload seed) = None
ask_of orders.Components = None
ask_of orders.About = None

-- the words ask to deploy such a thing, at some root
abbrev pub AsksTo : List (List ℕ) → Ask → Type 0
AsksTo words what = (root : List ℕ) × (order : Order) × IsOrder words root order × (ask_of order ≡ Some what)

-- they ask to deploy something
abbrev pub AsksToDeploy : List (List ℕ) → Type 0
AsksToDeploy words = (what : Ask) × AsksTo words what

-- they ask to serve, for so many turns at some root
abbrev pub AsksToServeTurns : List (List ℕ) → ℕ → Type 0
AsksToServeTurns words turns = (root : List ℕ) × IsOrder words root (Serve turns)

abbrev pub AsksToServe : List (List ℕ) → Type 0
AsksToServe words = (turns : ℕ) × AsksToServeTurns words turns

-- they ask to deploy something, or what an inbox has, and its recipes may be the library's
abbrev pub AsksWithLibrary : List (List ℕ) → Type 0
AsksWithLibrary words = (AsksTo words ask.Document ⊎ AsksTo words ask.Local) ⊎ AsksToServe words

-- they ask to deploy one thing, or to resume
abbrev pub AsksToDriveOne : List (List ℕ) → Type 0
AsksToDriveOne words = AsksToDeploy words ⊎ ((root : List ℕ) × IsOrder words root Resume)

-- they do so, or ask to serve
abbrev pub AsksToDrive : List (List ℕ) → Type 0
AsksToDrive words = AsksToDriveOne words ⊎ AsksToServe words

-- ---- why a call is refused

-- the journal stands for a device, where the disk tells it
abbrev pub IsThere : Store → Type 0
IsThere store = (d : Device) × IsFound store d

-- Why there is no device in hand: the journal gives none, or its stray files are not swept.
abbrev pub MayNotOpen : Store → Answer → Type 0
MayNotOpen store DiskFailed = NoDeviceAnswer store DiskFailed ⊎ (IsThere store × HasRisen store)
MayNotOpen store NotInitialised = NoDeviceAnswer store NotInitialised
MayNotOpen store (Damaged place) = NoDeviceAnswer store (Damaged place)
MayNotOpen store NoMemory = NoDeviceAnswer store NoMemory ⊎ IsThere store
MayNotOpen store _ = ⊥

-- Why there is none without a pending deployment: there is none, or the deployment of this id is pending, and stray files
-- are swept.
abbrev pub MayNotOpenIdle : Store → Answer → Type 0
MayNotOpenIdle store (Pending id) = (d : Device) × IsFound store d × IsPendingAs id d × (IsTrue store.is_modelled → IsSwept (items_of d) store.after)
MayNotOpenIdle store answer = MayNotOpen store answer

-- Why a call that deploys is refused: there is none, and where one is pending the source is left as it was; or the source failed.
abbrev pub MayNotDeploy : Store → Input → Answer → Type 0
MayNotDeploy store input (Pending id) = MayNotOpenIdle store (Pending id) × (input.rest ≡ input.document)
MayNotDeploy store input SourceFailed = ((d : Device) × IsFound store d × (d.pending ≡ None)) × Rose input.faults_before input.faults_after
MayNotDeploy store input answer = MayNotOpen store answer

-- the refusal that names the pending deployment of the device, or want of memory
abbrev pub NamesPendingOf : Device → Answer → Type 0
NamesPendingOf d (Pending id) = IsPendingAs id d
NamesPendingOf d NoMemory = ⊤
NamesPendingOf d _ = ⊥

-- stray files are not swept
abbrev pub IsUnswept : Answer → Type 0
IsUnswept DiskFailed = ⊤
IsUnswept NoMemory = ⊤
IsUnswept _ = ⊥

-- what is told where stray files are not swept
abbrev pub TellsSweep : SweepFault → Answer → Type 0
TellsSweep sweep.Disk DiskFailed = ⊤
TellsSweep sweep.NoMemory NoMemory = ⊤
TellsSweep _ _ = ⊥

-- and where the document is not read
abbrev pub TellsUnread : ReadFault → Answer → Type 0
TellsUnread reading.Edge SourceFailed = ⊤
TellsUnread reading.NoMemory NoMemory = ⊤
TellsUnread _ _ = ⊥

-- why a document is not read: the source failed, or there is no memory
abbrev pub MayNotRead : Input → Answer → Type 0
MayNotRead input SourceFailed = Rose input.faults_before input.faults_after
MayNotRead input NoMemory = ⊤
MayNotRead input _ = ⊥

-- That is printed, and the disk is as it was.
pub record IsUnread {D : Type 0} (old new : D) (input : Input) (printed : Printed) (result : Status) : Type 0 where
  pub answer : Answer
  pub why : MayNotRead input answer
  pub is_printed : IsPrinted printed result answer
  pub same : new ≡ old

module _ {D : Type 0} (seen : D → Image) (may_leave : D → Image → Type 0) (moment : D → ℕ) (left_since : D → ℕ → Image → Type 0) where
  -- A call is refused before anything of a deployment begins, for this reason: the answer is printed, and at most files of
  -- artifacts change. A crash leaves the device that there was. At the end the disk is as it was, or the journal says what it
  -- said, where the disk did not fail; and where it failed, the journal does so or every file reads as it did.
  pub record IsRefusedBefore (why_so : Answer → Type 0) (old new : D) (printed : Printed) (result : Status) : Type 0 where
    pub answer : Answer
    pub why : why_so answer
    pub is_printed : IsPrinted printed result answer
    pub spared : ChangesArtifactsAlone may_leave moment left_since old new
    pub images : LeavesSame may_leave moment left_since seen old new
    pub whole : KeepsSameWhole may_leave moment left_since seen old new
    pub ends : (new ≡ old) ⊎ (answer ≢ DiskFailed → KeepsJournal may_leave seen old new)
    pub reads : KeepsJournalOrFiles may_leave seen old new

-- ---- what all of them share

module _ {D : Type 0} (may_leave : D → Image → Type 0) (moment : D → ℕ) (left_since : D → ℕ → Image → Type 0) (old new : D) where
  -- This happened from the start of a call on, in this state with this device. A crash leaves what a prefix of the records makes of the
  -- device, with all artifacts of that, where the images at the start had theirs.
  pub record IsDrivenOn (d : Device) (state : SessionState) (h : List TraceEvent) : Type 0 where
    pub device_is : state.device ≡ d
    pub sound : IsSound d
    pub history : IsHistory state h
    pub images : LeavesPrefixes may_leave moment left_since old new d (records_of h)
    pub whole : KeepsWhole may_leave moment left_since old new d (records_of h)
    -- what meets its groups and its items does at each record, and what is whole is so
    pub met : StayMet d (records_of h)
    pub stays : StayWhole d (records_of h)

-- ---- `deploy`, `local` and `config-set`

-- a library without recipes and artifacts, which never fails
abbrev pub no_shelf : Shelf
no_shelf = record { content = no_content; faults_before = 0; faults_after = 0 }

-- A change of a configuration is deployed over no library.
abbrev pub shelf_for : Ask → Shelf → Shelf
shelf_for (ask.Change name) shelf = no_shelf
shelf_for _ shelf = shelf

-- it is this
abbrev pub IsMade : Result Document Declined → Device → Result Document Declined → Type 0
IsMade made d result = result ≡ made

-- from where an entry of so many bytes would be written in the journal that is in hand
abbrev pub slots_start : Slots → Device → ℕ → ℕ
slots_start log d = start_of (λ (l : Slots). l.live.end) (λ (l : Slots). l.number) slots_turn log d

-- So it is in a journal whose live slot has this number and ends here: behind its entries, or where it is begun anew first,
-- behind those of the device.
pub record StartsFrom (image : Image) (d : Device) (start : ℕ → ℕ) : Type 0 where
  pub number : ℕ
  pub end : ℕ
  pub payloads : List (List ℕ)
  pub live : IsLive image number end payloads
  pub start_is : start ≡ starts_at (can_turn (is_lt (nat_cmp number 18446744073709551615)) number) end (front_bytes (number + 1) d)

-- The document is all that the source had left, where it tells that. The source did not fail: nothing is deployed where it
-- did, not even a document that a further read would have given whole.
pub record IsDocument (input : Input) (bytes : List ℕ) : Type 0 where
  pub whole : (document : List ℕ) → input.document ≡ Some document → bytes ≡ document
  pub quiet : input.faults_after ≡ input.faults_before

module _ {D : Type 0} (may_leave : D → Image → Type 0) (moment : D → ℕ) (left_since : D → ℕ → Image → Type 0) (faults : D → ℕ) (old new : D)
    (old_list new_list : Option (List RunnerEntry)) (printed : Printed) (result : Status) where
  -- Nothing is pending on this device. The request comes to a document or not, and that is taken in on the device or not, by the checks in their
  -- order, and then from the start of the call one deployment goes on by its plan, or the plan is put off.
  pub record IsDeployedOn (d : Device) (start : ℕ → ℕ) (library : Shelf) (request : Device → Result Document Declined → Type 0) : Type 0 where
    pub state : SessionState
    pub serves : state.serves ≡ false
    pub idle : d.pending ≡ None
    pub origin : Origin
    pub origin_is : d.origin ≡ Some origin
    pub taken : Result code.Plan Declined
    pub takes : TakesBy request d origin library.content library.faults_before library.faults_after taken
    pub call : DrivesTaken slots_entries slots_files may_leave moment left_since old new old_list new_list printed.before printed.after state result start taken
    pub driven : IsDrivenOn may_leave moment left_since old new d state call.0.history
    -- it ends as one whose disk failed only where the disk's count rose, and its document is declined for the disk or for the
    -- library only where the count of that rose
    pub failed : call.0.ending ≡ ByDiskFault → Rose (faults old) (faults new)
    pub disk_cause : HasDiskFailed taken → Rose (faults old) (faults new)
    pub library_cause : HasLibraryFailed taken → Rose library.faults_before library.faults_after
    -- what was printed lasts
    pub lasts : AreLasting (may_leave new) call.0.prints.printed_records
    -- the entry of an accepted plan begins there, and no live one stood behind it then
    pub accepts : AcceptsTaken slots_entries may_leave moment left_since old new d start taken call.0.ending (records_of call.0.history)

  -- so it is with what the source has, which is of this kind
  abbrev pub IsInputDeployed : Ask → Device → (ℕ → ℕ) → Input → Shelf → Type 0
  IsInputDeployed what d start input library = (bytes : List ℕ) × IsDocument input bytes × IsDeployedOn d start library (AskOutcome what bytes)

  -- and with the device for which the journal stands, where the disk tells it
  abbrev pub IsDeployed : Ask → Store → Input → Shelf → Type 0
  IsDeployed what store input library = (d : Device) × (start : ℕ → ℕ) × IsFound store d × (IsTrue store.is_modelled → StartsFrom store.before d start) ×
      IsInputDeployed what d start input (shelf_for what library)

  -- ---- `resume`

  -- From the start of a call with this device its pending deployment goes on, where it has one.
  pub record IsResumedOn (d : Device) : Type 0 where
    pub state : SessionState
    pub serves : state.serves ≡ false
    pub call : Call slots_entries slots_files may_leave moment left_since old new old_list new_list printed.before printed.after state result
    pub resumes : ResumeEnding d call.ending
    pub driven : IsDrivenOn may_leave moment left_since old new d state call.history
    pub failed : call.ending ≡ ByDiskFault → Rose (faults old) (faults new)

  -- so it is with the device for which the journal stands, where the disk tells it
  abbrev pub IsResumed : Store → Type 0
  IsResumed store = (d : Device) × IsFound store d × IsResumedOn d

-- ---- refusals

-- when the refusals of a journal come that gives no device, where no 5, 6 or 15 comes in their place
pub record RefusedParts (store : Store) (printed : Printed) (result : Status) : Type 0 where
  -- 8 comes exactly where the journal holds no entry.
  pub none : result ≡ status.NotInitialised → (IsTrue store.is_modelled → slots_none store.before) × HasPrinted printed none_line
  pub none_comes : IsTrue store.is_modelled → slots_none store.before → IsOrFault result status.NotInitialised
  -- 9 comes exactly where it stands for no device.
  pub damaged : result ≡ status.Damaged → (place : List ℕ) × IsRefusedAt store place × HasPrinted printed (damaged_line place)
  pub damaged_comes : IsTrue store.is_modelled → StandsForNone store.before → IsOrFault result status.Damaged

-- 4 comes exactly where a deployment is pending. The source is then left as it was.
pub record PendingParts (store : Store) (input : Input) (printed : Printed) (result : Status) : Type 0 where
  pub pending : result ≡ status.PendingStands → (id : List ℕ) × (IsTrue store.is_modelled → IsPending store.before id) × (input.rest ≡ input.document) ×
      HasPrinted printed (pending_line id)
  pub pending_comes : IsTrue store.is_modelled → (d : Device) → IsImageOf store.before d → (q : PendingPlan) → d.pending ≡ Some q →
      IsOrFault result status.PendingStands

-- ---- faults, and files

-- 5, 6 and 7 come only where the count of the disk, of the source or the sink, or of the library rose, and the counts stay
-- where they do not come. No file is changed but the journal's two and those of artifacts, and no stray file of an artifact is
-- left with the status of a close, also where it is answered for a repeated id or for want of a pending deployment.
pub record DriveParts (store : Store) (input : Input) (library : Shelf) (printed : Printed) (result : Status) : Type 0 where
  pub disk : result ≡ status.Disk → HasRisen store
  pub disk_stays : result ≢ status.Disk → result ≢ status.Edge → store.faults_after ≡ store.faults_before
  pub edge : result ≡ status.Edge → Rose input.faults_before input.faults_after ⊎ Rose printed.faults_before printed.faults_after
  pub edges_stay : result ≢ status.Edge → (input.faults_after ≡ input.faults_before) × (printed.faults_after ≡ printed.faults_before)
  pub library_failed : result ≡ status.Library → Rose library.faults_before library.faults_after
  pub library_stays : result ≢ status.Library → result ≢ status.Edge → library.faults_after ≡ library.faults_before
  pub others : IsTrue store.is_modelled → AreOthersSame slots_files store.before store.after
  pub swept : LeavesNoStray store.is_modelled slots_entries result store.after
