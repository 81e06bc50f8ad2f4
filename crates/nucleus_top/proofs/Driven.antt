-- What the steps of the commands that drive a deployment come to.
use Rattle.std.proofs.Common.{◌≡◌, ◌≢◌, ◌∙◌, ◌⊎◌, inl, inr, ℕ, ◌<◌, List, [], length, take, refl, sym, ap, subst, arith, Some, None, IfSome}
use Rattle.std.specs.Option.{IsSomeAnd}
use Rattle.std.specs.Prelude.{◌≤◌, ⊤, Bool, false, is_some, IsTrue, Option, Result, Ok, Err, true, IfOk, IfErr, IsErrOf, Contains}
use Rattle.std.proofs.lemmas.Bool.{cases_lt, false≢true}
use Rattle.std.proofs.lemmas.List.{take_all}
use Rattle.nuc_base.proofs.Lists.{in_nil}
use Rattle.nuc_base.specs.Faults.{Rose}
use Rattle.nuc_base.specs.declared.status.Status.{Status}
use Rattle.nuc_base.specs.declared.status.Status.TheVariants as status
use Rattle.command_words.specs.Laws.{AsksOnce}
use Rattle.command_words.specs.Words.{IsOrder}
use Rattle.command_words.specs.declared.order.Order.{Order}
use Rattle.command_words.specs.declared.order.Order.TheVariants as orders
use Rattle.edges.specs.declared.source.ReadFault.{ReadFault}
use Rattle.edges.specs.declared.source.ReadFault.TheVariants as reading
use Rattle.disk_model.specs.Disk.{IsAfter, Image, DiskLaws, HasLeft}
use Rattle.disk_model.specs.Listing.{artifacts, IsBelow}
use Rattle.disk_model.specs.Spares.{IsSameBut}
use Rattle.disk_model.specs.Moments.{at_start, none_spares, then_spares, weaker}
use Rattle.gate_log.specs.Journal.{JournalLaws}
use Rattle.checkpoint_log.specs.Beginnings.{FirstSays}
use Rattle.checkpoint_log.specs.Laws.{slots_laws}
use Rattle.checkpoint_log.specs.Slots.{IsLive, SlotsStand, slots_entries, slots_files, slots_stands}
use Rattle.checkpoint_log.specs.declared.slots.Slots.{Slots}
use Rattle.library_core.specs.Library.{Content}
use Rattle.records.specs.declared.record.Origin.{Origin}
use Rattle.records.specs.declared.record.Plan as code
use Rattle.artifact_store.specs.Swept.{IsSwept, items_of}
use Rattle.device.specs.Devices.{Device, Pending as PendingPlan}
use Rattle.deploy_state.specs.States.{OwnsIdle, OwnsLoaded, activating_device, backing_device, booting_device, idle_device, rolling_device}
use Rattle.deploy_state.specs.declared.fault.LoadFault.{LoadFault}
use Rattle.deploy_state.specs.declared.fault.LoadFault.TheVariants as load
use Rattle.deploy_state.specs.declared.state.Idle.{Idle}
use Rattle.deploy_state.specs.declared.state.Loaded.{Loaded}
use Rattle.deploy_state.specs.declared.state.Loaded.TheVariants as loaded
use Rattle.artifact_store.specs.Laws.{JournalsLieElsewhere}
use Rattle.artifact_store.specs.declared.fault.SweepFault.{SweepFault}
use Rattle.artifact_store.specs.declared.fault.SweepFault.TheVariants as sweep
use Rattle.step_runner.specs.Entries.{Told}
use Rattle.step_runner.specs.declared.entries.RunnerEntry.{RunnerEntry}
use Rattle.components.specs.Components.{Components}
use Rattle.histories.specs.Courses.{IsStateOf}
use Rattle.histories.specs.TraceEvents.{TraceEvent, records_of}
use Rattle.histories.specs.Follows.{IsLiving}
use Rattle.histories.specs.States.{SessionState, beginning}
use Rattle.session_boots.specs.Stands.{IsAtBootStage}
use Rattle.admission.specs.Requests.{AnswerOfAsk, AskOutcome, TakesBy, TakesMade}
use Rattle.admission.specs.Takes.{LieElsewhere}
use Rattle.admission.specs.declared.ask.Ask.{Ask}
use Rattle.admission.specs.declared.ask.Ask.TheVariants as ask
use Rattle.admission.specs.declared.fault.Declined.{Declined}
use Rattle.admission.specs.declared.fault.Declined.TheVariants.{Refused}
use Rattle.plan_core.specs.declared.fault.Refusal.TheVariants as refusal
use Rattle.admission.proofs.Staying.{hand_stays}
use Rattle.session_admission.specs.Accepts.{IsOpen}
use Rattle.session.specs.Calls.{Call, IsOrEdge, ChangesArtifactsAlone, HasNotFallen}
use Rattle.session.specs.Documents.{DrivesTaken}
use Rattle.deployment_doc.specs.declared.document.Document.{Document}
use Rattle.session.specs.Sweeping.{LeavesNoStray}
use Rattle.session.proofs.Accepted.{takes_behind}
use Rattle.session.proofs.Sweeping.{never_closes}
use Rattle.nucleus_top.specs.Answers.{HasRisen, Input, IsUnchanged, Printed, HasPrinted, Shelf, Store, IsPrinted, status_of}
use Rattle.nucleus_top.specs.Asked.{AreWordsFor, asked_of}
use Rattle.nucleus_top.specs.Crashes.{KeepsJournal, KeepsSameWhole, LeavesPrefixes, LeavesSame}
use Rattle.nucleus_top.specs.Drives.{AsksTo, IsInputDeployed, AsksToServe, AsksWithLibrary, DriveParts, AsksToDrive, AsksToDriveOne, AsksToServeTurns}
use Rattle.nucleus_top.specs.Drives.{MayNotRead, IsDeployed, IsDeployedOn, IsDrivenOn, IsMade, IsResumedOn, IsRefusedBefore}
use Rattle.nucleus_top.specs.Drives.{IsUnread, IsUnswept, ask_of, shelf_for}
use Rattle.nucleus_top.specs.Drives.{NamesPendingOf, StartsFrom, TellsSweep, TellsUnread, MayNotDeploy, MayNotOpen, MayNotOpenIdle, slots_start}
use Rattle.nucleus_top.specs.Opening.{HasEntry, IsImageOf}
use Rattle.nucleus_top.specs.Parts.{Parts, Setting}
use Rattle.nucleus_top.specs.Planning.{IsFound, NamesPending}
use Rattle.nucleus_top.specs.Refusing.{NoDeviceAnswer, TellsFault}
use Rattle.nucleus_top.specs.Words.{AsksOrder, DrivesNone}
use Rattle.nucleus_top.specs.declared.answer.Answer.{Answer}
use Rattle.nucleus_top.specs.declared.asking.Asked.{Asked}
use Rattle.nucleus_top.specs.declared.answer.Answer.TheVariants.{Damaged, DiskFailed, NoMemory, NotInitialised, Pending, SourceFailed}
use Rattle.nucleus_top.proofs.Crashes.{prefixes_on, same_prefixes}
use Rattle.nucleus_top.proofs.Ends.{parts}
use Rattle.nucleus_top.proofs.LongTexts.{prefix_asks}
use Rattle.nucleus_top.proofs.Standing.{none_of}
use Rattle.nucleus_top.proofs.Whole.{whole_on}

-- ---- answers

-- the journal gives no device, a fault, or want of memory
abbrev pub IsFirst : Answer → Type 0
IsFirst DiskFailed = ⊤
IsFirst NotInitialised = ⊤
IsFirst (Damaged place) = ⊤
IsFirst NoMemory = ⊤
IsFirst _ = ⊥

-- a deployment is pending
abbrev pub IsPending : Answer → Type 0
IsPending (Pending id) = ⊤
IsPending NoMemory = ⊤
IsPending _ = ⊥

module _ (store : Store) where
  pub withheld_first : (a : Answer) → MayNotOpen store a → IsFirst a
  withheld_first DiskFailed why = tt
  withheld_first NotInitialised why = tt
  withheld_first (Damaged place) why = tt
  withheld_first NoMemory why = tt
  withheld_first a why = absurd why

  pub idle_refusal : (a : Answer) → MayNotOpenIdle store a → IsFirst a ⊎ IsPending a
  idle_refusal (Pending id) why = inr tt
  idle_refusal a why = inl (withheld_first a why)

  -- a journal that gives no device
  pub refused_withholds : (a : Answer) → NoDeviceAnswer store a → MayNotOpen store a
  refused_withholds DiskFailed why = inl why
  refused_withholds NotInitialised why = why
  refused_withholds (Damaged place) why = why
  refused_withholds NoMemory why = inl why
  refused_withholds a why = absurd why

  pub withholds_idle : (a : Answer) → MayNotOpen store a → MayNotOpenIdle store a
  withholds_idle (Pending id) why = absurd why
  withholds_idle a why = why

  pub idle_refused : (input : Input) (a : Answer) → input.rest ≡ input.document → MayNotOpenIdle store a → MayNotDeploy store input a
  idle_refused input (Pending id) same why = (why, same)
  idle_refused input SourceFailed same why = absurd why
  idle_refused input a same why = why

  -- of a device that is there
  module _ (d : Device) (found : IsFound store d) where
    pub unswept_withholds : {S : Type 0} (result : Result S Answer) → IfErr result (λ a. IsUnswept a) → (IsErrOf result DiskFailed → HasRisen store) →
        IfErr result (λ a. MayNotOpen store a)
    unswept_withholds (Ok s) is rose = tt
    unswept_withholds (Err DiskFailed) is rose = inr ((d, found), rose refl)
    unswept_withholds (Err NoMemory) is rose = inr (d, found)
    unswept_withholds (Err a) is rose = absurd is

    pub pending_withholds : {S : Type 0} (result : Result S Answer) → IfErr result (λ a. NamesPendingOf d a) →
        (IsTrue store.is_modelled → IsSwept (items_of d) store.after) → IfErr result (λ a. MayNotOpenIdle store a)
    pending_withholds (Ok s) names swept = tt
    pending_withholds (Err (Pending id)) names swept = (d, found, names, swept)
    pending_withholds (Err NoMemory) names swept = inr (d, found)
    pending_withholds (Err a) names swept = absurd names

    pub unread_refused : (input : Input) (a : Answer) → d.pending ≡ None → MayNotRead input a → MayNotDeploy store input a
    unread_refused input SourceFailed idle why = ((d, found, idle), why)
    unread_refused input NoMemory idle why = inr (d, found)
    unread_refused input a idle why = absurd why

-- the deployment that is pending
pub names_pending : (d : Device) (q : PendingPlan) (a : Answer) → d.pending ≡ Some q → NamesPending q.plan.id a → NamesPendingOf d a
names_pending d q (Pending id) is names = subst (λ (x : Option PendingPlan). IsSomeAnd x (λ p. p.plan.id ≡ id)) (sym is) (sym names)
names_pending d q NoMemory is names = tt
names_pending d q a is names = absurd names

pub unread_goes : (input : Input) (f : ReadFault) (a : Answer) → TellsUnread f a → (f ≡ reading.Edge → Rose input.faults_before input.faults_after) →
    MayNotRead input a
unread_goes input reading.Edge SourceFailed tells rose = rose refl
unread_goes input reading.NoMemory NoMemory tells rose = tt
unread_goes input f a tells rose = absurd tells

-- a disk that failed
pub disk_of : (fault : LoadFault) (a : Answer) → TellsFault fault a → a ≡ DiskFailed → fault ≡ load.Disk
disk_of load.Disk a tells is = refl
disk_of load.NotInitialised a tells is = absurd (subst (TellsFault load.NotInitialised) is tells)
disk_of (load.Damaged at) a tells is = absurd (subst (TellsFault (load.Damaged at)) is tells)
disk_of load.NoMemory a tells is = absurd (subst (TellsFault load.NoMemory) is tells)

-- stray files that are not swept
pub swept_unswept : (fault : SweepFault) (a : Answer) → TellsSweep fault a → IsUnswept a
swept_unswept sweep.Disk DiskFailed tells = tt
swept_unswept sweep.NoMemory NoMemory tells = tt
swept_unswept fault a tells = absurd tells

pub swept_disk : (fault : SweepFault) (a : Answer) → TellsSweep fault a → a ≡ DiskFailed → fault ≡ sweep.Disk
swept_disk sweep.Disk a tells is = refl
swept_disk sweep.NoMemory a tells is = absurd (subst (TellsSweep sweep.NoMemory) is tells)

pub disk_swept : (fault : SweepFault) (a : Answer) → TellsSweep fault a → fault ≡ sweep.Disk → a ≡ DiskFailed
disk_swept sweep.Disk DiskFailed tells is = refl
disk_swept sweep.NoMemory a tells is = cc
disk_swept sweep.Disk a tells is = absurd tells

-- a pending deployment
pub pending_no_disk : {S : Type 0} (d : Device) (result : Result S Answer) → IfErr result (λ a. NamesPendingOf d a) → IsErrOf result DiskFailed → ⊥
pending_no_disk {S} d result pends is = subst (λ (r : Result S Answer). IfErr r (λ a. NamesPendingOf d a)) is pends

pub first_by : {A B C : Type 0} → (A → C) → A ⊎ B → C ⊎ B
first_by gives (inl a) = inl (gives a)
first_by gives (inr b) = inr b

-- ---- counts

pub stays : (old new : ℕ) → old ≤ new → HasNotFallen old new
stays old new later = omega (arith, later)

pub stays_on : (old mid new : ℕ) → old ≤ mid → HasNotFallen mid new → HasNotFallen old new
stays_on old mid new first second = omega (arith, first, second)

-- ---- such an answer told

abbrev IsRefusal : Answer → Type 0
IsRefusal a = IsFirst a ⊎ IsPending a

refusal_disk : (a : Answer) → IsRefusal a → status_of a ≡ status.Disk → a ≡ DiskFailed
refusal_disk DiskFailed is same = refl
refusal_disk NotInitialised is same = cc
refusal_disk (Damaged place) is same = cc
refusal_disk (Pending id) is same = cc
refusal_disk NoMemory is same = cc
refusal_disk a (inl is) same = absurd is
refusal_disk a (inr is) same = absurd is

refusal_edge : (a : Answer) → IsRefusal a → status_of a ≡ status.Edge → ⊥
refusal_edge DiskFailed is same = cc
refusal_edge NotInitialised is same = cc
refusal_edge (Damaged place) is same = cc
refusal_edge (Pending id) is same = cc
refusal_edge NoMemory is same = cc
refusal_edge a (inl is) same = absurd is
refusal_edge a (inr is) same = absurd is

refusal_library : (a : Answer) → IsRefusal a → status_of a ≡ status.Library → ⊥
refusal_library DiskFailed is same = cc
refusal_library NotInitialised is same = cc
refusal_library (Damaged place) is same = cc
refusal_library (Pending id) is same = cc
refusal_library NoMemory is same = cc
refusal_library a (inl is) same = absurd is
refusal_library a (inr is) same = absurd is

-- what a refusal that is told says of the faults
pub record Tells (printed : Printed) (result : Status) (a : Answer) : Type 0 where
  pub disk : result ≡ status.Disk → a ≡ DiskFailed
  pub edge : result ≡ status.Edge → Rose printed.faults_before printed.faults_after
  pub library : result ≡ status.Library → ⊥
  pub quiet : result ≢ status.Disk → result ≢ status.Edge → a ≢ DiskFailed
  pub quiet_sink : result ≢ status.Edge → printed.faults_after ≡ printed.faults_before

pub tells : (printed : Printed) (result : Status) (a : Answer) → IsFirst a ⊎ IsPending a → IsPrinted printed result a → Tells printed result a
tells printed result a is (inl told) = record {
  disk = λ same. refusal_disk a is (sym told.0 ∙ same);
  edge = λ same. absurd (refusal_edge a is (sym told.0 ∙ same));
  library = λ same. refusal_library a is (sym told.0 ∙ same);
  quiet = λ other more fails. other (told.0 ∙ ap status_of fails);
  quiet_sink = λ other. told.2;
}
tells printed result a is (inr told) = record {
  disk = λ same. cc;
  edge = λ same. told.1.rose;
  library = λ same. cc;
  quiet = λ other more. absurd (more told.0);
  quiet_sink = λ other. absurd (other told.0);
}

-- its status is that of no close
module _ (is_modelled : Bool) (printed : Printed) (result : Status) (image : Image) where
  told_or_edge : (a : Answer) → IsPrinted printed result a → IsOrEdge result (status_of a)
  told_or_edge a (inl told) = inl told.0
  told_or_edge a (inr told) = inr told.0

  pub told_sweeps : (a : Answer) → IsFirst a ⊎ IsPending a → IsPrinted printed result a → LeavesNoStray is_modelled slots_entries result image
  told_sweeps DiskFailed is told = never_closes is_modelled slots_entries result status.Disk image refl (told_or_edge DiskFailed told)
  told_sweeps NotInitialised is told = never_closes is_modelled slots_entries result status.NotInitialised image refl (told_or_edge NotInitialised told)
  told_sweeps (Damaged place) is told = never_closes is_modelled slots_entries result status.Damaged image refl (told_or_edge (Damaged place) told)
  told_sweeps (Pending id) is told = never_closes is_modelled slots_entries result status.PendingStands image refl (told_or_edge (Pending id) told)
  told_sweeps NoMemory is told = never_closes is_modelled slots_entries result status.Memory image refl (told_or_edge NoMemory told)
  told_sweeps a (inl is) told = absurd is
  told_sweeps a (inr is) told = absurd is

-- and so of a document that is not read
pub record TellsNone (f : ReadFault) (printed : Printed) (result : Status) : Type 0 where
  pub disk : result ≡ status.Disk → ⊥
  pub edge : result ≡ status.Edge → (f ≡ reading.Edge) ⊎ Rose printed.faults_before printed.faults_after
  pub library : result ≡ status.Library → ⊥
  pub quiet : result ≢ status.Edge → f ≢ reading.Edge
  pub quiet_sink : result ≢ status.Edge → printed.faults_after ≡ printed.faults_before

pub tells_none : (printed : Printed) (result : Status) (f : ReadFault) (a : Answer) → TellsUnread f a → IsPrinted printed result a → TellsNone f printed result
tells_none printed result f a is (inr told) = record {
  disk = λ same. cc;
  edge = λ same. inr told.1.rose;
  library = λ same. cc;
  quiet = λ other. absurd (other told.0);
  quiet_sink = λ other. absurd (other told.0);
}
tells_none printed result reading.Edge SourceFailed is (inl told) = record {
  disk = λ same. cc;
  edge = λ same. inl refl;
  library = λ same. cc;
  quiet = λ other. absurd (other told.0);
  quiet_sink = λ other. absurd (other told.0);
}
tells_none printed result reading.NoMemory NoMemory is (inl told) = record {
  disk = λ same. cc;
  edge = λ same. cc;
  library = λ same. cc;
  quiet = λ other same. cc;
  quiet_sink = λ other. told.2;
}
tells_none printed result f a is (inl told) = absurd is

-- ---- states

pub kept_ok : {T E : Type 0} (P : T → Type 0) (state : T) (result : Result T E) → IfOk result (λ s. s ≡ state) → P state → IfOk result P
kept_ok P state (Ok s) is holds = subst P (sym is) holds
kept_ok P state (Err e) is holds = tt

pub idle_ok : {T S E : Type 0} (P : T → Type 0) (of : S → T) (state : T) (result : Result S E) → IfOk result (λ s. state ≡ of s) → P state →
    IfOk result (λ s. P (of s))
idle_ok P of state (Ok s) is holds = subst P is holds
idle_ok P of state (Err e) is holds = tt

pub ok_by : {T E : Type 0} (P Q : T → Type 0) (result : Result T E) → IfOk result P → ((s : T) → P s → Q s) → IfOk result Q
ok_by P Q (Ok s) holds gives = gives s holds
ok_by P Q (Err e) holds gives = tt

-- the journal's slots do not lie in the folder of the artifacts
pub slots_elsewhere : JournalsLieElsewhere → LieElsewhere slots_files
slots_elsewhere law name (inl is) below = law.0 (subst (IsBelow artifacts) is below)
slots_elsewhere law name (inr is) below = law.1 (subst (IsBelow artifacts) is below)

module _ {D J : Type 0} {is_modelled : Bool} {seen : D → Image} {may_leave : D → Image → Type 0} {moment : D → ℕ} {left_since : D → ℕ → Image → Type 0}
    (laws : DiskLaws is_modelled seen may_leave moment left_since)
    {files : List ℕ → Type 0} {entries : Image → List (List ℕ) → Type 0} {holds_none : Image → Type 0} {is_damaged : Image → ℕ → Type 0}
    {stands : J → Image → List (List ℕ) → Type 0} {end : J → ℕ} (journal : JournalLaws files entries holds_none is_damaged stands end)
    (apart : LieElsewhere files) where
  -- whatever becomes of the files of artifacts, a state stays one of the disk
  pub loaded_stays : (s : Loaded J) (old new : D) → ChangesArtifactsAlone may_leave moment left_since old new →
      OwnsLoaded is_modelled may_leave stands end s old → OwnsLoaded is_modelled may_leave stands end s new
  loaded_stays (loaded.Idle s) old new leaves held = (hand_stays laws journal apart s.log (idle_device s) old new leaves held.0, held.1)
  loaded_stays (loaded.Booting s) old new leaves held = (
    (hand_stays laws journal apart s.hand.log (booting_device s) old new leaves held.0.0, held.0.1),
    held.1,
  )
  loaded_stays (loaded.Activating s) old new leaves held = (
    (
      hand_stays laws journal apart s.hand.log (activating_device s) old new leaves held.0.0,
      held.0.1,
    ),
    held.1,
  )
  loaded_stays (loaded.Backing s) old new leaves held = (
    (hand_stays laws journal apart s.hand.log (backing_device s) old new leaves held.0.0, held.0.1),
    held.1,
  )
  loaded_stays (loaded.Rolling s) old new leaves held = (
    (hand_stays laws journal apart s.hand.log (rolling_device s) old new leaves held.0.0, held.0.1),
    held.1,
  )

-- ---- where an entry begins

-- a slot that stands behind entries is the live one
live_of : (log : Slots) (image : Image) (payloads : List (List ℕ)) → HasEntry image → SlotsStand log image payloads →
    IsLive image log.number log.live.end payloads
live_of log image payloads some h = by h.says
  where
    by : FirstSays payloads log.number ⊎ ((payloads ≡ []) × (log.number ≡ 0)) → IsLive image log.number log.live.end payloads
    by (inl says) = record { closed = h.closed; says = says; older = h.older }
    by (inr none) = absurd (some (none_of image (subst (λ (ps : List (List ℕ)). slots_entries image ps) none.0 (slots_laws.holds log image payloads h))))

pub starts_from : {D : Type 0} {is_modelled : Bool} {may_leave : D → Image → Type 0} {end : Slots → ℕ} (s : Idle Slots) (disk : D) (image : Image) →
    OwnsIdle is_modelled may_leave slots_stands end s disk
    → may_leave disk image → HasEntry image → StartsFrom image (idle_device s) (slots_start s.log (idle_device s))
starts_from s disk image held left some = record {
  number = s.log.number;
  end = s.log.live.end;
  payloads = held.0.payloads;
  live = live_of s.log image held.0.payloads some (held.0.behind.each image left);
  start_is = refl;
}

-- ---- the document

-- what holds of one request holds of another, where each answer of the one is an answer of the other, or want of memory
module _ (d : Device) (origin : Origin) (content : Content) (before after : ℕ) (taken : Result code.Plan Declined)
    (first second : Device → Result Document Declined → Type 0)
    (gives : (r : Result Document Declined) → first d r → (r ≡ Err (Refused refusal.NoMemory)) ⊎ second d r) where
  takes_on : TakesBy first d origin content before after taken → TakesBy second d origin content before after taken
  takes_on (inl memory) = inl memory
  takes_on (inr (inl (x, asks, is))) = elim (gives (Err x) asks) [
    | inl memory ↦ inl (is ∙ ap err_again memory)
    | inr asked ↦ inr (inl (x, asked, is))
  ]
    where
      err_again : Result Document Declined → Result code.Plan Declined
      err_again (Ok document) = taken
      err_again (Err x) = Err x
  takes_on (inr (inr (document, asks, sound, takes))) = elim (gives (Ok document) asks) [
    | inl memory ↦ absurd cc
    | inr asked ↦ inr (inr (document, asked, sound, takes))
  ]

module _ {D : Type 0} (may_leave : D → Image → Type 0) (moment : D → ℕ) (left_since : D → ℕ → Image → Type 0) (faults : D → ℕ) (old new : D)
    (old_list new_list : Option (List RunnerEntry)) (printed : Printed) (result : Status)
    (d : Device) (start : ℕ → ℕ) (library : Shelf) (first second : Device → Result Document Declined → Type 0)
    (gives : (r : Result Document Declined) → first d r → (r ≡ Err (Refused refusal.NoMemory)) ⊎ second d r) where
  -- so it is with a whole deployment
  pub deployed_as : IsDeployedOn may_leave moment left_since faults old new old_list new_list printed result d start library first
      → IsDeployedOn may_leave moment left_since faults old new old_list new_list printed result d start library second
  deployed_as h = record {
    state = h.state;
    serves = h.serves;
    idle = h.idle;
    origin = h.origin;
    origin_is = h.origin_is;
    taken = h.taken;
    takes = takes_on d h.origin library.content library.faults_before library.faults_after h.taken first second gives h.takes;
    call = h.call;
    driven = h.driven;
    failed = h.failed;
    disk_cause = h.disk_cause;
    library_cause = h.library_cause;
    lasts = h.lasts;
    accepts = h.accepts;
  }

-- what is made is taken in so
pub made_takes : (d : Device) (origin : Origin) (content : Content) (before after : ℕ) (made : Result Document Declined)
    (taken : Result code.Plan Declined) → TakesMade d origin content before after made taken → TakesBy (IsMade made) d origin content before after taken
made_takes d origin content before after (Ok document) taken takes = inr (inr (document, refl, takes.0, takes.1))
made_takes d origin content before after (Err x) taken takes = inr (inl (x, refl, takes))

-- the document to which a request came
pub made_asks : (what : Ask) (bytes : List ℕ) (d : Device) (made : Result Document Declined) → AnswerOfAsk what bytes d made → (r : Result Document Declined)
    → IsMade made d r → (r ≡ Err (Refused refusal.NoMemory)) ⊎ AskOutcome what bytes d r
made_asks what bytes d made makes r is = subst (λ (x : Result Document Declined). AnswerOfAsk what bytes d x) (sym is) makes

-- what bytes ask, over the library over which that is deployed
module _ {D : Type 0} (may_leave : D → Image → Type 0) (moment : D → ℕ) (left_since : D → ℕ → Image → Type 0) (faults : D → ℕ) (old new : D)
    (old_list new_list : Option (List RunnerEntry)) (printed : Printed) (result : Status) (d : Device) (start : ℕ → ℕ) where
  pub bytes_deployed : (what : Ask) (bytes : List ℕ) (made : Result Document Declined) → AnswerOfAsk what bytes d made → (shelf over : Shelf)
      → shelf_for what shelf ≡ over
      → IsDeployedOn may_leave moment left_since faults old new old_list new_list printed result d start over (IsMade made)
      → IsDeployedOn may_leave moment left_since faults old new old_list new_list printed result d start (shelf_for what shelf) (AskOutcome what bytes)
  bytes_deployed what bytes made makes shelf over is h =
      subst (λ (l : Shelf). IsDeployedOn may_leave moment left_since faults old new old_list new_list printed result d start l (AskOutcome what bytes)) (sym is)
      (deployed_as may_leave moment left_since faults old new old_list new_list printed result d start over (IsMade made) (AskOutcome what bytes)
      (made_asks what bytes d made makes) h)

-- what is no change of a configuration is deployed over the library that is given
pub over_given : (what : Ask) (shelf : Shelf) → (what ≡ ask.Document) ⊎ (what ≡ ask.Local) → shelf_for what shelf ≡ shelf
over_given what shelf (inl is) = ap (λ (a : Ask). shelf_for a shelf) is
over_given what shelf (inr is) = ap (λ (a : Ask). shelf_for a shelf) is

-- the request of the source, where its prefix was deployed
module _ {D : Type 0} (may_leave : D → Image → Type 0) (moment : D → ℕ) (left_since : D → ℕ → Image → Type 0) (faults : D → ℕ) (old new : D)
    (old_list new_list : Option (List RunnerEntry)) (printed : Printed) (result : Status)
    (what : Ask) (d : Device) (start : ℕ → ℕ) (input : Input) (library : Shelf) (quiet : input.faults_after ≡ input.faults_before) (prefix : List ℕ) where
  by_whole : (left : Option (List ℕ)) → input.document ≡ left → IfSome left (λ whole. prefix ≡ take 524289 whole)
      → IsDeployedOn may_leave moment left_since faults old new old_list new_list printed result d start library (AskOutcome what prefix)
      → IsInputDeployed may_leave moment left_since faults old new old_list new_list printed result what d start input library
  by_whole None same is h = (prefix, record { whole = λ whole told. cc; quiet = quiet }, h)
  by_whole (Some document) same is h = (
    document,
    record { whole = λ whole told. cc; quiet = quiet },
    deployed_as may_leave moment left_since faults old new old_list new_list printed result d start library (AskOutcome what prefix) (AskOutcome what document)
        (λ r asks. inr (prefix_asks what document prefix is d r asks)) h,
  )

  pub document_deploys : IfSome input.document (λ whole. prefix ≡ take 524289 whole)
      → IsDeployedOn may_leave moment left_since faults old new old_list new_list printed result d start library (AskOutcome what prefix)
      → IsInputDeployed may_leave moment left_since faults old new old_list new_list printed result what d start input library
  document_deploys is h = by_whole input.document refl is h

-- ---- a call begins

-- no component from before
abbrev pub no_world : Components
no_world = record { parts = []; moment = 0; steady = true }

-- the state of a call that begins with this device and this runner
abbrev pub begun_as : Bool → ℕ → Device → Told → SessionState
begun_as serves turns d told = beginning serves turns d told.moment told.asked

abbrev pub begun : Device → Told → SessionState
begun d told = begun_as false 0 d told

no_lives : (serves : Bool) (turns : ℕ) (d : Device) (told : Told) (n : ℕ) → IsLiving n (begun_as serves turns d told) → ⊥
no_lives serves turns d told n (inl some) = absurd (false≢true some)
no_lives serves turns d told n (inr boot) = absurd boot

stands_begun : (serves : Bool) (turns : ℕ) (d : Device) (told : Told) (living : List ℕ) → living ≡ [] →
    IsStateOf (begun_as serves turns d told) d no_world told living
stands_begun serves turns d told living none = record {
  device_is = refl;
  world_is = refl;
  answered = refl;
  not_before = omega arith;
  asked = refl;
  children = λ n. (λ has. absurd (in_nil n (subst (λ (xs : List ℕ). Contains xs n) none has)), λ lives. absurd (no_lives serves turns d told n lives));
}

pub open_begun : (d : Device) (world : Components) (told : Told) (living : List ℕ) → world ≡ no_world → living ≡ [] → d.pending ≡ None →
    IsOpen (begun d told) d world told living
open_begun d world told living is none idle = subst (λ (w : Components). IsOpen (begun d told) d w told living) (sym is) (record {
  stands = stands_begun false 0 d told living none;
  quiet = record { owes_none = refl; none = refl };
  going = refl;
  boot = refl;
  boot_end = refl;
  takes = ap (λ (o : Option PendingPlan). is_some o) idle;
  over = refl;
  cut = refl;
})

-- it begins at the stage of its bootstraps, also where it serves
pub begun_stage : (serves : Bool) (turns : ℕ) (d : Device) (world : Components) (told : Told) (living : List ℕ) → world ≡ no_world → living ≡ [] →
    IsAtBootStage (begun_as serves turns d told) d world told living
begun_stage serves turns d world told living is none =
    subst (λ (w : Components). IsAtBootStage (begun_as serves turns d told) d w told living) (sym is) (record {
      between = record {
        stands = stands_begun serves turns d told living none;
        still = record { stopped = refl; quiet = record { owes_none = refl; none = refl }; generation = refl; cut = refl };
        boot = refl;
        boot_end = refl;
        probed = refl;
      };
      over = refl;
    })

pub stage_begun : (d : Device) (world : Components) (told : Told) (living : List ℕ) → world ≡ no_world → living ≡ [] →
    IsAtBootStage (begun d told) d world told living
stage_begun d world told living is none = begun_stage false 0 d world told living is none

-- ---- calls one after another

rose_behind : (a b c : ℕ) → a ≤ b → Rose b c → Rose a c
rose_behind a b c later rose = omega (arith, later, rose)

module _ {D : Type 0} {is_modelled : Bool} {seen : D → Image} {may_leave : D → Image → Type 0} {moment : D → ℕ} {left_since : D → ℕ → Image → Type 0}
    (laws : DiskLaws is_modelled seen may_leave moment left_since) where
  -- a call that changes nothing
  pub same_spared : (old new : D) → HasLeft moment left_since old new (may_leave old) → ChangesArtifactsAlone may_leave moment left_since old new
  same_spared old new leaves = weaker laws old new _ _ (none_spares (may_leave old) (IsBelow artifacts)) leaves

  -- no call
  pub start_spared : (d : D) → ChangesArtifactsAlone may_leave moment left_since d d
  start_spared d = same_spared d d (at_start laws d)

  pub then_spared : (old mid new : D) → ChangesArtifactsAlone may_leave moment left_since old mid → ChangesArtifactsAlone may_leave moment left_since mid new
      → ChangesArtifactsAlone may_leave moment left_since old new
  then_spared old mid new first second = then_spares laws (IsBelow artifacts) old mid new first second

  -- behind a call that changes files of artifacts alone
  module _ (old mid new : D) (first : ChangesArtifactsAlone may_leave moment left_since old mid) (old_list new_list : Option (List RunnerEntry))
      (old_held new_held : Option (List ℕ)) (result : Status) where
    call_on : (p : SessionState) → Call slots_entries slots_files may_leave moment left_since mid new old_list new_list old_held new_held p result
        → Call slots_entries slots_files may_leave moment left_since old new old_list new_list old_held new_held p result
    call_on p call = record {
      from = call.from;
      to = call.to;
      before = then_spared old mid call.from first call.before;
      history = call.history;
      trace = call.trace;
      after = call.after;
      ending = call.ending;
      answers = call.answers;
      prints = call.prints;
      ends = call.ends;
      end = call.end;
      stands = call.stands;
      doubt = call.doubt;
      once = call.once;
      quits = call.quits;
    }

    module _ (p : SessionState) (start : ℕ → ℕ) (taken : Result code.Plan Declined) where
      taken_on : DrivesTaken slots_entries slots_files may_leave moment left_since mid new old_list new_list old_held new_held p result start taken
          → DrivesTaken slots_entries slots_files may_leave moment left_since old new old_list new_list old_held new_held p result start taken
      unfolding call_on
      taken_on call = (call_on p call.0, call.1)

  module _ (old mid new : D) (first : ChangesArtifactsAlone may_leave moment left_since old mid) (old_list new_list : Option (List RunnerEntry))
      (printed : Printed) (result : Status) (faults : D → ℕ) (later : faults old ≤ faults mid) (d : Device)
      (images : LeavesPrefixes may_leave moment left_since old mid d []) (stands : IsTrue is_modelled → IsImageOf (seen old) d)
      (whole : KeepsSameWhole may_leave moment left_since seen old mid) where
    pub driven_on : (state : SessionState) (history : List TraceEvent) → IsDrivenOn may_leave moment left_since mid new d state history
        → IsDrivenOn may_leave moment left_since old new d state history
    driven_on state history h = record {
      device_is = h.device_is;
      sound = h.sound;
      history = h.history;
      images = prefixes_on laws old mid new d (records_of history) images h.images;
      whole = whole_on laws old mid new d (records_of history) stands whole h.whole;
      met = h.met;
      stays = h.stays;
    }

    pub deployed_on : (start : ℕ → ℕ) (library : Shelf) (request : Device → Result Document Declined → Type 0)
        → IsDeployedOn may_leave moment left_since faults mid new old_list new_list printed result d start library request
        → IsDeployedOn may_leave moment left_since faults old new old_list new_list printed result d start library request
    unfolding taken_on call_on
    deployed_on start library request h = record {
      state = h.state;
      serves = h.serves;
      idle = h.idle;
      origin = h.origin;
      origin_is = h.origin_is;
      taken = h.taken;
      takes = h.takes;
      call = taken_on old mid new first old_list new_list printed.before printed.after result h.state start h.taken h.call;
      driven = driven_on h.state h.call.0.history h.driven;
      failed = λ fails. rose_behind (faults old) (faults mid) (faults new) later (h.failed fails);
      disk_cause = λ failed. rose_behind (faults old) (faults mid) (faults new) later (h.disk_cause failed);
      library_cause = h.library_cause;
      lasts = h.lasts;
      accepts = takes_behind slots_entries laws old mid new (IsAfter (may_leave old) (IsSameBut (IsBelow artifacts))) first d start h.taken h.call.0.ending
          (records_of h.call.0.history) h.accepts;
    }

    pub resumed_on : IsResumedOn may_leave moment left_since faults mid new old_list new_list printed result d →
        IsResumedOn may_leave moment left_since faults old new old_list new_list printed result d
    unfolding call_on
    resumed_on h = record {
      state = h.state;
      serves = h.serves;
      call = call_on old mid new first old_list new_list printed.before printed.after result h.state h.call;
      resumes = h.resumes;
      driven = driven_on h.state h.call.history h.driven;
      failed = λ fails. rose_behind (faults old) (faults mid) (faults new) later (h.failed fails);
    }

  -- its document is not read behind such a call, or goes on with the device for which the journal stood
  pub ran_on : (old mid new : D) (first : ChangesArtifactsAlone may_leave moment left_since old mid) (old_list new_list : Option (List RunnerEntry))
      (printed : Printed) (result : Status)
      (faults : D → ℕ) (store : Store) (what : Ask) (input : Input) (library : Shelf) (d : Device) (start : ℕ → ℕ) (Same : Type 0) → faults old ≤ faults mid
      → IsFound store d → d.pending ≡ None → (IsTrue store.is_modelled → StartsFrom store.before d start) → (IsTrue is_modelled → IsImageOf (seen old) d)
      → LeavesSame may_leave moment left_since seen old mid → KeepsSameWhole may_leave moment left_since seen old mid → KeepsJournal may_leave seen old mid
      → (IsUnread mid new input printed result × Same) ⊎ IsInputDeployed may_leave moment left_since faults mid new
      old_list new_list printed result what d start
      input (shelf_for what library)
      → (IsRefusedBefore seen may_leave moment left_since (λ a. MayNotDeploy store input a) old new printed result × Same) ⊎
      IsDeployed may_leave moment left_since faults old new old_list new_list printed result what store input library
  ran_on old mid new first old_list new_list printed result faults store what input library d start Same later found idle starts stands images whole ends
      (inl away) = inl (
        record {
          answer = away.0.answer;
          why = unread_refused store d found input away.0.answer idle away.0.why;
          is_printed = away.0.is_printed;
          spared = subst (λ (x : D). ChangesArtifactsAlone may_leave moment left_since old x) (sym away.0.same) first;
          images = subst (λ (x : D). LeavesSame may_leave moment left_since seen old x) (sym away.0.same) images;
          whole = subst (λ (x : D). KeepsSameWhole may_leave moment left_since seen old x) (sym away.0.same) whole;
          ends = inr (λ other. subst (λ (x : D). KeepsJournal may_leave seen old x) (sym away.0.same) ends);
          reads = inl (subst (λ (x : D). KeepsJournal may_leave seen old x) (sym away.0.same) ends);
        },
        away.1,
      )
  ran_on old mid new first old_list new_list printed result faults store what input library d start Same later found idle starts stands images whole ends
      (inr trace) = inr (
        d,
        start,
        found,
        starts,
        (
          trace.0,
          trace.1,
          deployed_on old mid new first old_list new_list printed result faults later d (same_prefixes laws old mid d stands images) stands whole
              start (shelf_for what library) (AskOutcome what trace.0) trace.2,
        ),
      )

-- ---- words

some_same : {A : Type 0} (a b : A) → Some a ≡ Some b → a ≡ b
some_same a b same = cc

deploys_none : (order : Order) (what : Ask) → ask_of order ≡ Some what → DrivesNone order → ⊥
deploys_none orders.Deploy what asks none = none
deploys_none orders.Local what asks none = none
deploys_none (orders.ConfigSet name) what asks none = none
deploys_none order what asks none = absurd cc

-- words that ask this command ask none that drives no deployment
pub no_quiet : AsksOnce → (words : List (List ℕ)) (root : List ℕ) (order other : Order) → (DrivesNone other → ⊥) → IsOrder words root other →
    AsksOrder words order → ⊥
no_quiet once words root order other unbuilt is asks = unbuilt (subst DrivesNone (once words asks.root root order other asks.is_order is).1 asks.drives_none)

-- nor do words that ask to deploy something
pub no_quiet_deploy : AsksOnce → (words : List (List ℕ)) (what : Ask) (order : Order) → AsksTo words what → AsksOrder words order → ⊥
no_quiet_deploy once words what order (root, other, is, asks) quiet = no_quiet once words root order other (λ none. deploys_none other what asks none) is quiet

-- a change of a configuration leaves the library
pub unasked_by : (words : List (List ℕ)) (what : Ask) → AsksTo words what → (AsksWithLibrary words → ⊥) → (Same : Type 0)
    → ((name : List ℕ) → what ≡ ask.Change name → Same) → Same
unasked_by words ask.Document asks other Same unasked = absurd (other (inl (inl asks)))
unasked_by words ask.Local asks other Same unasked = absurd (other (inl (inr asks)))
unasked_by words (ask.Change name) asks other Same unasked = unasked name refl

-- words that ask to deploy ask one thing
pub asks_one : AsksOnce → (words : List (List ℕ)) (a b : Ask) → AsksTo words a → AsksTo words b → a ≡ b
asks_one once words a b (root, order, is, asks) (other, second, more, wants) =
    some_same a b (sym asks ∙ ap ask_of (once words root other order second is more).1 ∙ wants)

-- and none ask to resume
pub not_both : AsksOnce → (words : List (List ℕ)) (what : Ask) (other : List ℕ) → AsksTo words what → IsOrder words other orders.Resume → ⊥
not_both once words what other (root, order, is, asks) resumes =
    let none : None ≡ Some what = sym (ap ask_of (once words root other order orders.Resume is resumes).1) ∙ asks in cc

-- nor do words that ask another command ask to drive
pub no_one : AsksOnce → (words : List (List ℕ)) (root : List ℕ) (order : Order) → IsOrder words root order → ask_of order ≡ None → order ≢ orders.Resume →
    AsksToDriveOne words → ⊥
no_one once words root order is deploys resumes (inl (what, (other, second, more, asks))) =
    let none : None ≡ Some what = sym deploys ∙ ap ask_of (once words root other order second is more).1 ∙ asks in cc
no_one once words root order is deploys resumes (inr (other, drives)) = resumes (once words root other order orders.Resume is drives).1

-- words that ask to serve ask for no one deployment
pub serves_alone : AsksOnce → (words : List (List ℕ)) (turns : ℕ) → AsksToServeTurns words turns → AsksToDriveOne words → ⊥
serves_alone once words turns (root, is) drives = no_one once words root (orders.Serve turns) is refl (λ same. cc) drives

-- and they ask so for one number of turns
pub serves_once : AsksOnce → (words : List (List ℕ)) (a b : ℕ) → AsksToServeTurns words a → AsksToServeTurns words b → a ≡ b
serves_once once words a b (root, is) (other, more) =
    let same : orders.Serve a ≡ orders.Serve b = (once words root other (orders.Serve a) (orders.Serve b) is more).1 in cc

-- nor to serve
pub no_serving : AsksOnce → (words : List (List ℕ)) (root : List ℕ) (order : Order) → IsOrder words root order → ((n : ℕ) → order ≢ orders.Serve n) →
    AsksToServe words → ⊥
no_serving once words root order is serves (n, (other, drives)) = serves n (once words root other order (orders.Serve n) is drives).1

pub no_drive : AsksOnce → (words : List (List ℕ)) (root : List ℕ) (order : Order) → IsOrder words root order → ask_of order ≡ None → order ≢ orders.Resume →
    ((n : ℕ) → order ≢ orders.Serve n) → AsksToDrive words → ⊥
no_drive once words root order is deploys resumes serves (inl drives) = no_one once words root order is deploys resumes drives
no_drive once words root order is deploys resumes serves (inr drives) = no_serving once words root order is serves drives

asks_by : AsksOnce → (words : List (List ℕ)) (root : List ℕ) (order : Order) → IsOrder words root order → AreWordsFor words (asked_of order)
asks_by once words root orders.Deploy is = (root, orders.Deploy, is, refl)
asks_by once words root orders.Local is = (root, orders.Local, is, refl)
asks_by once words root (orders.ConfigSet name) is = (root, orders.ConfigSet name, is, refl)
asks_by once words root orders.Resume is = (root, is)
asks_by once words root (orders.Serve n) is = (root, is)
asks_by once words root order is = no_drive once words root order is refl (λ same. cc) (λ n same. cc)

-- what the words ask by the command that is read from them
pub asks_for : AsksOnce → (words : List (List ℕ)) (root : List ℕ) (order : Order) (a : Asked) → IsOrder words root order → a ≡ asked_of order →
    AreWordsFor words a
asks_for once words root order a is same = subst (λ (x : Asked). AreWordsFor words x) (sym same) (asks_by once words root order is)

-- Nothing is done where memory for the words is refused.
module _ (setting : Setting) (words : List (List ℕ)) (store : Store) (input : Input) (library : Shelf) (printed : Printed) (same : IsUnchanged store)
    (disk : store.faults_after ≡ store.faults_before) (source : input.faults_after ≡ input.faults_before) (shelf : library.faults_after ≡ library.faults_before)
    (sink : printed.faults_after ≡ printed.faults_before) where
  pub unread_parts : AsksOnce → HasPrinted printed [] → Parts setting words store input library printed status.Memory
  unread_parts once prints =
      parts setting words store input library printed status.Memory once NoMemory (inr (inr (refl, same)))
      (record { disk = λ other. disk; source = λ other. source })
      (λ other. shelf) (inl (refl, prints, sink))

  pub unread_drives : DriveParts store input library printed status.Memory
  unread_drives = record {
    disk = λ is. cc;
    disk_stays = λ other more. disk;
    edge = λ is. cc;
    edges_stay = λ other. (source, sink);
    library_failed = λ is. cc;
    library_stays = λ other more. shelf;
    others = λ told name apart outside. ap (λ (i : Image). i name) same;
    swept = never_closes store.is_modelled slots_entries status.Memory status.Memory store.after refl (inl refl);
  }
