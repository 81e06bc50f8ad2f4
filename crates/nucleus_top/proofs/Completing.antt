-- A deployment that nothing prevents is begun, and one in which nothing fails ends well or gets on.
use Rattle.std.proofs.Common.{◌≡◌, ◌⊎◌, ◌∙◌, inl, inr, ℕ, Bool, true, IsTrue, List, [], ◌∷◌, Option, Some, None, Result, Ok, Err, refl}
use Rattle.std.proofs.Common.{ap, arith, subst, sym}
use Rattle.std.specs.Prelude.{is_some}
use Rattle.std.specs.Option.{IsSome, IsSomeAnd}
use Rattle.disk_model.specs.Disk.{Image}
use Rattle.nuc_base.specs.Faults.{Rose}
use Rattle.nuc_base.proofs.Tables.{first_excludes}
use Rattle.nuc_base.specs.declared.kinds.Outcome.{Outcome}
use Rattle.nuc_base.specs.declared.kinds.Outcome.TheVariants as outcomes
use Rattle.nuc_base.specs.declared.status.Status.{Status}
use Rattle.nuc_base.specs.declared.status.Status.TheVariants as status
use Rattle.recipe_reader.specs.declared.candidate.Candidate.{Candidate}
use Rattle.library_core.specs.Library.{Artifacts, Content}
use Rattle.library_core.specs.declared.fault.CandidatesFault.TheVariants as gather
use Rattle.records.specs.Stored.{Accepted, Draft, Plan, Record, plan_view}
use Rattle.records.specs.declared.record.Plan as code
use Rattle.records.specs.declared.record.Origin.{Origin}
use Rattle.deployment_doc.specs.declared.document.Document.{Document}
use Rattle.artifact_store.specs.Staged.{IsOutside, draft_lines}
use Rattle.artifact_store.specs.declared.fault.StageFault.{StageFault}
use Rattle.artifact_store.specs.declared.fault.StageFault.TheVariants as stage
use Rattle.plan_core.specs.Checks.{AreCandidatesOf, Facts, Gathering, Planning, Room, RefusalOf, facts, gather_refusal, plan_checks}
use Rattle.plan_core.specs.Plans.{IsRefused, room_lines, size_lines}
use Rattle.plan_core.specs.Set.{items_of}
use Rattle.plan_core.specs.declared.fault.PlanFault.{PlanFault}
use Rattle.plan_core.specs.declared.fault.Refusal.{Refusal}
use Rattle.plan_core.specs.declared.fault.Refusal.TheVariants as refusal
use Rattle.device.specs.Devices.{Device, Pending}
use Rattle.device.specs.Lawful.{Run}
use Rattle.deploy_state.specs.Turning.{IsTooFar, plan_bytes}
use Rattle.step_runner.specs.declared.entries.RunnerEntry.{RunnerEntry}
use Rattle.checkpoint_log.specs.Slots.{slots_entries, slots_files}
use Rattle.histories.specs.Courses.{is_restart}
use Rattle.histories.specs.Once.{TakesOnce}
use Rattle.histories.specs.TraceEvents.{TraceEvent, records_of}
use Rattle.histories.specs.States.{SessionState, state_after}
use Rattle.law_histories.specs.Ends.{NoneFails, NoneRecorded}
use Rattle.law_histories.specs.Onward.{ClosedAs, ComesUp, DeploysGoOn, ResumesGoOn}
use Rattle.law_histories.specs.Stood.{IsHistory}
use Rattle.admission.specs.Requests.{AskOutcome, TakesBy}
use Rattle.admission.specs.Takes.{HasDiskFailed, HasLibraryFailed, AdmissionOutcome}
use Rattle.admission.specs.declared.ask.Ask.{Ask}
use Rattle.admission.specs.declared.ask.Ask.TheVariants as ask
use Rattle.admission.specs.declared.fault.Declined.{Declined}
use Rattle.admission.specs.declared.fault.Declined.TheVariants.{Refused, Unstaged, Unasked}
use Rattle.session.specs.Calls.{Call, IsEndingOf, IsOrEdge, IsPendingAs}
use Rattle.session.specs.Declines.{status_of_declined}
use Rattle.session.specs.Documents.{FitsFrom, TakenEnding, IsPutOff}
use Rattle.session.specs.Endings.{Ending, ByClose, ByRestart, ByReboot, ByDiskFault, BySinkFault, WantAfter, WantBefore, ByDecline, Full, Idle}
use Rattle.session.specs.Endings.{IsBegun, ResumeEnding, PendingEnding}
use Rattle.session.specs.Endings.{status_of_ending}
use Rattle.session_startup.specs.Ended.{ClosesAs}
use Rattle.nucleus_top.specs.Answers.{Input, Printed, Shelf, Store, IsPrinted, status_of, store_of}
use Rattle.nucleus_top.specs.Completeness.{AreImagesOf, DeploysComplete, EndsDriven, EndsWell, HasGotOn, IsComplete, MayAsk, MayDeploy, NoFaults, ResumesGetOn}
use Rattle.nucleus_top.specs.Drives.{IsInputDeployed, DriveParts, IsDeployedOn, IsRefusedBefore, IsResumedOn, MayNotOpen, StartsFrom}
use Rattle.nucleus_top.specs.Drives.{MayNotDeploy, shelf_for}
use Rattle.nucleus_top.specs.Opening.{IsImageOf}
use Rattle.nucleus_top.specs.Planning.{IsFound}
use Rattle.nucleus_top.specs.declared.answer.Answer.{Answer}
use Rattle.nucleus_top.specs.declared.answer.Answer.TheVariants.{Damaged, DiskFailed, NoMemory, NotInitialised, Pending as PendingStands, SourceFailed}
use Rattle.nucleus_top.proofs.Closing.{closes_as, closes_behind, pending_none}
use Rattle.nucleus_top.proofs.Origins.{are_found}

-- ---- what taking in the document answers

-- The plan fits the journal; or there was no memory.
abbrev Taken : (ℕ → ℕ) → Result code.Plan Declined → Type 0
Taken start (Ok plan) = FitsFrom start (plan_view plan)
Taken start (Err x) = status_of_declined x ≡ status.Memory

module _ (d : Device) (o : Origin) (recipes : List (List ℕ)) (l : Artifacts) (before after : ℕ) (quiet : Rose before after → ⊥) (start : ℕ → ℕ)
    (content : Content) (told : content.recipes ≡ Some recipes) (holds : content.artifacts ≡ Some l) where
  module _ (document : Document) (may : MayDeploy d o recipes l start document) (cs : List Candidate) (draft : Draft) where
    abbrev found : Facts
    found = facts d o content before after document cs draft

    -- none of the checks fails but for want of memory
    none_refused : (fault : PlanFault) → AreCandidatesOf found → IsRefused d cs document fault → ⊥
    none_refused fault are (inl first) = first_excludes (room_lines d document) fault may.room first
    none_refused fault are (inr (inl none)) = let p = may.planned cs (are.told recipes told) in none.2 p.set p.valid
    none_refused fault are (inr (inr sizes)) =
        let p = may.planned cs (are.told recipes told) in
        let choice = sizes.1.0 in
        first_excludes (size_lines (items_of d.set document.roots choice)) fault (p.sizes choice sizes.1.1) sizes.1.2

    at_planning : (a : Refusal) → AreCandidatesOf found → RefusalOf found (Planning ∷ []) a → a ≡ refusal.NoMemory
    at_planning a are (inl memory) = memory
    at_planning a are (inr (inl fails)) = absurd (none_refused fails.0 are fails.1)
    at_planning a are (inr (inr more)) = absurd more.1

    at_room : (a : Refusal) → AreCandidatesOf found → RefusalOf found (Room ∷ Planning ∷ []) a → a ≡ refusal.NoMemory
    at_room a are (inl memory) = memory
    at_room a are (inr (inl fails)) = absurd (first_excludes (room_lines d document) fails.0 may.room fails.1)
    at_room a are (inr (inr more)) = at_planning a are more.1

    at_gathering : (a : Refusal) → RefusalOf found (Gathering ∷ Room ∷ Planning ∷ []) a → a ≡ refusal.NoMemory
    at_gathering a (inl memory) = memory
    at_gathering a (inr (inl fails)) = elim (may.gathered fails.0 (fails.1.told recipes told)) [
      | inl library ↦ absurd (quiet (fails.1.cause library))
      | inr memory ↦ fails.2 ∙ ap gather_refusal memory
    ]
    at_gathering a (inr (inr more)) = at_room a more.0 more.1

    stops_short : (a : Refusal) → RefusalOf found plan_checks a → a ≡ refusal.NoMemory
    stops_short a (inl memory) = memory
    stops_short a (inr (inl fails)) = let no : None ≡ Some fails.0 = sym may.is_open ∙ fails.1 in absurd cc
    stops_short a (inr (inr (opens, (inl memory)))) = memory
    stops_short a (inr (inr (opens, (inr (inl fails))))) = absurd (fails.0 may.fresh)
    stops_short a (inr (inr (opens, (inr (inr more))))) = at_gathering a more.1

    outside_short : (f : StageFault) → IsOutside f → (f ≡ stage.Disk → ⊥) → (f ≡ stage.Library → ⊥) → status_of_declined (Unstaged f) ≡ status.Memory
    outside_short f (inl is) disk library = absurd (disk is)
    outside_short f (inr (inl is)) disk library = absurd (library is)
    outside_short f (inr (inr is)) disk library = ap (λ (x : StageFault). status_of_declined (Unstaged x)) is

    takes_in : (taken : Result code.Plan Declined) → AdmissionOutcome found taken → (HasDiskFailed taken → ⊥) → (HasLibraryFailed taken → ⊥) → Taken start taken
    takes_in (Ok plan) takes disk library =
        let passes = takes.0.1.1 in
        (may.planned cs (passes.0.told recipes told)).room draft (plan_view plan) passes.1.1.0 takes.1.fills
    takes_in (Err (Refused a)) takes disk library = ap (λ (x : Refusal). status_of_declined (Refused x)) (stops_short a takes)
    takes_in (Err (Unstaged f)) takes disk library =
        let passes = takes.0.1.1 in
        let p = may.planned cs (passes.0.told recipes told) in
        elim (takes.1 l holds) [
          | inl outside ↦ outside_short f outside disk library
          | inr first ↦ absurd (first_excludes (draft_lines l d.set draft) f (p.files draft passes.1.1.0) first)
        ]
    takes_in (Err (Unasked u)) takes disk library = absurd takes

  takes_by : (request : Device → Result Document Declined → Type 0) (may : MayAsk d o recipes l start request) (taken : Result code.Plan Declined)
      → TakesBy request d o content before after taken → (HasDiskFailed taken → ⊥) → (HasLibraryFailed taken → ⊥) → Taken start taken
  takes_by request may taken (inl memory) disk library = subst (Taken start) (sym memory) refl
  takes_by request may taken (inr (inl none)) disk library = absurd (may.comes none.0 none.1)
  takes_by request may taken (inr (inr (document, asks, sound, (cs, draft, takes)))) disk library =
      takes_in document (may.document document asks) cs draft taken takes disk library

-- ---- how the call ends

-- so a plan that was taken in is accepted, or there is no memory
abbrev Begun : Result code.Plan Declined → Ending → List Record → Type 0
Begun taken ending records = (plan : code.Plan) × (taken ≡ Ok plan) × IsBegun ending × (rest : List Record) × (records ≡ Accepted (plan_view plan) ∷ rest) ×
    TakesOnce true rest

put_off : (start : ℕ → ℕ) (plan : Plan) (ending : Ending) → (ending ≡ ByDiskFault → ⊥) → FitsFrom start plan → IsPutOff start plan ending →
    status_of_ending ending ≡ status.Memory
put_off start plan WantBefore fails fits off = refl
put_off start plan ByDiskFault fails fits off = absurd (fails refl)
put_off start plan (Full at) fails fits off = absurd (fits (subst (λ (n : ℕ). IsTooFar n (plan_bytes plan)) off.0 off.1))
put_off start plan ending fails fits off = absurd off

follows_begun : (start : ℕ → ℕ) (taken : Result code.Plan Declined) (ending : Ending) (records : List Record) → (ending ≡ ByDiskFault → ⊥)
    → Taken start taken → TakenEnding start taken ending records → (status_of_ending ending ≡ status.Memory) ⊎ Begun taken ending records
follows_begun start (Ok plan) ending records fails fits (inl off) = inl (put_off start (plan_view plan) ending fails fits off.0)
follows_begun start (Ok plan) ending records fails fits (inr on) = inr (plan, refl, on.0, on.2.0, on.2.1, on.2.2)
follows_begun start (Err x) ending records fails short (inl declines, none) = inl (ap status_of_ending declines ∙ short)
follows_begun start (Err x) ending records fails short (inr starves, none) = inl (ap status_of_ending starves)

-- it closes, however that is, or as it was to
abbrev ClosesWell : Ending → Type 0
ClosesWell ending = (o : Outcome) → ending ≡ ByClose o → o ≡ outcomes.Successful

module _ (result : Status) (edge : result ≡ status.Edge → ⊥) where
  short_of : (given : Status) → given ≡ status.Memory → IsOrEdge result given → result ≡ status.Memory
  short_of given short (inl is) = is ∙ short
  short_of given short (inr is) = absurd (edge is)

  of_outcome : (o : Outcome) → result ≡ status_of_ending (ByClose o) → EndsDriven result × (ClosesWell (ByClose o) → EndsWell result)
  of_outcome outcomes.Successful is = (inr (inr (inr (inl is))), λ well. inl is)
  of_outcome outcomes.RollbackComplete is = (
    inl is,
    λ well. let no : outcomes.RollbackComplete ≡ outcomes.Successful = well outcomes.RollbackComplete refl in absurd cc,
  )
  of_outcome outcomes.RollbackNotRequested is = (
    inr (inl is),
    λ well. let no : outcomes.RollbackNotRequested ≡ outcomes.Successful = well outcomes.RollbackNotRequested refl in absurd cc,
  )
  of_outcome outcomes.UnableToRollback is = (
    inr (inr (inl is)),
    λ well. let no : outcomes.UnableToRollback ≡ outcomes.Successful = well outcomes.UnableToRollback refl in absurd cc,
  )

  begun_ends : (ending : Ending) → IsBegun ending → (ending ≡ ByDiskFault → ⊥) → IsOrEdge result (status_of_ending ending)
      → (result ≡ status.Memory) ⊎ (EndsDriven result × (ClosesWell ending → EndsWell result))
  begun_ends ending begun fails (inr is) = absurd (edge is)
  begun_ends (ByClose o) begun fails (inl is) = inr (of_outcome o is)
  begun_ends (ByRestart id) begun fails (inl is) = inr (inr (inr (inr (inr (inl is)))), λ well. inr (inl is))
  begun_ends (ByReboot id) begun fails (inl is) = inr (inr (inr (inr (inr (inr is)))), λ well. inr (inr is))
  begun_ends ByDiskFault begun fails (inl is) = absurd (fails refl)
  begun_ends BySinkFault begun fails (inl is) = absurd (edge is)
  begun_ends WantAfter begun fails (inl is) = inl is
  begun_ends WantBefore begun fails (inl is) = absurd begun
  begun_ends (ByDecline x) begun fails (inl is) = absurd begun
  begun_ends (Full at) begun fails (inl is) = absurd begun
  begun_ends Idle begun fails (inl is) = absurd begun

-- ---- nothing fails

no_pending : (x : Option Pending) (q : Pending) → x ≡ None → x ≡ Some q → ⊥
no_pending x q none some = let no : None ≡ Some q = sym none ∙ some in cc

module _ (quiet : NoneRecorded) (law : DeploysGoOn) where
  deploy_closes : (p : SessionState) (h : List TraceEvent) (plan : Plan) (rest : List Record) (ending : Ending) → IsHistory p h
      → records_of h ≡ Accepted plan ∷ rest → TakesOnce true rest → IsEndingOf ending h (state_after p h) → NoneFails p h → ClosesWell ending
  deploy_closes p h plan rest ending is first once ends none o same =
      let closes = subst (λ (e : Ending). IsEndingOf e h (state_after p h)) same ends in
      elim (law p h plan rest is first (quiet p h is none)) [
        | inl closed ↦ closes_behind p.device (state_after p h).device plan rest o outcomes.Successful once
            (subst (λ (l : List Record). Run p.device l (state_after p h).device) first is.run)
            (subst (λ (l : List Record). ClosesAs o l) first closes.0) closed
        | inr still ↦ absurd (no_pending (state_after p h).device.pending still.new closes.1 still.pending)
      ]

some_one : (x : Option Origin) (a b : Origin) → x ≡ Some a → x ≡ Some b → a ≡ b
some_one x a b one two = let same : Some a ≡ Some b = sym one ∙ two in cc

is_some_of : (x : Option Origin) (o : Origin) → x ≡ Some o → IsSome x
is_some_of x o is = ap is_some is

pending_some : (id : List ℕ) (x : Option Pending) → IsSomeAnd x (λ q. q.plan.id ≡ id) → IsSome x
pending_some id None is = absurd is
pending_some id (Some q) is = refl

-- what is no beginning ends no call that resumes
other_begun : (ending : Ending) → IsBegun ending ⊎ (ending ≡ WantBefore) → (IsBegun ending → ⊥) → (ending ≡ WantBefore → ⊥) → ⊥
other_begun ending (inl is) begun starves = begun is
other_begun ending (inr is) begun starves = starves is

asks_restart : (result : Status) → (result ≡ status.Restart) ⊎ (result ≡ status.Reboot) → is_restart result ≡ true
asks_restart result (inl is) = ap is_restart is
asks_restart result (inr is) = ap is_restart is

-- ---- a call to deploy

module _ {D : Type 0} (is_modelled : Bool) (seen : D → Image) (may_leave : D → Image → Type 0) (moment : D → ℕ) (left_since : D → ℕ → Image → Type 0)
    (faults : D → ℕ) (old new : D) (input : Input) (library : Shelf) (printed : Printed) (result : Status)
    (parts : DriveParts (store_of is_modelled seen faults old new) input library printed result)
    (none : NoFaults (store_of is_modelled seen faults old new) input library printed) where
  abbrev store : Store
  store = store_of is_modelled seen faults old new

  never_edge : result ≡ status.Edge → ⊥
  never_edge is = elim (parts.edge is) [ inl rose ↦ none.quiet_source rose | inr rose ↦ none.quiet_sink rose ]

  shelf_quiet : (what : Ask) → Rose (shelf_for what library).faults_before (shelf_for what library).faults_after → ⊥
  shelf_quiet (ask.Change name) rose = omega (arith, rose)
  shelf_quiet ask.Document rose = none.quiet_library rose
  shelf_quiet ask.Local rose = none.quiet_library rose

  module _ (old_list new_list : Option (List RunnerEntry)) where
    deployed_complete : NoneRecorded → DeploysGoOn → (what : Ask) (d : Device) (o : Origin) (start : ℕ → ℕ) (bytes : List ℕ) (recipes : List (List ℕ)) (l : Artifacts)
        → IsDeployedOn may_leave moment left_since faults old new old_list new_list printed result d start (shelf_for what library) (AskOutcome what bytes)
        → d.origin ≡ Some o → (shelf_for what library).content.recipes ≡ Some recipes → (shelf_for what library).content.artifacts ≡ Some l
        → MayAsk d o recipes l start (AskOutcome what bytes)
        → (result ≡ status.Memory)
        ⊎ IsComplete may_leave moment left_since faults old new old_list new_list printed result d (shelf_for what library) (AskOutcome what bytes)
    deployed_complete quiet law what d o start bytes recipes l h origin told holds may =
        let shelf = shelf_for what library in
        let origin_is = some_one d.origin h.origin o h.origin_is origin in
        let call = h.call.0 in
        let records = records_of call.history in
        let taken = takes_by d h.origin recipes l shelf.faults_before shelf.faults_after (shelf_quiet what) start shelf.content told holds (AskOutcome what bytes)
        (subst (λ (x : Origin). MayAsk d x recipes l start (AskOutcome what bytes)) (sym origin_is) may)
        h.taken h.takes (λ failed. none.quiet_disk (h.disk_cause failed)) (λ failed. shelf_quiet what (h.library_cause failed)) in
        elim (follows_begun start h.taken call.ending records (λ fails. none.quiet_disk (h.failed fails)) taken h.call.1) [
          | inl short ↦ inl (short_of result never_edge (status_of_ending call.ending) short call.answers)
          | inr (plan, is, begun, rest, first, once) ↦ elim
              (begun_ends result never_edge call.ending begun (λ fails. none.quiet_disk (h.failed fails)) call.answers) [
                | inl short ↦ inl short
                | inr (driven, well) ↦ inr (record {
                  start = start;
                  deployed = h;
                  plan = plan;
                  taken = is;
                  rest = rest;
                  accepted = first;
                  ends = driven;
                  quiet = λ fails. well (deploy_closes quiet law h.state call.history (plan_view plan) rest call.ending h.driven.history first once call.ends
                      fails);
                })
              ]
        ]

    -- ---- a call to resume

    -- each image at the end stands for the device of all records, unless the disk failed
    left_stands : (p : SessionState)
        (call : Call slots_entries slots_files may_leave moment left_since old new old_list new_list printed.before printed.after p result)
        → (call.ending ≡ ByDiskFault → ⊥) → AreImagesOf (may_leave new) (state_after p call.history).device
    left_stands p call fails = call.prints.stable (call.prints.all fails)

    module _ (quiet : NoneRecorded) (law : ResumesGoOn) (d : Device) (q : Pending)
        (h : IsResumedOn may_leave moment left_since faults old new old_list new_list printed result d) (some : d.pending ≡ Some q) where
      abbrev history : List TraceEvent
      history = h.call.history

      abbrev left : Device
      left = (state_after h.state history).device

      here : h.state.device.pending ≡ Some q
      here = ap (λ (x : Device). x.pending) h.driven.device_is ∙ some

      never_fails : h.call.ending ≡ ByDiskFault → ⊥
      never_fails is = none.quiet_disk (h.failed is)

      once : TakesOnce true (records_of history)
      once = subst (λ (b : Bool). TakesOnce b (records_of history)) (ap (λ (p : SessionState). p.taken) h.driven.history.start ∙ ap is_some here) h.call.once

      resumed_closes : (o : Outcome) → result ≡ status_of_ending (ByClose o) → ComesUp q → IsEndingOf (ByClose o) history (state_after h.state history)
          → NoneFails h.state history → HasGotOn (may_leave new) d q result
      resumed_closes o is up ends fails = elim (law h.state history q h.driven.history here up (quiet h.state history h.driven.history fails)) [
        | inl closed ↦
            let well = closes_as h.state.device left q.plan (records_of history) o outcomes.Successful once h.driven.history.run ends.0 closed in
            inl (record {
              done = is ∙ ap (λ (u : Outcome). status_of_ending (ByClose u)) well;
              left = left;
              stands = left_stands h.state h.call never_fails;
              none = ends.1;
              closed = subst (λ (x : Device). ClosedAs x q.plan outcomes.Successful left) h.driven.device_is closed;
            })
        | inr still ↦ absurd (no_pending left.pending still.new ends.1 still.pending)
      ]

      resumed_restarts : (result ≡ status.Restart) ⊎ (result ≡ status.Reboot) → ComesUp q → IsSome left.pending → NoneFails h.state history
          → HasGotOn (may_leave new) d q result
      resumed_restarts asks up pends fails = elim (law h.state history q h.driven.history here up (quiet h.state history h.driven.history fails)) [
        | inl closed ↦ absurd (pending_none h.state.device left q.plan (records_of history) outcomes.Successful once h.driven.history.run pends closed)
        | inr still ↦ inr (record {
          asks = asks;
          left = left;
          stands = left_stands h.state h.call never_fails;
          next = still.new;
          pending = still.pending;
          up = still.up;
          same = still.no_less;
          one = still.restarted (h.call.end.restarts (asks_restart result asks));
        })
      ]

      resumed_on : (ending : Ending) → h.call.ending ≡ ending → ComesUp q → IsOrEdge result (status_of_ending ending) → PendingEnding (Some q) ending
          → IsEndingOf ending history (state_after h.state history)
          → (result ≡ status.Memory) ⊎ (NoneFails h.state history → HasGotOn (may_leave new) d q result)
      resumed_on ending same up (inr is) begun ends = absurd (never_edge is)
      resumed_on (ByClose o) same up (inl is) begun ends = inr (λ fails. resumed_closes o is up ends fails)
      resumed_on (ByRestart id) same up (inl is) begun ends = inr (λ fails. resumed_restarts (inl is) up (pending_some id left.pending ends.1) fails)
      resumed_on (ByReboot id) same up (inl is) begun ends = inr (λ fails. resumed_restarts (inr is) up (pending_some id left.pending ends.1) fails)
      resumed_on ByDiskFault same up (inl is) begun ends = absurd (never_fails same)
      resumed_on BySinkFault same up (inl is) begun ends = absurd (never_edge is)
      resumed_on WantAfter same up (inl is) begun ends = inl is
      resumed_on WantBefore same up (inl is) begun ends = inl is
      resumed_on (ByDecline x) same up (inl is) begun ends = absurd (other_begun (ByDecline x) begun (λ e. e) (λ e. cc))
      resumed_on (Full at) same up (inl is) begun ends = absurd (other_begun (Full at) begun (λ e. e) (λ e. cc))
      resumed_on Idle same up (inl is) begun ends = absurd (other_begun Idle begun (λ e. e) (λ e. cc))

      resumed_gets_on : ComesUp q → (result ≡ status.Memory) ⊎ (NoneFails h.state history → HasGotOn (may_leave new) d q result)
      resumed_gets_on up =
          resumed_on h.call.ending refl up h.call.answers (subst (λ (x : Option Pending). PendingEnding x h.call.ending) some h.resumes) h.call.ends

  -- ---- it is opened

  -- on a device that is found, one is refused for want of memory alone
  module _ (told : IsTrue is_modelled) (d : Device) (stands : IsImageOf (seen old) d) (some : IsSome d.origin) where
    one_device : (e : Device) → IsFound store e → e ≡ d
    one_device e found = (are_found (seen old) d stands some).one e (found told).1

    opens_short : (a : Answer) → MayNotOpen store a → a ≡ NoMemory
    opens_short DiskFailed (inl refused) = absurd (none.quiet_disk refused.1)
    opens_short DiskFailed (inr rose) = absurd (none.quiet_disk rose.1)
    opens_short NotInitialised why = absurd ((are_found (seen old) d stands some).some (why.1 told))
    opens_short (Damaged place) why = absurd ((why.1.2 told).none d stands)
    opens_short NoMemory why = refl
    opens_short a why = absurd why

    idle_refused_short : d.pending ≡ None → (a : Answer) → MayNotDeploy store input a → a ≡ NoMemory
    idle_refused_short idle (PendingStands id) why =
        absurd (subst (λ (x : Option Pending). IsSomeAnd x (λ p. p.plan.id ≡ id)) idle
        (subst (λ (x : Device). IsPendingAs id x) (one_device why.0.0 why.0.1) why.0.2))
    idle_refused_short idle SourceFailed why = absurd (none.quiet_source why.1)
    idle_refused_short idle a why = opens_short a why

    -- what is told then
    told_short : (a : Answer) → a ≡ NoMemory → IsPrinted printed result a → result ≡ status.Memory
    told_short a is (inl says) = says.0 ∙ ap status_of is
    told_short a is (inr cut) = absurd (none.quiet_sink cut.1.rose)

    refused_short : (why_so : Answer → Type 0) → ((a : Answer) → why_so a → a ≡ NoMemory)
        → IsRefusedBefore seen may_leave moment left_since why_so old new printed result → result ≡ status.Memory
    refused_short why_so short away = told_short away.answer (short away.answer away.why) away.is_printed

-- ---- the laws

module _ {D : Type 0} (is_modelled : Bool) (seen : D → Image) (may_leave : D → Image → Type 0) (moment : D → ℕ) (left_since : D → ℕ → Image → Type 0)
    (faults : D → ℕ) where
  pub deploys_complete : NoneRecorded → DeploysGoOn → DeploysComplete is_modelled seen may_leave moment left_since faults
  deploys_complete quiet law old new old_list new_list input library printed result what d o bytes recipes l (inl away) parts none told stands origin idle reads
      tells holds may =
      inl (refused_short is_modelled seen may_leave moment left_since faults old new input library printed result parts none told d stands
      (is_some_of d.origin o origin) (λ a. MayNotDeploy (store_of is_modelled seen faults old new) input a)
      (idle_refused_short is_modelled seen may_leave moment left_since faults old new input library printed result parts none told d stands
      (is_some_of d.origin o origin) idle) away)
  deploys_complete quiet law old new old_list new_list input library printed result what d o bytes recipes l (inr (e, start, found, starts, on)) parts none told
      stands origin idle reads tells holds may =
      let same = one_device is_modelled seen may_leave moment left_since faults old new input library printed result parts none told d stands
      (is_some_of d.origin o origin) e found in
      let from = subst (λ (x : Device). StartsFrom (seen old) x start) same (starts told) in
      let here = subst (λ (x : Device). IsInputDeployed may_leave moment left_since faults old new old_list new_list printed result what x start input
      (shelf_for what library)) same on in
      deployed_complete is_modelled seen may_leave moment left_since faults old new input library printed result parts none old_list new_list quiet law what d
      o start bytes recipes l
      (subst (λ (b : List ℕ). IsDeployedOn may_leave moment left_since faults old new old_list new_list printed result d start (shelf_for what library)
      (AskOutcome what b)) (here.1.whole bytes reads) here.2)
      origin tells holds (may start from)

  pub resumes_get_on : NoneRecorded → ResumesGoOn → ResumesGetOn is_modelled seen may_leave moment left_since faults
  resumes_get_on quiet law old new old_list new_list input library printed result d q (inl away) parts none told stands origin some up =
      inl (refused_short is_modelled seen may_leave moment left_since faults old new input library printed result parts none told d stands origin
      (λ a. MayNotOpen (store_of is_modelled seen faults old new) a)
      (opens_short is_modelled seen may_leave moment left_since faults old new input library printed result parts none told d stands origin) away)
  resumes_get_on quiet law old new old_list new_list input library printed result d q (inr (e, found, on)) parts none told stands origin some up =
      let same = one_device is_modelled seen may_leave moment left_since faults old new input library printed result parts none told d stands origin e found in
      let h = subst (λ (x : Device). IsResumedOn may_leave moment left_since faults old new old_list new_list printed result x) same on in
      elim (resumed_gets_on is_modelled seen may_leave moment left_since faults old new input library printed result parts none old_list new_list quiet law d q
      h some up) [
        | inl short ↦ inl short
        | inr gets ↦ inr (h, gets)
      ]
