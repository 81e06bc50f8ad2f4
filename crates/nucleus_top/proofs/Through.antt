-- What the deployments of a workload go through.
use Rattle.std.proofs.Common.{◌≡◌, ◌≢◌, ◌∙◌, ◌⊎◌, ◌≤◌, ⊎_elim, inl, inr, ℕ, Bool, IsTrue, false, true, List, [], ◌∷◌, ◌++◌, length, Option, Some, None, refl}
use Rattle.std.proofs.Common.{sym, ap, subst}
use Rattle.std.proofs.Common.{append_assoc, append-nil, arith}
use Rattle.std.proofs.lemmas.Bool.{false≢true}
use Rattle.std.specs.Option.{IsSome, IsSomeAnd}
use Rattle.disk_model.specs.Disk.{DiskLaws, Image}
use Rattle.nuc_base.specs.declared.status.Status.{Status}
use Rattle.nuc_base.specs.declared.status.Status.TheVariants as status
use Rattle.nuc_base.specs.declared.kinds.Outcome.{Outcome}
use Rattle.records.specs.Stored.{Record, Genesis, Closed}
use Rattle.device.specs.Devices.{Device, Pending as PendingPlan}
use Rattle.device.specs.Lawful.{Run, applied, close_pending}
use Rattle.library_core.specs.Library.{Content}
use Rattle.histories.specs.TraceEvents.{records_of}
use Rattle.histories.specs.States.{state_after}
use Rattle.step_runner.specs.declared.entries.RunnerEntry.{RunnerEntry}
use Rattle.admission.specs.Requests.{AskOutcome, TakesBy}
use Rattle.admission.specs.declared.ask.Ask.TheVariants as ask
use Rattle.session.specs.Calls.{IsOrEdge}
use Rattle.session.specs.Endings.{Ending, ByDiskFault, status_of_ending}
use Rattle.workload.specs.Answers.{is_want}
use Rattle.nucleus_top.specs.Answers.{Input, Printed, Shelf, Store, IsPrinted, status_of, store_of}
use Rattle.nucleus_top.specs.Crashes.{KeepsJournalOrFiles}
use Rattle.nucleus_top.specs.Drives.{IsDeployed, IsDeployedOn, IsRefusedBefore, MayNotDeploy}
use Rattle.nucleus_top.specs.Opening.{IsImageOf}
use Rattle.nucleus_top.specs.Workloads.{DeviceAfterOne, DeviceAfterAll, IsBegunAs, IsDeployment}
use Rattle.nucleus_top.specs.declared.answer.Answer.{Answer}
use Rattle.nucleus_top.specs.declared.answer.Answer.TheVariants.{DiskFailed, SourceFailed, NotInitialised, Damaged, Pending, NoMemory}
use Rattle.nucleus_top.proofs.Origins.{has_entry}
use Rattle.nucleus_top.proofs.Standing.{same_device}

-- ---- a device that was begun stays so

closed_begun : (o : Outcome) (d : Device) (q : Option PendingPlan) → IsSome d.origin → IsSome (close_pending o d q).origin
closed_begun o d None some = some
closed_begun o d (Some q) some = some

applied_begun : (d : Device) (r : Record) → IsSome d.origin → IsSome (applied d r).origin
applied_begun d (Genesis o) some = refl
applied_begun d (Closed o) some = closed_begun o d d.pending some
applied_begun d r some = some

pub run_begun : (records : List Record) (d e : Device) → Run d records e → IsSome d.origin → IsSome e.origin
run_begun [] d e run some = subst (λ (x : Device). IsSome x.origin) (sym run) some
run_begun (r ∷ records) d e run some =
    run_begun records run.0 e run.2 (subst (λ (x : Device). IsSome x.origin) (sym run.1.leaves) (applied_begun d r some))

-- ---- a call that ends for no want of memory

no_want_of : (result s : Status) → IsOrEdge result s → is_want result ≡ false → is_want s ≡ false
no_want_of result s (inl is) other = ap is_want (sym is) ∙ other
no_want_of result s (inr edge) other = absurd (false≢true (sym other ∙ ap is_want edge))

no_failure : (e : Ending) → is_want (status_of_ending e) ≡ false → e ≢ ByDiskFault
no_failure e other is = false≢true (sym other ∙ ap (λ (x : Ending). is_want (status_of_ending x)) is)

is_some : {A : Type 0} (x : Option A) (P : A → Type 0) → IsSomeAnd x P → x ≢ None
is_some None P is none = absurd is
is_some (Some q) P is none = cc

module _ {D : Type 0} {is_modelled : Bool} {seen : D → Image} {may_leave : D → Image → Type 0} {moment : D → ℕ} {left_since : D → ℕ → Image → Type 0}
    (laws : DiskLaws is_modelled seen may_leave moment left_since) (told : IsTrue is_modelled) (faults : D → ℕ) (old new : D)
    (old_list new_list : Option (List RunnerEntry)) (printed : Printed) (result : Status) (no_want : is_want result ≡ false) (content : Content)
    (document : List ℕ) (d : Device) (begun : IsBegunAs (seen old) d) where
  abbrev store : Store
  store = store_of is_modelled seen faults old new

  -- it is driven
  deployed : (start : ℕ → ℕ) (library : Shelf) → library.content ≡ content → library.faults_after ≡ library.faults_before
      → IsDeployedOn may_leave moment left_since faults old new old_list new_list printed result d start library (AskOutcome ask.Document document)
      → (e : Device) × IsBegunAs (seen new) e × DeviceAfterOne content document d e
  deployed start library holds stays h =
      let c = h.call.0 in
      let other = no_want_of result (status_of_ending c.ending) c.answers no_want in
      let e = (state_after h.state c.history).device in
      let run : Run d (records_of c.history) e = subst (λ (x : Device). Run x (records_of c.history) e) h.driven.device_is h.driven.history.run in (
        e,
        (c.prints.stable (c.prints.all (no_failure c.ending other)) (seen new) (laws.reads new told), run_begun (records_of c.history) d e run begun.1),
        inl (record {
          idle = h.idle;
          origin = h.origin;
          origin_is = h.origin_is;
          taken = h.taken;
          count = library.faults_before;
          takes = subst (λ (n : ℕ). TakesBy (AskOutcome ask.Document document) d h.origin content library.faults_before n h.taken) stays
              (subst (λ (x : Content). TakesBy (AskOutcome ask.Document document) d h.origin x library.faults_before library.faults_after h.taken)
              holds h.takes);
          state = h.state;
          serves = h.serves;
          device_is = h.driven.device_is;
          history = c.history;
          is_history = h.driven.history;
          start = start;
          ending = c.ending;
          follows = h.call.1;
          ends = c.ends;
          no_want = other;
          leaves = refl;
        }),
      )

  -- it is refused, as another is pending
  is_pending : (input : Input) (a : Answer) → MayNotDeploy store input a → result ≡ status_of a → d.pending ≢ None
  is_pending input (Pending id) why is =
      let e = why.0.0 in
      subst (λ (x : Device). x.pending ≢ None) (same_device (seen old) e d (why.0.1 told).1 begun.0) (is_some e.pending (λ q. q.plan.id ≡ id) why.0.2)
  is_pending input NotInitialised why is = absurd (has_entry (seen old) d begun.0 begun.1 (why.1 told))
  is_pending input (Damaged place) why is = absurd ((why.1.2 told).none d begun.0)
  is_pending input DiskFailed why is = absurd (false≢true (sym no_want ∙ ap is_want is))
  is_pending input SourceFailed why is = absurd (false≢true (sym no_want ∙ ap is_want is))
  is_pending input NoMemory why is = absurd (false≢true (sym no_want ∙ ap is_want is))
  is_pending input a why is = absurd why

  told_pending : (input : Input) (a : Answer) → MayNotDeploy store input a → IsPrinted printed result a → d.pending ≢ None
  told_pending input a why (inl is) = is_pending input a why is.0
  told_pending input a why (inr cut) = absurd (false≢true (sym no_want ∙ ap is_want cut.0))

  stands_on : KeepsJournalOrFiles may_leave seen old new → IsImageOf (seen new) d
  stands_on (inl keeps) = (keeps (seen new) (laws.reads new told)).device d begun.0
  stands_on (inr same) = subst (λ (image : Image). IsImageOf image d) (sym same) begun.0

  refused : (input : Input) → IsRefusedBefore seen may_leave moment left_since (λ a. MayNotDeploy store input a) old new printed result
      → (e : Device) × IsBegunAs (seen new) e × DeviceAfterOne content document d e
  refused input h = (d, (stands_on h.reads, begun.1), inr (told_pending input h.answer h.why h.is_printed, refl))

  found : (input : Input) (library : Shelf) → input.document ≡ Some document → library.content ≡ content
      → library.faults_after ≡ library.faults_before
      → IsDeployed may_leave moment left_since faults old new old_list new_list printed result ask.Document store input library
      → (e : Device) × IsBegunAs (seen new) e × DeviceAfterOne content document d e
  found input library has holds stays h =
      let on = h.4 in
      let same : h.0 ≡ d = same_device (seen old) h.0 d (h.2 told).1 begun.0 in
      let bytes : on.0 ≡ document = on.1.whole document has in
      deployed h.1 library holds stays
      (subst (λ (x : Device). IsDeployedOn may_leave moment left_since faults old new old_list new_list printed result
      x h.1 library (AskOutcome ask.Document document)) same
      (subst (λ (b : List ℕ). IsDeployedOn may_leave moment left_since faults old new old_list new_list printed result
      h.0 h.1 library (AskOutcome ask.Document b)) bytes
      on.2))

  -- its library failed nothing, since it would answer that
  stood_still : (library : Shelf) → (result ≢ status.Library → result ≢ status.Edge → library.faults_after ≡ library.faults_before)
      → library.faults_after ≡ library.faults_before
  stood_still library stays = stays (λ is. false≢true (sym no_want ∙ ap is_want is)) (λ is. false≢true (sym no_want ∙ ap is_want is))

  pub gone_through : (runner : Type 0) (input : Input) (library : Shelf) → input.document ≡ Some document → library.content ≡ content
      → (result ≢ status.Library → result ≢ status.Edge → library.faults_after ≡ library.faults_before)
      → (IsRefusedBefore seen may_leave moment left_since (λ a. MayNotDeploy store input a) old new printed result × runner)
      ⊎ IsDeployed may_leave moment left_since faults old new old_list new_list printed result ask.Document store input library
      → (e : Device) × IsBegunAs (seen new) e × DeviceAfterOne content document d e
  gone_through runner input library has holds stays ran =
      ⊎_elim (λ away. refused input away.0) (λ went. found input library has holds (stood_still library stays) went) ran

-- ---- one after another

through_more : (content : Content) (documents : List (List ℕ)) (document : List ℕ) (d e f : Device) → DeviceAfterAll content documents d e
    → DeviceAfterOne content document e f → DeviceAfterAll content (documents ++ document ∷ []) d f
through_more content [] document d e f before last = (f, subst (λ (x : Device). DeviceAfterOne content document x f) before last, refl)
through_more content (x ∷ documents) document d e f before last =
    (before.0, before.1, through_more content documents document before.0 e f before.2 last)

-- from any device for which the journal stood, to one for which it stands
abbrev pub Goes : Content → List (List ℕ) → Image → Image → Type 0
Goes content documents old new = (d : Device) → IsBegunAs old d → (e : Device) × IsBegunAs new e × DeviceAfterAll content documents d e

pub goes_none : (content : Content) (image : Image) → Goes content [] image image
goes_none content image d begun = (d, begun, refl)

pub goes_more : (content : Content) (documents : List (List ℕ)) (document : List ℕ) (old mid new : Image) → Goes content documents old mid
    → ((d : Device) → IsBegunAs mid d → (e : Device) × IsBegunAs new e × DeviceAfterOne content document d e)
    → Goes content (documents ++ document ∷ []) old new
goes_more content documents document old mid new before last d begun =
    let m = before d begun in
    let e = last m.0 m.1 in
    (e.0, e.1, through_more content documents document d m.0 e.0 m.2 e.2)

-- ---- what a loop has yielded

pub none_left : {X : Type 0} (xs : List X) → length xs ≡ 0 → xs ≡ []
none_left [] none = refl
none_left (x ∷ xs) none = absurd (omega (arith, none))

pub yielded_more : {X : Type 0} (done left rest all : List X) (x : X) → left ≡ x ∷ rest → done ++ left ≡ all → (done ++ x ∷ []) ++ rest ≡ all
yielded_more done left rest all x is so_far = append_assoc done (x ∷ []) rest ∙ ap (λ l. done ++ l) (sym is) ∙ so_far

pub yielded_all : {X : Type 0} (done left all : List X) → left ≡ [] → done ++ left ≡ all → done ≡ all
yielded_all done left all none so_far = sym (append-nil done) ∙ ap (λ l. done ++ l) (sym none) ∙ so_far
