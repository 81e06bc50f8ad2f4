-- The artifacts of the devices that a deployment goes through, on each image that a crash may leave.
use Rattle.std.specs.Prelude.{ℕ, Bool, true, false, ◌||◌, List, [], ◌∷◌, ◌++◌, Option, Some, None, IfSome, option_map, if◌then◌else◌}
use Rattle.std.specs.List.{AllByRecursion}
use Rattle.std.proofs.Common.{◌≡◌, ◌∙◌, refl, sym, ap, subst}
use Rattle.std.proofs.lemmas.Bool.{false≢true}
use Rattle.std.proofs.lemmas.List.{append-nil}
use Rattle.disk_model.specs.Disk.{Image, IsAfter, DiskLaws, HasLeft}
use Rattle.disk_model.specs.Listing.{artifacts, IsBelow}
use Rattle.disk_model.specs.Moments.{now, tells_of, weaker}
use Rattle.disk_model.specs.Spares.{IsSameBut}
use Rattle.gate_log.specs.Journal.{JournalLaws, IsChangeIn}
use Rattle.nuc_base.specs.declared.kinds.Outcome.{Outcome}
use Rattle.records.specs.Stored.{Item, Plan, Record, Accepted, BootBegun, BootEnded, Activating, StepFailed, Failing, FailingBack, Closed}
use Rattle.device.specs.Devices.{Device, Pending}
use Rattle.device.specs.Lawful.{Run, activated, applied, begun, boot_ended, close_pending, count_failure, on_pending, rolled, takes_plan, sent_back}
use Rattle.device.specs.Standing.{StandsFor}
use Rattle.device.proofs.Course.{counted_plan, ended_plan}
use Rattle.artifact_store.specs.Holding.{AllHoldDevice, AllHoldItems, HoldsDevice, HoldsItems}
use Rattle.artifact_store.specs.Paths.{IsFileAmong}
use Rattle.artifact_store.proofs.Sparing.{holds_items}
use Rattle.deploy_state.specs.Owned.{OwnsJournal}
use Rattle.step_runner.specs.declared.entries.RunnerEntry.{RunnerEntry}
use Rattle.histories.specs.TraceEvents.{TraceEvent, records_of}
use Rattle.histories.specs.Once.{TakesOnce}
use Rattle.histories.specs.States.{SessionState, state_after, takes_document}
use Rattle.session_boots.specs.Traces.{StandsForPrefix, IsTrace}
use Rattle.admission.specs.Takes.{LieElsewhere}
use Rattle.session.specs.Calls.{AllHoldBoth, ChangesArtifactsAlone, StandsWhole}

-- ---- along records

-- the image has the artifacts of a plan that the record accepts
abbrev pub HoldsAccepted : Image → Record → Type 0
HoldsAccepted image (Accepted plan) = HoldsItems image plan.items
HoldsAccepted image r = Unit {0}

abbrev pub HoldsAll : Image → List Record → Type 0
HoldsAll image records = AllByRecursion (HoldsAccepted image) records

holds_on : (f : Pending → Pending) → ((q : Pending) → (f q).plan ≡ q.plan) → (image : Image) (d : Device) → HoldsDevice image d →
    HoldsDevice image (on_pending f d)
holds_on f same image d h = record { set = h.set; pending = by d.pending h.pending }
  where
    by : (o : Option Pending) → IfSome o (λ q. HoldsItems image q.plan.items) → IfSome (option_map f o) (λ q. HoldsItems image q.plan.items)
    by None holds = tt
    by (Some q) holds = subst (λ (p : Plan). HoldsItems image p.items) (sym (same q)) holds

holds_closed : (image : Image) (d : Device) (o : Outcome) (p : Option Pending) → d.pending ≡ p → HoldsDevice image d → HoldsDevice image (close_pending o d p)
holds_closed image d o None is h = h
holds_closed image d o (Some q) is h = record { set = by (takes_plan o); pending = tt }
  where
    by : (b : Bool) → HoldsItems image (if b then q.plan.items else d.set)
    by true = subst (λ (x : Option Pending). IfSome x (λ q. HoldsItems image q.plan.items)) is h.pending
    by false = h.set

holds_applied : (image : Image) (d : Device) (r : Record) → HoldsDevice image d → HoldsAccepted image r → HoldsDevice image (applied d r)
holds_applied image d (Accepted plan) h holds = record { set = h.set; pending = holds }
holds_applied image d (BootBegun n) h holds = holds_on begun (λ q. refl) image d h
holds_applied image d (BootEnded n e) h holds = holds_on (boot_ended e) (ended_plan e) image d h
holds_applied image d Activating h holds = holds_on activated (λ q. refl) image d h
holds_applied image d (StepFailed n s e) h holds = holds_on (count_failure d.set n) (counted_plan d.set n) image d h
holds_applied image d (Failing n) h holds = holds_on rolled (λ q. refl) image d h
holds_applied image d (FailingBack n) h holds = holds_on (sent_back d.origin d.set) (λ q. refl) image d h
holds_applied image d (Closed o) h holds = holds_closed image d o d.pending refl h
holds_applied image d _ h holds = record { set = h.set; pending = h.pending }

holds_run : (image : Image) (records : List Record) (d e : Device) → Run d records e → HoldsDevice image d → HoldsAll image records → HoldsDevice image e
holds_run image [] d e run h holds = subst (λ (x : Device). HoldsDevice image x) (sym run) h
holds_run image (r ∷ records) d e run h holds =
    holds_run image records run.0 e run.2 (subst (λ (x : Device). HoldsDevice image x) (sym run.1.leaves) (holds_applied image d r h holds.0)) holds.1

holds_prefix : (image : Image) (prefix rest records : List Record) → records ≡ prefix ++ rest → HoldsAll image records → HoldsAll image prefix
holds_prefix image prefix rest records split holds = by prefix (subst (λ (l : List Record). HoldsAll image l) split holds)
  where
    by : (prefix : List Record) → HoldsAll image (prefix ++ rest) → HoldsAll image prefix
    by [] holds = tt
    by (r ∷ prefix) holds = (holds.0, by prefix holds.1)

-- records of which none accepts a plan
holds_none : (image : Image) (records : List Record) → TakesOnce true records → HoldsAll image records
holds_none image [] once = tt
holds_none image (r ∷ records) once = (one r (takes_document r) refl once.0, holds_none image records once.1)
  where
    one : (r : Record) (b : Bool) → takes_document r ≡ b → (takes_document r ≡ true → true ≡ false) → HoldsAccepted image r
    one (Accepted plan) b is none = absurd (false≢true (sym (none refl)))
    one _ b is none = tt

-- the first of them alone does
holds_first : (image : Image) (plan : Plan) (rest : List Record) → HoldsItems image plan.items → TakesOnce true rest → HoldsAll image (Accepted plan ∷ rest)
holds_first image plan rest holds once = (holds, holds_none image rest once)

-- ---- on images

-- the journal does not lie among the files of artifacts
module _ (files : List ℕ → Type 0) (apart : LieElsewhere files) (a c : Image) (same : (name : List ℕ) → ¬ (files name) → c name ≡ a name) where
  items_stay : (items : List Item) → HoldsItems a items → HoldsItems c items
  items_stay items holds = holds_items items a c (λ file among. same file (λ of. apart file of (_, among.2.2))) holds

  device_stays : (d : Device) → HoldsDevice a d → HoldsDevice c d
  device_stays d h = record { set = items_stay d.set h.set; pending = by d.pending h.pending }
    where
      by : (o : Option Pending) → IfSome o (λ q. HoldsItems a q.plan.items) → IfSome o (λ q. HoldsItems c q.plan.items)
      by None holds = tt
      by (Some q) holds = items_stay q.plan.items holds

  accepted_stays : (r : Record) → HoldsAccepted a r → HoldsAccepted c r
  accepted_stays (Accepted plan) holds = items_stay plan.items holds
  accepted_stays _ holds = tt

  all_stay : (records : List Record) → HoldsAll a records → HoldsAll c records
  all_stay [] holds = tt
  all_stay (r ∷ records) holds = (accepted_stays r holds.0, all_stay records holds.1)

-- so it is before the records, with what they need
pub record HoldsBefore (image : Image) (d : Device) (records : List Record) : Type 0 where
  pub device : HoldsDevice image d
  pub plans : HoldsAll image records

pub all_before : (images : Image → Type 0) (d : Device) (plan : Plan) (records rest : List Record) → records ≡ Accepted plan ∷ rest → TakesOnce true rest →
    AllHoldBoth images d plan.items → (c : Image) → images c → HoldsBefore c d records
all_before images d plan records rest is once holds c left =
    let both = holds c left in
    record { device = both.0; plans = subst (λ (l : List Record). HoldsAll c l) (sym is) (holds_first c plan rest both.1 once) }

pub none_before : (images : Image → Type 0) (d : Device) (records : List Record) → TakesOnce true records → AllHoldDevice images d → (c : Image) → images c →
    HoldsBefore c d records
none_before images d records once holds c left = record { device = holds c left; plans = holds_none c records once }

-- two things that hold at each moment
pub both_leave : {D : Type 0} {moment : D → ℕ} {left_since : D → ℕ → Image → Type 0} (old new : D) (P Q : Image → Type 0) →
    HasLeft moment left_since old new P → HasLeft moment left_since old new Q
    → HasLeft moment left_since old new (λ c. P c × Q c)
both_leave old new P Q one two = record { later = one.later; each = λ c left. (one.each c left, two.each c left); joins = one.joins; keeps = one.keeps }

module _ {D : Type 0} {is_modelled : Bool} {seen : D → Image} {may_leave : D → Image → Type 0} {moment : D → ℕ} {left_since : D → ℕ → Image → Type 0}
    (laws : DiskLaws is_modelled seen may_leave moment left_since)
    (files : List ℕ → Type 0) (entries : Image → List (List ℕ) → Type 0) (apart : LieElsewhere files) where
  -- while the records are kept
  pub went_whole : (old new : D) (a b : Option (List RunnerEntry)) (p : SessionState) (h : List TraceEvent) →
      IsTrace entries files may_leave moment left_since old new a b p h
      → ((c : Image) → may_leave old c → HoldsBefore c p.device (records_of h)) →
      HasLeft moment left_since old new (StandsWhole entries p.device (records_of h))
  went_whole old new a b p h trace holds =
      weaker laws old new (IsAfter (may_leave old) (IsChangeIn files (StandsForPrefix entries p.device (records_of h))))
      (StandsWhole entries p.device (records_of h)) one trace.course
    where
      one : (c : Image) → IsAfter (may_leave old) (IsChangeIn files (StandsForPrefix entries p.device (records_of h))) c →
          StandsWhole entries p.device (records_of h) c
      one c was =
          let f = was.2.here in
          let before = holds was.0 was.1 in
          let device = device_stays files apart was.0 c was.2.others p.device before.device in
          let plans = all_stay files apart was.0 c was.2.others (records_of h) before.plans in
          (f, holds_run c f.prefix p.device f.device f.run device (holds_prefix c f.prefix f.rest (records_of h) f.split plans))

  -- and then
  pub went_holds : (old new : D) (a b : Option (List RunnerEntry)) (p : SessionState) (h : List TraceEvent) →
      IsTrace entries files may_leave moment left_since old new a b p h
      → ((c : Image) → may_leave old c → HoldsBefore c p.device (records_of h)) → AllHoldDevice (may_leave new) (state_after p h).device
  went_holds old new a b p h trace holds c left =
      let was = now laws old new (IsAfter (may_leave old) (IsChangeIn files (StandsForPrefix entries p.device (records_of h)))) trace.course c left in
      let before = holds was.0 was.1 in
      holds_run c (records_of h) p.device (state_after p h).device trace.run (device_stays files apart was.0 c was.2.others p.device before.device)
      (all_stay files apart was.0 c was.2.others (records_of h) before.plans)

  -- while files of artifacts alone change, with the device of a prefix of the records in hand
  module _ {J : Type 0} {holds_none : Image → Type 0} {is_damaged : Image → ℕ → Type 0} {stands : J → Image → List (List ℕ) → Type 0} {end : J → ℕ}
      (journal : JournalLaws files entries holds_none is_damaged stands end) where
    pub spared_whole : (log : J) (old new : D) (d e : Device) (records prefix rest : List Record) → OwnsJournal is_modelled may_leave stands end log old e →
        records ≡ prefix ++ rest → Run d prefix e
        → ChangesArtifactsAlone may_leave moment left_since old new → HasLeft moment left_since old new (λ c. HoldsDevice c e) →
        HasLeft moment left_since old new (StandsWhole entries d records)
    spared_whole log old new d e records prefix rest hand split run spared safe =
        weaker laws old new (λ c. IsAfter (may_leave old) (IsSameBut (IsBelow artifacts)) c × HoldsDevice c e) (StandsWhole entries d records) one
        (both_leave old new (IsAfter (may_leave old) (IsSameBut (IsBelow artifacts))) (λ c. HoldsDevice c e) spared safe)
      where
        one : (c : Image) → IsAfter (may_leave old) (IsSameBut (IsBelow artifacts)) c × HoldsDevice c e → StandsWhole entries d records c
        one c both =
            let was = both.0 in
            let means = hand.means (tells_of laws old was.0 was.1) in
            let on = journal.depends log was.0 c hand.payloads (λ name is. was.2 name (apart name is)) (hand.behind.each was.0 was.1) in (
              record {
                prefix = prefix;
                rest = rest;
                split = split;
                device = e;
                run = run;
                stands = record { payloads = hand.payloads; live = journal.holds log c hand.payloads on; means = means.0; room = means.1 };
              },
              both.1,
            )

    -- while the files of a document are taken in
    pub taken_whole : (log : J) (old new : D) (d : Device) (p : SessionState) → p.device ≡ d → OwnsJournal is_modelled may_leave stands end log old d →
        ChangesArtifactsAlone may_leave moment left_since old new
        → (AllHoldDevice (may_leave old) d → HasLeft moment left_since old new (λ c. HoldsDevice c d)) → AllHoldDevice (may_leave old) p.device →
        (records : List Record)
        → HasLeft moment left_since old new (StandsWhole entries p.device records)
    taken_whole log old new d p same hand spared safe holds records =
        spared_whole log old new p.device d records [] records hand refl (sym same) spared
        (safe (subst (λ (e : Device). AllHoldDevice (may_leave old) e) same holds))

-- and then
pub taken_both : {D : Type 0} {is_modelled : Bool} {seen : D → Image} {may_leave : D → Image → Type 0} {moment : D → ℕ} {left_since : D → ℕ → Image → Type 0}
    → DiskLaws is_modelled seen may_leave moment left_since
    → (old new : D) (d : Device) (p : SessionState) (items : List Item) → p.device ≡ d →
    (AllHoldDevice (may_leave old) d → HasLeft moment left_since old new (λ c. HoldsDevice c d))
    → (AllHoldDevice (may_leave old) d → AllHoldItems (may_leave new) items) → AllHoldDevice (may_leave old) p.device →
    AllHoldBoth (may_leave new) p.device items
taken_both {may_leave} {moment} {left_since} laws old new d p items same safe files holds =
    let there = subst (λ (e : Device). AllHoldDevice (may_leave old) e) same holds in
    λ c left. (subst (λ (e : Device). HoldsDevice c e) (sym same) (now laws old new (λ i. HoldsDevice i d) (safe there) c left), files there c left)
