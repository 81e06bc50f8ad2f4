-- What was made ready for a deployment serves it up to its close.
use Rattle.std.proofs.Common.{◌≡◌, ℕ, zero, suc, List, [], ◌∷◌, take, Option, Some, None, Bool, true, false, refl, sym, ap, subst}
use Rattle.std.specs.Prelude.{filter, option_map, slice_get, if◌then◌else◌}
use Rattle.std.specs.Option.{IfSome, IsSomeAnd}
use Rattle.records.specs.Stored.{Item, Plan, Record, Genesis, Accepted, BootBegun, BootEnded, Activating, StepFailed, Failing, FailingBack, Closed}
use Rattle.records.specs.declared.record.Origin.{Origin}
use Rattle.device.specs.Devices.{Device, Pending}
use Rattle.device.specs.Lawful.{Allowed, Lawful, MayAccept, activated, applied, begun, boot_ended, close_pending, count_failure, goes_back, on_pending}
use Rattle.device.specs.Lawful.{rolled, sent_back}
use Rattle.device.specs.Sound.{IsBacking, IsInStage, IsSound, IsUnderWay}
use Rattle.device.specs.declared.staged.Stage.{Stage}
use Rattle.device.specs.declared.staged.Stage.TheVariants as stages
use Rattle.device.proofs.Course.{counted_plan, ended_plan}
use Rattle.deploy_state.specs.States.{IsIn}
use Rattle.components.specs.Fitted.{Fitted}
use Rattle.components.specs.Made.{AreFitted}
use Rattle.components.specs.declared.kinds.Prepared.{Prepared}
use Rattle.histories.specs.Phases.{duty_in, duty_of}
use Rattle.session_boots.specs.Made.{AreBootsOf, AreMade}
use Rattle.session_admission.specs.Readied.{AreReadiedFor, IsReadied}

abbrev pends : Device → Option Pending → Device
pends d x = record d { pending = x }

-- ---- options

some_one : {A : Type 0} (P : A → Type 0) (x : Option A) → IsSomeAnd x P → (a : A) × (x ≡ Some a) × P a
some_one P None h = absurd h
some_one P (Some a) h = (a, refl, h)

some_so : {A : Type 0} (P Q : A → Type 0) (x : Option A) → ((a : A) → P a → Q a) → IsSomeAnd x P → IsSomeAnd x Q
some_so P Q None so h = h
some_so P Q (Some a) so h = so a h

if_so : {A : Type 0} (P Q : A → Type 0) (x : Option A) → ((a : A) → P a → Q a) → IfSome x P → IfSome x Q
if_so P Q None so h = tt
if_so P Q (Some a) so h = so a h

of_plan : (Q : Plan → Type 0) (x : Option Pending) → IfSome x (λ q. Q q.plan) → IfSome (option_map (λ (q : Pending). q.plan) x) Q
of_plan Q None h = tt
of_plan Q (Some q) h = h

with_plan : (Q : Plan → Type 0) (x : Option Pending) → IfSome (option_map (λ (q : Pending). q.plan) x) Q → IfSome x (λ q. Q q.plan)
with_plan Q None h = tt
with_plan Q (Some q) h = h

-- ---- what is chosen of the first elements has its places among what is chosen of all

prefix : {A : Type 0} (p : A → Bool) (xs : List A) (n k : ℕ) (x : A) → slice_get (filter p (take n xs)) k ≡ Some x → slice_get (filter p xs) k ≡ Some x
prefix p xs zero k x h = absurd (cc)
prefix p [] (suc n) k x h = absurd (cc)
prefix p (y ∷ xs) (suc n) k x h = by (p y) k (λ j more. prefix p xs n j x more) h
  where
    by : (b : Bool) (k : ℕ) → ((j : ℕ) → slice_get (filter p (take n xs)) j ≡ Some x → slice_get (filter p xs) j ≡ Some x)
        → slice_get (if b then y ∷ filter p (take n xs) else filter p (take n xs)) k ≡ Some x → slice_get (if b then y ∷ filter p xs else filter p xs) k
        ≡ Some x
    by true zero more h = h
    by true (suc k) more h = more k h
    by false k more h = more k h

module _ (boots backs : List Prepared) (items earlier : List Fitted) where
  -- for a plan, on a device of this origin and these items
  abbrev Serves : Option Origin → List Item → Plan → Type 0
  Serves origin set plan = IsSomeAnd origin (λ o. IsReadied o set plan boots backs items earlier)

  -- ---- from record to record

  -- what is made ready for a plan before it is accepted
  pub accepted_ready : (d : Device) (o : Origin) (plan : Plan) → d.origin ≡ Some o → IsReadied o d.set plan boots backs items earlier →
      AreReadiedFor (applied d (Accepted plan)) boots backs items earlier
  accepted_ready d o plan is readied = subst (λ (x : Option Origin). Serves x d.set plan) (sym is) readied

  -- for one plan, on devices of one origin and of the same items
  pub ready_on : (d e : Device) → e.origin ≡ d.origin → e.set ≡ d.set → option_map (λ (q : Pending). q.plan) e.pending ≡ option_map (λ (q : Pending). q.plan)
      d.pending
      → AreReadiedFor d boots backs items earlier → AreReadiedFor e boots backs items earlier
  ready_on d e origin set plan ready =
      let of : IfSome (option_map (λ (q : Pending). q.plan) d.pending) (Serves d.origin d.set) = of_plan (Serves d.origin d.set) d.pending ready in
      let plan_of = subst (λ (x : Option Plan). IfSome x (Serves d.origin d.set)) (sym plan) of in
      let origin_of = subst (λ (x : Option Origin). IfSome (option_map (λ (q : Pending). q.plan) e.pending) (Serves x d.set)) (sym origin) plan_of in
      let set_of = subst (λ (xs : List Item). IfSome (option_map (λ (q : Pending). q.plan) e.pending) (Serves e.origin xs)) (sym set) origin_of in
      with_plan (Serves e.origin e.set) e.pending set_of

  -- where what changes of the pending deployment is not its plan
  pub ready_kept : (f : Pending → Pending) (d : Device) → ((q : Pending) → (f q).plan ≡ q.plan) → AreReadiedFor d boots backs items earlier →
      AreReadiedFor (on_pending f d) boots backs items earlier
  ready_kept f d same ready = ready_on d (on_pending f d) refl refl (by d.pending) ready
    where
      by : (x : Option Pending) → option_map (λ (q : Pending). q.plan) (option_map f x) ≡ option_map (λ (q : Pending). q.plan) x
      by None = refl
      by (Some q) = ap Some (same q)

  of_pending : (d : Device) (q : Pending) → d.pending ≡ Some q → AreReadiedFor d boots backs items earlier → Serves d.origin d.set q.plan
  of_pending d q is ready = subst (λ (x : Option Pending). IfSome x (λ (p : Pending). Serves d.origin d.set p.plan)) is ready

  no_origin : (d : Device) (q : Pending) → d.pending ≡ Some q → d.origin ≡ None → AreReadiedFor d boots backs items earlier → ⊥
  no_origin d q is none ready = subst (λ (x : Option Origin). Serves x d.set q.plan) none (of_pending d q is ready)

  no_plan : (d : Device) (q : Pending) (p : Plan) → d.pending ≡ Some q → Allowed d (Accepted p) → ⊥
  no_plan d q p is allowed =
      let may = some_one (MayAccept d p) d.origin allowed in
      let none : d.pending ≡ None = may.2.0.0 in
      absurd (cc)

  step : (d : Device) (r : Record) (q : Pending) → d.pending ≡ Some q → Allowed d r → AreReadiedFor d boots backs items earlier →
      AreReadiedFor (applied d r) boots backs items earlier
  step d (Genesis o) q is allowed ready = absurd (no_origin d q is allowed.0 ready)
  step d (Accepted p) q is allowed ready = absurd (no_plan d q p is allowed)
  step d (BootBegun n) q is allowed ready = ready_kept begun d (λ p. refl) ready
  step d (BootEnded n e) q is allowed ready = ready_kept (boot_ended e) d (ended_plan e) ready
  step d Activating q is allowed ready = ready_kept activated d (λ p. refl) ready
  step d (StepFailed n s e) q is allowed ready = ready_kept (count_failure d.set n) d (counted_plan d.set n) ready
  step d (Failing n) q is allowed ready = ready_kept rolled d (λ p. refl) ready
  step d (FailingBack n) q is allowed ready = ready_kept (sent_back d.origin d.set) d (λ p. refl) ready
  step d (Closed o) q is allowed ready = subst (λ (x : Option Pending). AreReadiedFor (close_pending o d x) boots backs items earlier) (sym is) tt
  step d _ q is allowed ready = absurd allowed

  -- whatever record is lawful while it is pending; behind its close nothing is asked
  pub ready_after : (d e : Device) (r : Record) (q : Pending) → d.pending ≡ Some q → Lawful d r e → AreReadiedFor d boots backs items earlier →
      AreReadiedFor e boots backs items earlier
  ready_after d e r q is lawful ready = subst (λ (x : Device). AreReadiedFor x boots backs items earlier) (sym lawful.leaves)
      (step d r q is lawful.allowed ready)

  -- ---- in the stages

  -- the bootstraps of the plan
  pub boots_made : (d : Device) → AreReadiedFor d boots backs items earlier → AreMade d boots
  boots_made d ready =
      if_so (λ (q : Pending). Serves d.origin d.set q.plan) (λ (q : Pending). IsSomeAnd d.origin (λ o. AreBootsOf o q.plan.items q.plan.boots boots))
      d.pending (λ q h. each q h) ready
    where
      each : (q : Pending) → Serves d.origin d.set q.plan → IsSomeAnd d.origin (λ o. AreBootsOf o q.plan.items q.plan.boots boots)
      each q h = some_so (λ (o : Origin). IsReadied o d.set q.plan boots backs items earlier) (λ (o : Origin). AreBootsOf o q.plan.items q.plan.boots boots)
          d.origin (λ o r. r.boots) h

  backs_in : (origin : Option Origin) (set : List Item) (q : Pending) → IsBacking origin set (record q { stage = stages.Backing }) → Serves origin
      set q.plan → IsSomeAnd origin (λ o. AreBootsOf o set q.backs backs)
  backs_in None set q is h = absurd h
  backs_in (Some o) set q is h =
      subst (λ (names : List (List ℕ)). AreBootsOf o set names backs) (sym is.backs_are)
      (λ k name there. h.backs k name (prefix (goes_back o.platform set) q.plan.boots q.reach k name there))

  -- the bootstraps that run again
  pub backs_made : (d : Device) → IsSound d → IsIn stages.Backing d → AreReadiedFor d boots backs items earlier →
      IfSome d.pending (λ q. IsSomeAnd d.origin (λ o. AreBootsOf o d.set q.backs backs))
  backs_made d sound is ready = by d.pending sound.pending is ready
    where
      by : (x : Option Pending) → IfSome x (IsUnderWay d) → IsSomeAnd x (λ (q : Pending). q.stage ≡ stages.Backing) →
          IfSome x (λ (q : Pending). Serves d.origin d.set q.plan)
          → IfSome x (λ (q : Pending). IsSomeAnd d.origin (λ o. AreBootsOf o d.set q.backs backs))
      by None way stage h = tt
      by (Some q) way stage h = backs_in d.origin d.set q (subst (λ (s : Stage). IsInStage d.origin d.set (record q { stage = s })) stage way.1) h

  -- the items of the plan
  pub items_ready : (d : Device) → IsIn stages.Activating d → AreReadiedFor d boots backs items earlier → (o : Origin) × (d.origin ≡ Some o) ×
      AreFitted o (duty_of d).items items
  items_ready d is ready = by d.pending is ready
    where
      by : (x : Option Pending) → IsSomeAnd x (λ (q : Pending). q.stage ≡ stages.Activating) → IfSome x (λ (q : Pending). Serves d.origin d.set q.plan)
          → (o : Origin) × (d.origin ≡ Some o) × AreFitted o (duty_of (pends d x)).items items
      by None stage h = absurd stage
      by (Some q) stage h =
          let r = some_one (λ (o : Origin). IsReadied o d.set q.plan boots backs items earlier) d.origin h in
          let duty : (duty_in d q).items ≡ q.plan.items = ap (λ (s : Stage). (duty_in d (record q { stage = s })).items) stage in
          (r.0, r.1, subst (λ (xs : List Item). AreFitted r.0 xs items) (sym duty) r.2.items)

  -- the same, before the record with which they are to run
  pub plan_ready : (d : Device) → IsIn stages.Booting d → AreReadiedFor d boots backs items earlier → (o : Origin) × (d.origin ≡ Some o) ×
      AreFitted o (duty_of (applied d Activating)).items items
  plan_ready d is ready = items_ready (applied d Activating) (by d.pending is) (ready_kept activated d (λ p. refl) ready)
    where
      by : (x : Option Pending) → IsSomeAnd x (λ (q : Pending). q.stage ≡ stages.Booting) →
          IsSomeAnd (option_map activated x) (λ (q : Pending). q.stage ≡ stages.Activating)
      by None h = h
      by (Some q) h = refl

  -- the items of the set, which come up again
  pub earlier_ready : (d : Device) → IsIn stages.Rolling d → AreReadiedFor d boots backs items earlier → (o : Origin) × (d.origin ≡ Some o) ×
      AreFitted o (duty_of d).items earlier
  earlier_ready d is ready = by d.pending is ready
    where
      by : (x : Option Pending) → IsSomeAnd x (λ (q : Pending). q.stage ≡ stages.Rolling) → IfSome x (λ (q : Pending). Serves d.origin d.set q.plan)
          → (o : Origin) × (d.origin ≡ Some o) × AreFitted o (duty_of (pends d x)).items earlier
      by None stage h = absurd stage
      by (Some q) stage h =
          let r = some_one (λ (o : Origin). IsReadied o d.set q.plan boots backs items earlier) d.origin h in
          let duty : (duty_in d q).items ≡ d.set = ap (λ (s : Stage). (duty_in d (record q { stage = s })).items) stage in
          (r.0, r.1, subst (λ (xs : List Item). AreFitted r.0 xs earlier) (sym duty) r.2.earlier)
