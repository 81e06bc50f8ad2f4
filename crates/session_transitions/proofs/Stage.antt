-- What a device has whose stage brings items up.
use Rattle.std.proofs.Common.{◌≡◌, ℕ, zero, suc, ◌≤◌, ◌<◌, ◌==◌, List, [], ◌∷◌, map, length, get_or, Option, Some, None, Bool, true, false, refl, sym, ap}
use Rattle.std.proofs.Common.{subst, ◌∙◌, arith}
use Rattle.std.specs.Prelude.{◌||◌, IfSome, option_map}
use Rattle.std.specs.Option.{IsSomeAnd}
use Rattle.std.specs.List.{All, AllByRecursion}
use Rattle.std.proofs.lemmas.Bool.{false≢true}
use Rattle.std.proofs.lemmas.List.Elements.{All-from_recursion}
use Rattle.records.specs.Stored.{Item}
use Rattle.records.specs.declared.record.Origin.{Origin}
use Rattle.device.specs.Devices.{Device, Pending, pending_view}
use Rattle.device.specs.declared.staged.Stage.{Stage}
use Rattle.device.specs.declared.staged.Pending as code_pending
use Rattle.device.specs.Lawful.{running, no_failures}
use Rattle.device.specs.Plans.{AreItems, IsPlan, AreRising, item_name}
use Rattle.device.specs.Sound.{AreCounts, AreItemsFor, IsInStage, IsSound, IsUnderWay}
use Rattle.device.specs.declared.staged.Stage.TheVariants as stages
use Rattle.histories.specs.Phases.{Duty, duty_in, duty_of, idle}
use Rattle.histories.specs.Waits.{has_three}
use Rattle.session_startup.specs.Runs.{rises}

-- ---- counts below three

below_one : (n : ℕ) → n ≤ 3 → (n == 3) ≡ false → n < 3
below_one zero l e = omega arith
below_one (suc zero) l e = omega arith
below_one (suc (suc zero)) l e = omega arith
below_one (suc (suc (suc zero))) l e = absurd (false≢true (sym e))
below_one (suc (suc (suc (suc n)))) l e = absurd (omega (arith, l))

or_none : (a b : Bool) → (a || b) ≡ false → (a ≡ false) × (b ≡ false)
or_none true b e = absurd (false≢true (sym e))
or_none false b e = (refl, e)

below_each : (ns : List ℕ) → ((k : ℕ) → get_or ns k 0 ≤ 3) → has_three ns ≡ false → AllByRecursion (λ (n : ℕ). n < 3) ns
below_each [] each few = tt
below_each (n ∷ ns) each few =
    let both = or_none (n == 3) (has_three ns) few in
    (below_one n (each 0) both.0, below_each ns (λ k. each (suc k)) both.1)

-- ---- the stage

pub record IsStage (o : Origin) (d : Device) (q : Pending) (duty : Duty) : Type 0 where
  pub are_items : AreItems o.platform duty.items
  pub below_each : AllByRecursion (λ (n : ℕ). n < 3) q.failures
  pub items : running d.set q ≡ Some duty.items
  pub counts : duty.counts ≡ q.failures
  pub rise : AreRising (map item_name duty.items)
  pub few : length duty.items ≤ length q.failures
  pub below : All (λ (n : ℕ). n < 3) q.failures
  pub long : length q.failures ≡ 128

plan_of : (o : Origin) (x : Option Origin) (P : Origin → Type 0) → x ≡ Some o → IsSomeAnd x P → P o
plan_of o x P has h = subst (λ (y : Option Origin). IsSomeAnd y P) has h

stage_facts : (d : Device) (q : Pending) (duty : Duty) (items : List Item) (o : Origin) → running d.set q ≡ Some duty.items → duty.counts ≡ q.failures →
    duty.items ≡ items
    → AreItems o.platform items → AreCounts items q.failures → has_three duty.counts ≡ false → IsStage o d q duty
stage_facts d q duty items o runs counts same are counted few =
    let many = counted.many in
    let short = are.few in
    let below = below_each q.failures counted.each (subst (λ (l : List ℕ). has_three l ≡ false) counts few) in
    record {
      are_items = subst (λ (l : List Item). AreItems o.platform l) (sym same) are;
      below_each = below;
      items = runs;
      counts = counts;
      rise = subst (λ (l : List Item). AreRising (map item_name l)) (sym same) are.rise;
      few = subst (λ (l : List Item). length l ≤ length q.failures) (sym same) (omega (arith, many, short));
      below = All-from_recursion (λ (n : ℕ). n < 3) q.failures below;
      long = omega (arith, many);
    }

module _ (d : Device) (o : Origin) (has : d.origin ≡ Some o) (sound : IsSound d) where
  set_items : AreItems o.platform d.set
  set_items = subst (λ (x : Option Origin). AreItemsFor x d.set) has sound.set

  by_stage : (s : Stage) (q : Pending) → IsSomeAnd d.origin (λ p. IsPlan p.platform q.plan) → IsInStage d.origin d.set (record q { stage = s })
      → rises (duty_in d (record q { stage = s })).phase ≡ true → has_three (duty_in d (record q { stage = s })).counts ≡ false →
      IsStage o d (record q { stage = s }) (duty_in d (record q { stage = s }))
  by_stage stages.Booting q plan in_stage up few = absurd (false≢true up)
  by_stage stages.Activating q plan in_stage up few =
      let qs : Pending = record q { stage = stages.Activating } in
      stage_facts d qs (duty_in d qs) q.plan.items o refl refl refl (plan_of o d.origin (λ p. IsPlan p.platform q.plan) has plan).items in_stage.failures few
  by_stage stages.Backing q plan in_stage up few = absurd (false≢true up)
  by_stage stages.Rolling q plan in_stage up few =
      let qs : Pending = record q { stage = stages.Rolling } in
      stage_facts d qs (duty_in d qs) d.set o refl refl refl set_items in_stage few

  abbrev duty_by : Option Pending → Duty
  duty_by x = elim x [
    | None ↦ record { origin = d.origin; phase = idle; items = d.set; counts = no_failures; boots = []; next_bootstrap = None; begun = false }
    | Some q
        ↦ duty_in d q
  ]

  pub record HasStage (x : Option Pending) (duty : Duty) : Type 0 where
    pub pending : Pending
    pub is : x ≡ Some pending
    pub stage : IsStage o d pending duty

  by_pending : (x : Option Pending) → IfSome x (IsUnderWay d) → rises (duty_by x).phase ≡ true → has_three (duty_by x).counts ≡ false → HasStage x (duty_by x)
  by_pending None under up few = absurd (false≢true up)
  by_pending (Some q) under up few = record { pending = q; is = refl; stage = by_stage q.stage q under.0.plan_is under.1 up few }

  pub has_stage : rises (duty_of d).phase ≡ true → has_three (duty_of d).counts ≡ false → HasStage d.pending (duty_of d)
  has_stage up few = by_pending d.pending sound.pending up few

  pub stage_with : (q : Pending) → d.pending ≡ Some q → rises (duty_of d).phase ≡ true → has_three (duty_of d).counts ≡ false → IsStage o d q (duty_of d)
  stage_with q is up few =
      let h = has_stage up few in
      let both : Some h.pending ≡ Some q = sym h.is ∙ is in
      let same : h.pending ≡ q = cc in
      subst (λ (x : Pending). IsStage o d x (duty_of d)) same h.stage

pub pending_is : (o : Option code_pending.Pending) (q : code_pending.Pending) → o ≡ Some q → option_map pending_view o ≡ Some (pending_view q)
pending_is o q is = ap (option_map pending_view) is

pub long_pending : (d : Device) (q : Pending) → d.pending ≡ Some q → length q.failures ≡ 128 → IfSome d.pending (λ x. length x.failures ≡ 128)
long_pending d q is long = subst (λ (x : Option Pending). IfSome x (λ y. length y.failures ≡ 128)) (sym is) long
