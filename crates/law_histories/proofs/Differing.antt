-- The bootstraps of a stage differ by name.
use Rattle.std.proofs.Common.{◌≡◌, ℕ, zero, suc, Bool, true, false, List, [], ◌∷◌, Option, Some, None, sym, subst}
use Rattle.std.specs.Prelude.{cond, filter, take}
use Rattle.std.specs.List.{AllByRecursion, IsDistinct}
use Rattle.std.specs.Option.{IfSome, IsSomeAnd}
use Rattle.std.specs.Str.{bytes_eq}
use Rattle.records.specs.declared.record.Origin.{Origin}
use Rattle.records.specs.Stored.{Item, Plan}
use Rattle.device.specs.declared.staged.Stage.{Stage}
use Rattle.device.specs.declared.staged.Stage.TheVariants as stages
use Rattle.device.specs.Devices.{Device, Pending}
use Rattle.device.specs.Lawful.{backs, boots_of, goes_back}
use Rattle.device.specs.Plans.{IsPlan}
use Rattle.device.specs.Sound.{IsInStage, IsUnderWay}
use Rattle.device.proofs.Sounding.{run_sound}
use Rattle.histories.specs.TraceEvents.{records_of}
use Rattle.histories.specs.States.{state_after}
use Rattle.law_histories.specs.Starts.{BootsDiffer}

module _ {A : Type 0} where
  taken_all : (P : A → Type 0) (k : ℕ) (xs : List A) → AllByRecursion P xs → AllByRecursion P (take k xs)
  taken_all P zero xs all = tt
  taken_all P (suc k) [] all = tt
  taken_all P (suc k) (x ∷ xs) all = (all.0, taken_all P k xs all.1)

  taken_differ : (same : A → A → Bool) (k : ℕ) (xs : List A) → IsDistinct same xs → IsDistinct same (take k xs)
  unfolding IsDistinct
  taken_differ same zero xs differ = tt
  taken_differ same (suc k) [] differ = tt
  taken_differ same (suc k) (x ∷ xs) differ = (taken_all (λ y. same x y ≡ false) k xs differ.0, taken_differ same k xs differ.1)

  chosen_all : (P : A → Type 0) (test : A → Bool) (xs : List A) → AllByRecursion P xs → AllByRecursion P (filter test xs)
  chosen_all P test [] all = tt
  chosen_all P test (x ∷ xs) all = elim (test x) as (λ (b : Bool). AllByRecursion P (cond b (x ∷ filter test xs) (filter test xs))) [
    | true
        ↦ (all.0, chosen_all P test xs all.1)
    | false ↦ chosen_all P test xs all.1
  ]

  chosen_differ : (same : A → A → Bool) (test : A → Bool) (xs : List A) → IsDistinct same xs → IsDistinct same (filter test xs)
  unfolding IsDistinct
  chosen_differ same test [] differ = tt
  chosen_differ same test (x ∷ xs) differ = elim (test x) as (λ (b : Bool). IsDistinct same (cond b (x ∷ filter test xs) (filter test xs))) [
    | true ↦ (chosen_all (λ y. same x y ≡ false) test xs differ.0, chosen_differ same test xs differ.1)
    | false ↦ chosen_differ same test xs differ.1
  ]

none_differ : IsDistinct bytes_eq []
unfolding IsDistinct
none_differ = tt

plan_differ : (o : Option Origin) (p : Plan) → IsSomeAnd o (λ o. IsPlan o.platform p) → IsDistinct bytes_eq p.boots
plan_differ None p is = absurd is
plan_differ (Some o) p is = is.boots.differ

backs_differ : (o : Option Origin) (set : List Item) (p : Plan) (reach : ℕ) → IsDistinct bytes_eq p.boots → IsDistinct bytes_eq (backs o set p reach)
backs_differ None set p reach differ = none_differ
backs_differ (Some o) set p reach differ = chosen_differ bytes_eq (goes_back o.platform set) (take reach p.boots) (taken_differ bytes_eq reach p.boots differ)

stage_differ : (origin : Option Origin) (set : List Item) (s : Stage) (q : Pending) → IsDistinct bytes_eq q.plan.boots → IsInStage origin
    set (record q { stage = s }) → IsDistinct bytes_eq (boots_of (record q { stage = s }))
stage_differ origin set stages.Booting q differ is = differ
stage_differ origin set stages.Activating q differ is = none_differ
stage_differ origin set stages.Backing q differ is = subst (λ (l : List (List ℕ)). IsDistinct bytes_eq l) (sym is.backs_are)
    (backs_differ origin set q.plan q.reach differ)
stage_differ origin set stages.Rolling q differ is = none_differ

under_way : (d : Device) (o : Option Pending) → IfSome o (IsUnderWay d) → IfSome o (λ q. IsDistinct bytes_eq (boots_of q))
under_way d None is = tt
under_way d (Some q) is = stage_differ d.origin d.set q.stage q (plan_differ d.origin q.plan is.0.plan_is) is.1

pub boots_differ : BootsDiffer
boots_differ p h is sound =
    let left = run_sound (records_of h) p.device (state_after p h).device sound is.run in
    under_way (state_after p h).device (state_after p h).device.pending left.pending
