-- Whether an item of the stage failed three times: by its name, and by the counts.
use Rattle.std.specs.Prelude.{ℕ, ◌==◌, nat_eq, nat_lt, length, map, get_or, slice_get, Bool, true, false, not, List, [], ◌∷◌, Option, Some, None, is_some}
use Rattle.std.specs.Prelude.{option_and_then, option_map, position, if◌then◌else◌}
use Rattle.std.specs.List.{position_or_len}
use Rattle.std.specs.Option.{IfSome, IsSomeAnd}
use Rattle.std.proofs.Common.{◌≡◌, ◌<◌, ◌⊎◌, ◌∙◌, inl, inr, refl, sym, ap, subst, arith}
use Rattle.std.proofs.lemmas.Bool.{eqb-true}
use Rattle.std.proofs.lemmas.Bool.Decides.{nat_tests}
use Rattle.std.proofs.lemmas.List.{length-map}
use Rattle.std.proofs.lemmas.List.Quantifiers.{position-Some}
use Rattle.std.proofs.lemmas.Option.{slice_get-get_or}
use Rattle.records.specs.Stored as stored
use Rattle.records.specs.Stored.{Item}
use Rattle.device.specs.Devices.{Device, Pending}
use Rattle.device.specs.Lawful.{applied}
use Rattle.device.specs.Sound.{AreCounts, IsInStage, IsSound, IsUnderWay}
use Rattle.device.specs.declared.staged.Stage.{Stage}
use Rattle.device.specs.declared.staged.Stage.TheVariants as stages
use Rattle.deploy_state.specs.Fields.{broken_among, broken_item}
use Rattle.deploy_state.specs.States.{IsIn}
use Rattle.histories.specs.Phases.{duty_in, duty_of}
use Rattle.histories.specs.Waits.{has_three}

abbrev pends : Device → Option Pending → Device
pends d o = record d { pending = o }

-- ---- the first place with three failures

place_is : (b : Bool) (k : ℕ) → is_some (if b then Some k else None) ≡ b
place_is true k = refl
place_is false k = refl

eq_swapped : (a b : ℕ) → nat_eq a b ≡ (b == a)
eq_swapped a b = grind (arith, nat_tests)

abbrev Found : List ℕ → Type 0
Found l = nat_lt (position_or_len (nat_eq 3) l) (length l) ≡ has_three l

found_by : (x : ℕ) (l : List ℕ) (b : Bool) → nat_eq 3 x ≡ b → Found l → Found (x ∷ l)
found_by x l true is rest = let turned : (x == 3) ≡ true = sym (eq_swapped 3 x) ∙ is in grind (arith, nat_tests, is, turned)
found_by x l false is rest = let turned : (x == 3) ≡ false = sym (eq_swapped 3 x) ∙ is in grind (arith, nat_tests, is, turned, rest)

found_in : (l : List ℕ) → Found l
found_in [] = refl
found_in (x ∷ l) = found_by x l (nat_eq 3 x) refl (found_in l)

three_same : (failures : List ℕ) → is_some (position (nat_eq 3) failures) ≡ has_three failures
three_same failures = place_is (nat_lt (position_or_len (nat_eq 3) failures) (length failures)) (position_or_len (nat_eq 3) failures) ∙ found_in failures

-- ---- it has a name

-- none is counted past the items
three_named : (items : List Item) (failures : List ℕ) (k : ℕ) → AreCounts items failures → position (nat_eq 3) failures ≡ Some k →
    is_some (slice_get (map (λ (i : Item). i.name) items) k) ≡ true
three_named items failures k are is =
    let found = position-Some (nat_eq 3) failures k 0 is in
    let three : 3 ≡ get_or failures k 0 = eqb-true 3 (get_or failures k 0) found.1 in
    let same = length-map items (λ (i : Item). i.name) in
    let past = are.past k in
    let below : k < length (map (λ (i : Item). i.name) items) = grind (arith, three, same, past) in
    ap is_some (slice_get-get_or (map (λ (i : Item). i.name) items) k [] below)

named_by : (items : List Item) (failures : List ℕ) (o : Option ℕ) → position (nat_eq 3) failures ≡ o → AreCounts items failures →
    is_some (option_and_then (λ k. slice_get (map (λ (i : Item). i.name) items) k) o) ≡ is_some o
named_by items failures None is are = refl
named_by items failures (Some k) is are = three_named items failures k are is

name_told : (items : List Item) (failures : List ℕ) → AreCounts items failures →
    is_some (option_and_then (λ k. slice_get (map (λ (i : Item). i.name) items) k) (position (nat_eq 3) failures)) ≡ has_three failures
name_told items failures are = named_by items failures (position (nat_eq 3) failures) refl are ∙ three_same failures

-- ---- in the stages that bring items up

module _ (d : Device) where
  abbrev Told : Pending → Type 0
  Told q = is_some (broken_among d.set q) ≡ has_three (duty_in d q).counts

  told_activating : (s : Stage) (q : Pending) → s ≡ stages.Activating → IsInStage d.origin d.set (record q { stage = s }) → Told (record q { stage = s })
  told_activating s q is under =
      let at : IsInStage d.origin d.set (record q { stage = stages.Activating }) = subst (λ (x : Stage). IsInStage d.origin d.set (record q { stage = x })) is
      under in
      subst (λ (x : Stage). Told (record q { stage = x })) (sym is) (name_told q.plan.items q.failures at.failures)

  told_rolling : (s : Stage) (q : Pending) → s ≡ stages.Rolling → IsInStage d.origin d.set (record q { stage = s }) → Told (record q { stage = s })
  told_rolling s q is under =
      let at : IsInStage d.origin d.set (record q { stage = stages.Rolling }) = subst (λ (x : Stage). IsInStage d.origin d.set (record q { stage = x })) is
      under in
      subst (λ (x : Stage). Told (record q { stage = x })) (sym is) (name_told d.set q.failures at)

  three_told : IsSound d → IsIn stages.Activating d ⊎ IsIn stages.Rolling d → is_some (broken_item d) ≡ has_three (duty_of d).counts
  three_told sound is = by d.pending sound.pending is
    where
      by : (o : Option Pending) → IfSome o (IsUnderWay d) → IsSomeAnd o (λ q. q.stage ≡ stages.Activating) ⊎ IsSomeAnd o (λ q. q.stage ≡ stages.Rolling) →
          is_some (broken_item (pends d o)) ≡ has_three (duty_of (pends d o)).counts
      by None under (inl is) = absurd is
      by None under (inr is) = absurd is
      by (Some q) under (inl is) = told_activating q.stage q is under.1
      by (Some q) under (inr is) = told_rolling q.stage q is under.1

-- ---- as the state tells it

some_mapped : {A B : Type 0} (f : A → B) (r : Option A) → is_some (option_map f r) ≡ is_some r
some_mapped f None = refl
some_mapped f (Some x) = refl

-- the answer that there is none, where it is this
pub three_of_broken : {A : Type 0} (f : A → List ℕ) (r : Option A) (none b : Bool) (d : Device) → IsSound d → IsIn stages.Activating d ⊎
    IsIn stages.Rolling d → option_map f r ≡ broken_item d → is_some r ≡ not none → none ≡ b → has_three (duty_of d).counts ≡ not b
three_of_broken f r none b d sound is told is_modelled none_is = sym (three_told d sound is) ∙ sym (ap (λ (o : Option (List ℕ)). is_some o) told) ∙
    some_mapped f r ∙ is_modelled ∙ ap not none_is

-- where the items of a plan begin to come up none of them has failed
pub few_activated : (d : Device) → IsIn stages.Booting d → has_three (duty_of (applied d stored.Activating)).counts ≡ false
few_activated d is = by d.pending is
  where
    by : (o : Option Pending) → IsSomeAnd o (λ q. q.stage ≡ stages.Booting) → has_three (duty_of (applied (pends d o) stored.Activating)).counts ≡ false
    by None is = absurd is
    by (Some q) is = refl
