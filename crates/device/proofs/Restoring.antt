-- The records of a front, as they lie in memory, are taken one after another.
use Rattle.std.proofs.Common.{◌≡◌, List, [], ◌∷◌, ◌++◌, length, map, Result, Ok, Err, arith, refl, sym, ap, subst, ◌∙◌, append_assoc}
use Rattle.std.specs.List.{AllByRecursion}
use Rattle.std.proofs.lemmas.List.{append-nil, map-append}
use Rattle.records.specs.declared.record.Record as code
use Rattle.records.specs.Stored.{Record, record_view}
use Rattle.device.specs.declared.device.Device as code_device
use Rattle.device.specs.declared.fault.RestoreFault.{RestoreFault}
use Rattle.device.specs.declared.fault.RestoreFault.TheVariants as fault
use Rattle.device.specs.declared.rebuilding.Rebuilding as code_rebuilding
use Rattle.device.specs.Fronts.{IsFrontOf, IsNoFront, IsRegularEntry, Restored}
use Rattle.device.specs.Rebuilt.{Building, building_view, MayRebuild, MayComeNext, with_next, IsOrderly, IsBuilt, BeginOutcome, NextOutcome, FinishOutcome}
use Rattle.device.proofs.Fronting.{begins_built, built_more, comes, is_whole, whole_front, front_begins}

-- so far the first of these records were taken, and the others stand behind them
pub record Taken (front rest : List code.Record) (b : Building) : Type 0 where
  pub done : List code.Record
  pub split : front ≡ done ++ rest
  pub built : IsBuilt (map record_view done) b
  pub regular : AllByRecursion IsRegularEntry rest

pub first_taken : (front rest : List code.Record) (first : code.Record) (b : code_rebuilding.Rebuilding) → front ≡ first ∷ rest →
    AllByRecursion IsRegularEntry front → BeginOutcome (record_view first) (Ok b) → Taken front rest (building_view b)
first_taken front rest first b is regular began = record {
  done = first ∷ [];
  split = is;
  built = begins_built (record_view first) (building_view b) began.0 began.1;
  regular = (subst (AllByRecursion IsRegularEntry) is regular).1;
}

pub next_taken : (front rest : List code.Record) (r : code.Record) (old new : Building) → Taken front (r ∷ rest) old → MayComeNext old (record_view r) →
    new ≡ with_next old (record_view r) → Taken front rest new
next_taken front rest r old new taken may is = record {
  done = taken.done ++ r ∷ [];
  split = taken.split ∙ sym (append_assoc taken.done (r ∷ []) rest);
  built = subst (λ (l : List Record). IsBuilt l new) (sym (map-append record_view taken.done (r ∷ [])))
      (built_more (map record_view taken.done) (record_view r) old new taken.built may is);
  regular = taken.regular.1;
}

first_bad : (front rest : List code.Record) (first : code.Record) → front ≡ first ∷ rest → (MayRebuild (record_view first) → ⊥)
    → IsNoFront (map record_view front)
first_bad front rest first is bad d of = bad (front_begins (record_view first) (map record_view rest) d
    (subst (λ (l : List Record). IsFrontOf l d) (ap (map record_view) is) of))

next_bad : (front rest : List code.Record) (r : code.Record) (b : Building) → Taken front (r ∷ rest) b → (MayComeNext b (record_view r) → ⊥) →
    IsNoFront (map record_view front)
next_bad front rest r b taken bad d of =
    bad
    (comes (map record_view taken.done) (map record_view rest) (record_view r) b d taken.built
    (subst (λ (l : List Record). IsFrontOf l d) (ap (map record_view) taken.split ∙ map-append record_view taken.done (r ∷ rest)) of))

-- all were taken
all_built : (front : List code.Record) (b : Building) → Taken front [] b → IsBuilt (map record_view front) b
all_built front b taken = subst (λ (l : List Record). IsBuilt l b) (ap (map record_view) (sym (taken.split ∙ append-nil taken.done))) taken.built

pub begin_fault : (front rest : List code.Record) (first : code.Record) (e : RestoreFault) → front ≡ first ∷ rest → BeginOutcome (record_view first) (Err e) →
    Restored (map record_view front) (Err e)
begin_fault front rest first fault.NotSound is bad = first_bad front rest first is bad
begin_fault front rest first fault.NoMemory is bad = tt

pub take_fault : (front rest : List code.Record) (r : code.Record) (old new : Building) (e : RestoreFault) → Taken front (r ∷ rest) old →
    NextOutcome (record_view r) old new (Err e) → Restored (map record_view front) (Err e)
take_fault front rest r old new fault.NotSound taken bad = next_bad front rest r old taken bad
take_fault front rest r old new fault.NoMemory taken bad = tt

pub finished : (front : List code.Record) (b : Building) (result : Result code_device.Device RestoreFault) → Taken front [] b → IsOrderly b →
    FinishOutcome b result → Restored (map record_view front) result
finished front b (Ok d) taken are whole = subst (IsFrontOf (map record_view front)) (sym whole.1)
    (whole_front (map record_view front) b are whole.0 (all_built front b taken))
finished front b (Err fault.NotSound) taken are bad = λ d of. bad (is_whole (map record_view front) b d (all_built front b taken) of)
finished front b (Err fault.NoMemory) taken are bad = tt

pub nothing_left : {A : Type 0} (xs : List A) → length xs ≡ 0 → xs ≡ []
nothing_left [] none = refl
nothing_left (x ∷ xs) none = absurd (omega (arith, none))
