-- Where nothing fails no failure is recorded.
use Rattle.std.proofs.Common.{◌≡◌, ◌∙◌, ℕ, zero, suc, Bool, true, false, List, [], ◌∷◌, ◌++◌, Some, refl, sym, ap, append_assoc}
use Rattle.std.specs.Prelude.{◌||◌, not, is_some}
use Rattle.std.specs.List.{list_any}
use Rattle.std.proofs.lemmas.Bool.{false≢true}
use Rattle.nuc_base.specs.declared.kinds.Exit.{Exit}
use Rattle.nuc_base.specs.declared.kinds.Step.{Step}
use Rattle.records.specs.Stored.{Record, BootEnded, StepFailed}
use Rattle.device.specs.Lawful.{goes_on}
use Rattle.components.specs.Turns.{owes}
use Rattle.components.specs.Components.{ComponentState, At, component_name}
use Rattle.histories.specs.TraceEvents.{TraceEvent, Ran, Booted, Recorded, records_of}
use Rattle.histories.specs.States.{SessionState, state_after}
use Rattle.law_histories.specs.Stood.{IsHistory, HasHappened}
use Rattle.law_histories.specs.Ends.{NoneFails, NoneRecorded, is_failure}
use Rattle.law_histories.proofs.BootEnds.{boots_ended}
use Rattle.law_histories.proofs.Standing.{records_stand}
use Rattle.law_histories.proofs.StepEnds.{failures_ended}

-- an element that passes, between those before and after it
record Passes {A : Type 0} (test : A → Bool) (xs : List A) : Type 0 where
  earlier : List A
  item : A
  after : List A
  split : xs ≡ earlier ++ item ∷ after
  is : test item ≡ true

found : {A : Type 0} (test : A → Bool) (xs : List A) → list_any test xs ≡ true → Passes test xs
found test [] any = absurd (false≢true any)
found {A} test (x ∷ xs) any = by (test x) refl any (λ any. found test xs any)
  where
    by : (b : Bool) → test x ≡ b → (b || list_any test xs) ≡ true → (list_any test xs ≡ true → Passes test xs) → Passes test (x ∷ xs)
    by true is any later = record { earlier = []; item = x; after = xs; split = refl; is = is }
    by false not any later =
        let l = later any in
        record { earlier = x ∷ l.earlier; item = l.item; after = l.after; split = ap (λ (ys : List A). x ∷ ys) l.split; is = l.is }

-- what stands in a part stands in the whole
deeper : (h : List TraceEvent) (e x : TraceEvent) (before first : List TraceEvent) → HasHappened h e before → HasHappened before x first → HasHappened h x first
deeper h e x before first s t = record {
  later = s.later ++ e ∷ t.later;
  split = s.split ∙ (ap (λ (l : List TraceEvent). s.later ++ e ∷ l) t.split ∙ sym (append_assoc s.later (e ∷ t.later) (x ∷ first)));
}

owes_one : (ps : List ComponentState) (k : ℕ) (name : List ℕ) (f : Step × Exit) → At k (λ q. (component_name q ≡ name) × (q.owed ≡ Some f)) ps →
    list_any owes ps ≡ false → ⊥
owes_one [] k name f is told = is
owes_one (p ∷ ps) zero name f is told = by (owes p) (ap is_some is.1) told
  where
    by : (b : Bool) → b ≡ true → (b || list_any owes ps) ≡ false → ⊥
    by true on told = false≢true (sym told)
    by false on told = false≢true on
owes_one (p ∷ ps) (suc k) name f is told = by (owes p) told (λ told. owes_one ps k name f is told)
  where
    by : (b : Bool) → (b || list_any owes ps) ≡ false → (list_any owes ps ≡ false → ⊥) → ⊥
    by true told rest = false≢true (sym told)
    by false told rest = rest told

not_both : (b : Bool) → not b ≡ true → b ≡ true → ⊥
not_both true off on = false≢true off
not_both false off on = false≢true on

module _ (p : SessionState) (h : List TraceEvent) (is : IsHistory p h) (none : NoneFails p h) where
  not_failed : (r : Record) (before : List TraceEvent) → HasHappened h (Recorded r) before → is_failure r ≡ true → ⊥
  not_failed (StepFailed n s e) before stood fails =
      let end = (failures_ended p h before n s e is stood).1 in
      owes_one (state_after p (Ran end.entry end.who s ∷ end.before)).world.parts end.who n (s, e) end.fails
      (none.steps end.entry end.who s end.before (deeper h (Recorded (StepFailed n s e)) (Ran end.entry end.who s) before end.before stood end.stood))
  not_failed (BootEnded n e) before stood fails =
      let end = (boots_ended p h before n e is stood).1 in
      not_both (goes_on e) fails (none.boots end.entry end.made e end.before
      (deeper h (Recorded (BootEnded n e)) (Booted end.entry end.made) before end.before stood end.stood) end.is)
  not_failed r before stood fails = false≢true fails

pub none_recorded : NoneRecorded
none_recorded p h is none = by (list_any is_failure (records_of h)) refl
  where
    by : (b : Bool) → list_any is_failure (records_of h) ≡ b → b ≡ false
    by false any = refl
    by true any =
        let f = found is_failure (records_of h) any in
        let at = records_stand h f.earlier f.after f.item f.split in
        absurd (not_failed p h is none f.item at.0 at.1 f.is)
