-- What is kept of the components while a turn goes, and the number of the loops.
use Rattle.std.specs.Prelude.{Err, IsErrOf, ℕ, suc, zero, ◌==◌, Bool, true, false, not, ◌&&◌, ◌||◌, List, [], ◌∷◌, Option, Some, None, slice_get}
use Rattle.std.specs.Prelude.{option_and_then, is_some}
use Rattle.std.specs.List.{list_any}
use Rattle.std.proofs.Common.{◌≡◌, ◌⊎◌, ◌<◌, ◌+◌, ◌^◌, ◌∙◌, inl, inr, refl, sym, ap, subst}
use Rattle.std.proofs.lemmas.Bool.{and_parts, or_parts, or_right}
use Rattle.device.specs.Devices.{Device, Pending}
use Rattle.device.specs.Lawful.{failing_place}
use Rattle.device.specs.declared.staged.Stage.{Stage}
use Rattle.device.specs.declared.staged.Stage.TheVariants as stages
use Rattle.nuc_base.specs.declared.kinds.Exit.{Exit}
use Rattle.nuc_base.specs.declared.kinds.Step.{Step}
use Rattle.step_runner.specs.Entries.{Told}
use Rattle.components.specs.Turns.{owes}
use Rattle.components.specs.Components.{ComponentState, Components, component_name, is_broken, is_gone, is_leaving, is_settled, is_spared, under_way}
use Rattle.law_supervisor.specs.Keeps.{AgreesBy, IsSupervised, count_of}
use Rattle.histories.specs.Phases.{duty_in, duty_of}
use Rattle.histories.specs.States.{SessionState}
use Rattle.histories.specs.Waits.{has_three}
use Rattle.law_termination.specs.Kept.{IsFalling}
use Rattle.law_termination.specs.Time.{HasTime}
use Rattle.law_termination.specs.Drives.{AreDriven, has_failed}
use Rattle.law_termination.proofs.Stands.{rises}
use Rattle.session_startup.specs.Runs.{IsReadyToWait, IsInTurn}

-- no failure is forgotten while items come up
pub falling_at : (p : SessionState) (world : Components) (told : Told) (living : List ℕ) → IsInTurn p world told living → IsFalling world
falling_at p world told living r = inl (ap (λ (w : Components). w.steady) r.world_is ∙ r.within.keeps.driven)

-- ---- where one is broken, it failed three times

record OneOf (f : ComponentState → Bool) (ps : List ComponentState) : Type 0 where
  k : ℕ
  part : ComponentState
  there : slice_get ps k ≡ Some part
  passes : f part ≡ true

one_of : (f : ComponentState → Bool) (ps : List ComponentState) → list_any f ps ≡ true → OneOf f ps
one_of f [] e = absurd (cc)
one_of f (p ∷ ps) e = by (f p) refl (λ h. one_of f ps h) e
  where
    by : (b : Bool) → f p ≡ b → (list_any f ps ≡ true → OneOf f ps) → (b || list_any f ps) ≡ true → OneOf f (p ∷ ps)
    by true is rest h = record { k = zero; part = p; there = refl; passes = is }
    by false is rest h = let o = rest h in record { k = suc o.k; part = o.part; there = o.there; passes = o.passes }

none_at : (f : ComponentState → Bool) (ps : List ComponentState) (k : ℕ) (p : ComponentState) → slice_get ps k ≡ Some p → list_any f ps ≡ false → f p ≡ false
none_at f [] k p e h = absurd (cc)
none_at f (q ∷ qs) zero p e h = subst (λ (x : ComponentState). f x ≡ false) (ap (λ (o : Option ComponentState). elim o [ None ↦ q | Some x ↦ x ]) e)
    (or_parts (f q) (list_any f qs) h).0
none_at f (q ∷ qs) (suc k) p e h = none_at f qs k p e (or_parts (f q) (list_any f qs) h).1

none_of : {A : Type 0} (o : Option A) → is_some o ≡ false → o ≡ None
none_of None e = refl
none_of (Some x) e = absurd (cc)

not_false : (b : Bool) → not b ≡ true → b ≡ false
not_false true e = absurd (cc)
not_false false e = refl

three_in : (o : Option ℕ) (counts : List ℕ) → option_and_then (slice_get counts) o ≡ Some 3 → has_three counts ≡ true
three_in None counts e = absurd (cc)
three_in (Some k) counts e = by k counts e
  where
    by : (k : ℕ) (cs : List ℕ) → slice_get cs k ≡ Some 3 → has_three cs ≡ true
    by k [] e = absurd (cc)
    by zero (c ∷ cs) e = let is : c ≡ 3 = ap (λ (o : Option ℕ). elim o [ None ↦ c | Some x ↦ x ]) e in subst (λ (n : ℕ). (n == 3 || has_three cs) ≡ true)
        (sym is) refl
    by (suc k) (c ∷ cs) e = or_right (c == 3) (has_three cs) (by k cs e)

abbrev found_in : Device → List ℕ → Option Pending → Option ℕ
found_in d n o = elim o [ None ↦ None | Some q ↦ option_and_then (slice_get q.failures) (failing_place d.set q n) ]

counts_three : (d : Device) (n : List ℕ) → count_of d n ≡ Some 3 → has_three (duty_of d).counts ≡ true
counts_three d n e = by d.pending refl e
  where
    in_stage : (q : Pending) (s : Stage) → q.stage ≡ s → has_three q.failures ≡ true → has_three (duty_in d q).counts ≡ true
    in_stage q stages.Booting is h = rw is h
    in_stage q stages.Activating is h = rw is h
    in_stage q stages.Backing is h = rw is h
    in_stage q stages.Rolling is h = rw is h

    by : (o : Option Pending) → d.pending ≡ o → found_in d n o ≡ Some 3 → has_three (duty_of d).counts ≡ true
    by None is h = absurd (cc)
    by (Some q) is h = rw is (in_stage q q.stage refl (three_in (failing_place d.set q n) q.failures h))

agreed : (d : Device) (n : List ℕ) (f : ℕ) (o : Option (Step × Exit)) → o ≡ None → AgreesBy d n f o → count_of d n ≡ Some f
agreed d n f None e a = a
agreed d n f (Some x) e a = absurd (cc)

pub broken_three : (d : Device) (w : Components) → IsSupervised d w → list_any owes w.parts ≡ false → has_failed w ≡ true → has_three (duty_of d).counts ≡ true
broken_three d w keeps told e =
    let o = one_of (λ p. is_broken p.life.state && not (is_spared p || is_leaving p)) w.parts e in
    let p = o.part in
    let x = and_parts (is_broken p.life.state) (not (is_spared p || is_leaving p)) o.passes in
    let y = or_parts (is_spared p) (is_leaving p) (not_false (is_spared p || is_leaving p) x.1) in
    let gone = (or_parts p.life.gone (is_gone p.stop || is_gone (under_way p.life)) y.1).0 in
    let c = keeps.counted o.k p o.there in
    let owed = none_of p.owed (none_at owes w.parts o.k p o.there told) in
    counts_three d (component_name p) (agreed d (component_name p) p.life.failures p.owed owed (c.own y.0 gone) ∙ ap (λ (n : ℕ). Some n)
    (c.broken y.0 gone x.0))

-- ---- no act is left, and there is something to wait for

clash : {A : Type 0} (b : Bool) → b ≡ true → b ≡ false → A
clash true x y = absurd (cc)
clash false x y = absurd (cc)

at_work : (a b : Bool) → (not a && not b) ≡ true → (a ≡ false) × (b ≡ false)
at_work true b e = absurd (cc)
at_work false true e = absurd (cc)
at_work false false e = (refl, refl)

abbrev Goes : Components → Type 0
Goes w = HasTime w × (w.moment + 1 < 2 ^ 62)

pub sits_time : (p : SessionState) (world : Components) (told : Told) (living : List ℕ) → IsReadyToWait p world told living → AreDriven world → Goes world
sits_time p world told living s d = subst (λ (w : Components). Goes w) (sym s.runs.world_is)
    (by (rises p.world (subst (λ (w : Components). AreDriven w) s.runs.world_is d) s.runs.within.answered s.quiet))
  where
    by : (is_settled p.world ≡ true) ⊎ (has_failed p.world ≡ true) ⊎ Goes p.world → Goes p.world
    by (inl e) = clash (is_settled p.world) e (at_work (is_settled p.world) (has_three (duty_of p.device).counts) s.work).0
    by (inr (inl e)) = clash (has_three (duty_of p.device).counts) (broken_three p.device p.world s.runs.within.keeps s.quiet.owes_none e)
        (at_work (is_settled p.world) (has_three (duty_of p.device).counts) s.work).1
    by (inr (inr t)) = t

-- ---- a fault is handed on

pub same_err : {A B E : Type 0} (x e : E) → IsErrOf {T = A} (Err x) e → IsErrOf {T = B} (Err x) e
same_err x e is = cc
