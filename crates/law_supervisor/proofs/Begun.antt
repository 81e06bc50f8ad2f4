-- A child that is started.
use Rattle.std.proofs.Common.{◌≡◌, ◌≤◌, ◌+◌, ◌==◌, ℕ, List, ◌∷◌, Option, Some, None, Bool, true, false, refl, sym, ap, ◌∙◌, ◌⊎◌, inl, inr}
use Rattle.std.proofs.Common.{arith, subst}
use Rattle.std.specs.Prelude.{⊤, ◌↔◌, ◌&&◌, ◌||◌, slice_get, if◌then◌else◌}
use Rattle.std.specs.Option.{IfSome, IsSomeAnd}
use Rattle.std.specs.List.{AllByRecursion}
use Rattle.std.proofs.lemmas.Bool.{eqb-true, eq-eqb}
use Rattle.nuc_base.specs.declared.kinds.Step.{Step}
use Rattle.nuc_base.specs.declared.kinds.Step.TheVariants as step
use Rattle.lifecycle.specs.Awaits.{is_busy_with, is_same_step}
use Rattle.lifecycle.specs.declared.kinds.LifeEvent.TheVariants as event
use Rattle.device.specs.Devices.{Device}
use Rattle.components.specs.Fitted.{prepared_of, limit_of}
use Rattle.components.specs.Deadlines.{deadline_after}
use Rattle.components.specs.Components.{Components, ComponentState, Child, At, changed_at, component_name, owner}
use Rattle.components.specs.Lives.{lived}
use Rattle.components.specs.Events.{with_child, started}
use Rattle.components.specs.Answers.{living_numbers}
use Rattle.law_supervisor.specs.Sound.{IsSoundPart, AreDistinct, IsOrderly}
use Rattle.law_supervisor.specs.Keeps.{IsSupervised, HasNoneOwed, Owns, IsCounted}
use Rattle.law_supervisor.proofs.Lists.{either, from_places, at_places, changed_all, changed_same, changed_past}
use Rattle.law_supervisor.proofs.Alone.{runs_in, with_these, sound_these, counted_these, same_name, sound_lived, counted_lived, launch_lived, IsNamed}
use Rattle.law_supervisor.proofs.Alone.{mark_sound, mark_counted}
use Rattle.law_supervisor.proofs.Counts.{count, differ_few, few_differ, count_changed, same_living, one_owns, owns_one, none_owns}
use Rattle.law_supervisor.proofs.Together.{sound_of, counted_of, order_of, orderly_from, keep_from, event_all, event_same, event_children, told_each}

abbrev pub child : ℕ → Step → ℕ → ComponentState → Child
child n s m p = record { number = n; of = s; deadline = deadline_after (limit_of (prepared_of p.fitted s)) m }

abbrev pub begun : ℕ → Step → ℕ → ComponentState → ComponentState
begun n s m p = with_child n s m (record p { handed = false })

-- ---- numbers

one_more : (m n k : ℕ) (s : Step) (t : ℕ) (ps : List ComponentState) (p : ComponentState) → slice_get ps k ≡ Some p
    → count m (living_numbers (changed_at k (begun n s t) ps)) ≡ count m (living_numbers ps) + (if n == m then 1 else 0)
one_more m n k s t ps p e = let a = count_changed m k (begun n s t) ps p e in omega (arith, a)

still_few : (a b n : ℕ) (y : Bool) → a ≡ b + (if y then 1 else 0) → b ≤ 1 → (y ≡ true → b ≡ 0) → a ≤ 1
still_few a b n true e l f = let z = f refl in omega (arith, e, z)
still_few a b n false e l f = omega (arith, e, l)

differ_begun : (n k : ℕ) (s : Step) (t : ℕ) (ps : List ComponentState) → owner n ps ≡ None → AreDistinct (living_numbers ps) →
    AreDistinct (living_numbers (changed_at k (begun n s t) ps))
differ_begun n k s t ps o d = elim (slice_get ps k) as (λ (q : Option ComponentState). slice_get ps k ≡ q →
    AreDistinct (living_numbers (changed_at k (begun n s t) ps))) [
      | None ↦ λ e. subst (λ (qs : List ComponentState). AreDistinct (living_numbers qs)) (sym (changed_past k (begun n s t) ps e)) d
      | Some p ↦ λ e. few_differ (living_numbers (changed_at k (begun n s t) ps)) (λ m. still_few (count m (living_numbers (changed_at k (begun n s t) ps)))
          (count m (living_numbers ps)) n (n == m)
          (one_more m n k s t ps p e) (differ_few (living_numbers ps) d m) (λ y. subst (λ (x : ℕ). count x (living_numbers ps) ≡ 0) (eqb-true n m y)
          (none_owns 0 n ps o)))
    ] refl

-- ---- a child that lives, and nothing else

no_run : (a b x : Bool) → (a && b) ≡ false → x ≡ false → (a && (x || b)) ≡ false
no_run true b x e f = rw f e
no_run false b x e f = refl

lives_orderly : (k : ℕ) (s : Step) (n : ℕ) (w : Components) → is_same_step step.Run s ≡ false → owner n w.parts ≡ None → IsOrderly w →
    IsOrderly (record w { parts = changed_at k (begun n s w.moment) w.parts })
lives_orderly k s n w r o i = orderly_from w (record w { parts = changed_at k (begun n s w.moment) w.parts }) i
    (changed_all IsSoundPart k (begun n s w.moment) w.parts (sound_of w i.sound) (λ p q x.
    sound_these p (child n s w.moment p ∷ p.children) false x
    (no_run (is_busy_with step.Run p.life.busy) (runs_in p.children) (is_same_step step.Run s) x.run r)))
    (changed_same component_name k (begun n s w.moment) w.parts (λ p q. refl))
    (differ_begun n k s w.moment w.parts o i.differ)

lives_keeps : (d : Device) (k : ℕ) (s : Step) (n : ℕ) (w : Components) → is_same_step step.Run s ≡ false → owner n w.parts ≡ None → IsSupervised d w →
    IsSupervised d (record w { parts = changed_at k (begun n s w.moment) w.parts })
lives_keeps d k s n w r o i = keep_from d w (record w { parts = changed_at k (begun n s w.moment) w.parts }) i (lives_orderly k s n w r o (order_of d w i))
    (changed_all (IsCounted d) k (begun n s w.moment) w.parts (counted_of d w i) (λ p q x.
    counted_these d p (child n s w.moment p ∷ p.children) false x))
    refl

-- ---- a run that is launched

abbrev Coming : ComponentState → Type 0
Coming p = IfSome p.next (IsNamed (component_name p))

run_orderly : (k n : ℕ) (w : Components) → owner n w.parts ≡ None → IsOrderly w → IsOrderly (started k step.Run n w)
run_orderly k n w o i = orderly_from w (started k step.Run n w) i
    (event_all IsSoundPart mark_sound k event.Launched (begun n step.Run w.moment) w (sound_of w i.sound) (λ p q x.
    sound_lived w.steady event.Launched p (child n step.Run w.moment p ∷ p.children) false x tt
    (rw (launch_lived w.steady p (child n step.Run w.moment p ∷ p.children) false x) refl)))
    (event_same component_name (λ p. refl) k event.Launched (record w { parts = changed_at k (begun n step.Run w.moment) w.parts })
    (λ p q. same_name w.steady event.Launched p (at_places Coming (changed_at k (begun n step.Run w.moment) w.parts) coming k p q))
    ∙ changed_same component_name k (begun n step.Run w.moment) w.parts (λ p q. refl))
    (subst AreDistinct (sym (same_living (changed_at k (begun n step.Run w.moment) w.parts) (started k step.Run n w).parts
    (event_children k event.Launched (record w { parts = changed_at k (begun n step.Run w.moment) w.parts }))))
    (differ_begun n k step.Run w.moment w.parts o i.differ))
  where
    coming : AllByRecursion Coming (changed_at k (begun n step.Run w.moment) w.parts)
    coming = changed_all Coming k (begun n step.Run w.moment) w.parts (from_places Coming w.parts (λ j p e. (i.sound j p e).coming)) (λ p q x. x)

run_keeps : (d : Device) (k n : ℕ) (w : Components) → owner n w.parts ≡ None → HasNoneOwed w → IsSupervised d w → IsSupervised d (started k step.Run n w)
run_keeps d k n w o t i = keep_from d w (started k step.Run n w) i (run_orderly k n w o (order_of d w i))
    (event_all (IsCounted d) (mark_counted d) k event.Launched (begun n step.Run w.moment) w (counted_of d w i) (λ p q x.
    subst (λ (y : Bool). IsCounted d (lived y event.Launched (with_these (child n step.Run w.moment p ∷ p.children) false p))) (sym i.driven)
    (counted_lived d event.Launched p (child n step.Run w.moment p ∷ p.children) false (i.sound k p q) x (told_each w.parts t k p q) tt refl)))
    refl

-- a run is launched as it starts, and each other child lives and nothing else
pub started_by : (P : Step → Components → Type 0) (k : ℕ) (s : Step) (n : ℕ) (w : Components)
    → ((t : Step) → is_same_step step.Run t ≡ false → P t (record w { parts = changed_at k (begun n t w.moment) w.parts })) → P step.Run
    (started k step.Run n w) → P s (started k s n w)
started_by P k step.Install n w f g = f step.Install refl
started_by P k step.Run n w f g = g
started_by P k step.Startup n w f g = f step.Startup refl
started_by P k step.Shutdown n w f g = f step.Shutdown refl
started_by P k step.Recover n w f g = f step.Recover refl
started_by P k step.Bootstrap n w f g = f step.Bootstrap refl

pub started_orderly : (k : ℕ) (s : Step) (n : ℕ) (w : Components) → owner n w.parts ≡ None → IsOrderly w → IsOrderly (started k s n w)
started_orderly k s n w o i = started_by (λ t. IsOrderly) k s n w (λ t r. lives_orderly k t n w r o i) (run_orderly k n w o i)

pub started_keeps : (d : Device) (k : ℕ) (s : Step) (n : ℕ) (w : Components) → owner n w.parts ≡ None → HasNoneOwed w → IsSupervised d w
    → IsSupervised d (started k s n w)
started_keeps d k s n w o t i = started_by (λ u. IsSupervised d) k s n w (λ u r. lives_keeps d k u n w r o i) (run_keeps d k n w o t i)

pub started_steady : (k : ℕ) (s : Step) (n : ℕ) (w : Components) → (started k s n w).steady ≡ w.steady
started_steady k s n w = started_by (λ t v. v.steady ≡ w.steady) k s n w (λ t r. refl) refl

-- ---- who owns it

living_started : (k : ℕ) (s : Step) (n : ℕ) (w : Components) → living_numbers (started k s n w).parts ≡ living_numbers
    (changed_at k (begun n s w.moment) w.parts)
living_started k s n w = started_by (λ t v. living_numbers v.parts ≡ living_numbers (changed_at k (begun n t w.moment) w.parts)) k s n w (λ t r. refl)
    (same_living (changed_at k (begun n step.Run w.moment) w.parts) (started k step.Run n w).parts
    (event_children k event.Launched (record w { parts = changed_at k (begun n step.Run w.moment) w.parts })))

at_some : (k : ℕ) (ps : List ComponentState) → At k (λ p. ⊤) ps → (p : ComponentState) × (slice_get ps k ≡ Some p)
at_some k ps a = elim (slice_get ps k) as (λ (o : Option ComponentState). slice_get ps k ≡ o → IsSomeAnd o (λ p. ⊤) → (p : ComponentState) ×
    (slice_get ps k ≡ Some p))
    [ None ↦ λ e h. absurd h | Some p ↦ λ e h. (p, e) ] refl a

pub started_owns : (k : ℕ) (s : Step) (n m : ℕ) (w : Components) → At k (λ p. ⊤) w.parts → Owns (started k s n w) m ↔ ((m ≡ n) ⊎ Owns w m)
started_owns k s n m w a =
    let h = at_some k w.parts a in
    let e = ap (count m) (living_started k s n w) ∙ one_more m n k s w.moment w.parts h.0 h.1 in (
      (λ y. let c = one_owns 0 m (started k s n w).parts y in elim (either (n == m)) [
        | inl q ↦ inl (sym (eqb-true n m q))
        | inr q ↦ inr (owns_one m w.parts (same (n == m) (count m (living_numbers w.parts)) (count m (living_numbers (started k s n w).parts)) e q c))
      ]),
      (λ y. owns_one m (started k s n w).parts (elim y [
        | inl q ↦ more (n == m) (count m (living_numbers w.parts)) (count m (living_numbers (started k s n w).parts)) e (eq-eqb n m (sym q))
        | inr q ↦ (let c = one_owns 0 m w.parts q in omega (arith, e, c))
      ])),
    )
  where
    same : (y : Bool) (b a : ℕ) → a ≡ b + (if y then 1 else 0) → y ≡ false → 1 ≤ a → 1 ≤ b
    same true b a e q c = absurd (cc)
    same false b a e q c = omega (arith, e, c)

    more : (y : Bool) (b a : ℕ) → a ≡ b + (if y then 1 else 0) → y ≡ true → 1 ≤ a
    more true b a e q = omega (arith, e)
    more false b a e q = absurd (cc)
