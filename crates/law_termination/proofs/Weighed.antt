-- What falls in one component falls in all, with the marks that it brings, by any weight.
use Rattle.std.proofs.Common.{◌≡◌, ◌<◌, ◌≤◌, ◌+◌, ℕ, suc, zero, List, [], ◌∷◌, length, Some, Bool, true, false, refl, sym, ap, ◌∙◌, arith}
use Rattle.std.specs.Prelude.{◌&&◌, if◌then◌else◌}
use Rattle.std.proofs.lemmas.Bool.{and_parts}
use Rattle.lifecycle.specs.declared.kinds.After.TheVariants as after
use Rattle.lifecycle.specs.declared.kinds.LifeEvent.{LifeEvent}
use Rattle.components.specs.Components.{ComponentState, At, changed_at}
use Rattle.components.specs.Lives.{lived, lived_at, drops, drops_at as drops_in}
use Rattle.components.specs.Marks.{Flagged, flagged_at, reaching, marked, restarted, may_restart}
use Rattle.components.proofs.Whole.{firsts, firsts_reaching, firsts_at}
use Rattle.law_supervisor.proofs.Lists.{twice}
use Rattle.law_termination.specs.Rank.{times, sum_by}
use Rattle.law_termination.proofs.Sums.{length_firsts, length_changed, at_map}

pub times_less : (a b c : ℕ) → a < b → times a c + c ≤ times b c
times_less a zero c l = absurd (omega (arith, l))
times_less zero (suc b) c l = omega arith
times_less (suc a) (suc b) c l = let i = times_less a b c (omega (arith, l)) in omega (arith, i)

module _ (f : ComponentState → ℕ) (c : ℕ) where
  pub sum_changed : (k : ℕ) (g : ComponentState → ComponentState) (m : ℕ) (ps : List ComponentState) → At k (λ p. f (g p) + m ≤ f p) ps →
      sum_by f (changed_at k g ps) + m ≤ sum_by f ps
  sum_changed k g m [] h = absurd h
  sum_changed zero g m (p ∷ ps) h = omega (arith, h)
  sum_changed (suc k) g m (p ∷ ps) h = let i = sum_changed k g m ps h in omega (arith, i)

  -- a mark costs so much at most
  abbrev pub AreCheap : Type 0
  AreCheap = (p : ComponentState) → may_restart p ≡ true → f (record p { stop = Some after.Restart }) ≤ f p + c

  marks_cost : AreCheap → (fs : Flagged) → sum_by f (marked may_restart fs) ≤ sum_by f (firsts fs) + times (length fs) c
  marks_cost a [] = omega arith
  marks_cost a (x ∷ fs) = elim (x.1 && may_restart x.0) as (λ b. x.1 && may_restart x.0 ≡ b →
      sum_by f (marked may_restart (x ∷ fs)) ≤ sum_by f (firsts (x ∷ fs)) + times (length (x ∷ fs)) c) [
        | true ↦ λ e. (let m = and_parts x.1 (may_restart x.0) e in let d = a x.0 m.1 in let i = marks_cost a fs in rw e (omega (arith, d, i)))
        | false ↦ λ e. (let i = marks_cost a fs in rw e (omega (arith, i)))
      ] refl

  error_falls : AreCheap → (k n : ℕ) (g : ComponentState → ComponentState) (ps : List ComponentState) → At k (λ p. f (g p) + (times (length ps) c + 1) ≤ f p) ps
      → sum_by f (marked may_restart (reaching n (flagged_at k (changed_at k g ps)))) < sum_by f ps
  error_falls cheap k n g ps h =
      let a = sum_changed k g (times (length ps) c + 1) ps h in
      let b = marks_cost cheap (reaching n (flagged_at k (changed_at k g ps))) in
      let q : firsts (reaching n (flagged_at k (changed_at k g ps))) ≡ changed_at k g ps = firsts_reaching n (flagged_at k (changed_at k g ps))
      ∙ firsts_at k (changed_at k g ps) in
      let d = ap (λ (qs : List ComponentState). sum_by f qs) q in
      let e : length (reaching n (flagged_at k (changed_at k g ps))) ≡ length ps = sym (length_firsts (reaching n (flagged_at k (changed_at k g ps))))
      ∙ ap (λ (qs : List ComponentState). length qs) q ∙ length_changed k g ps in
      let r : times (length (reaching n (flagged_at k (changed_at k g ps)))) c ≡ times (length ps) c = ap (λ (l : ℕ). times l c) e in
      omega (arith, a, b, d, r)

  -- what an event of one component, perhaps after its children changed, takes away among so many
  pub record Lowers (n : ℕ) (steady : Bool) (e : LifeEvent) (q p : ComponentState) : Type 0 where
    pub lower : f (lived steady e q) + 1 ≤ f p
    pub paid : drops steady e q ≡ true → f (lived steady e q) + (times n c + 1) ≤ f p

  dropped : (k m : ℕ) (b : Bool) (e : LifeEvent) (h : ComponentState → ComponentState) (ps : List ComponentState) (P : ComponentState → Type 0) (x : Bool)
      → drops_in k (record { parts = changed_at k h ps; moment = m; steady = b }) e ≡ x → At k P ps → At k (λ p. P p × (drops b e (h p) ≡ x)) ps
  dropped k m b e h [] P x l a = absurd a
  dropped zero m b e h (p ∷ ps) P x l a = (a, l)
  dropped (suc k) m b e h (p ∷ ps) P x l a = dropped k m b e h ps P x l a

  pub event_falls : AreCheap → (k m : ℕ) (b : Bool) (e : LifeEvent) (h : ComponentState → ComponentState) (ps : List ComponentState) →
      At k (λ p. Lowers (length ps) b e (h p) p) ps
      → sum_by f (lived_at k e (record { parts = changed_at k h ps; moment = m; steady = b })).parts < sum_by f ps
  event_falls cheap k m b e h ps a = elim (drops_in k (record { parts = changed_at k h ps; moment = m; steady = b }) e)
      as (λ x. drops_in k (record { parts = changed_at k h ps; moment = m; steady = b }) e ≡ x
      → sum_by f (if x then restarted may_restart (flagged_at k (changed_at k (lived b e) (changed_at k h ps))) else changed_at k (lived b e)
      (changed_at k h ps)) < sum_by f ps) [
        | true ↦ λ l. rw (twice k (lived b e) h ps) (error_falls cheap k (length (flagged_at k (changed_at k (λ p. lived b e (h p)) ps))) (λ p. lived b e
            (h p)) ps
            (at_map k ps (λ p. Lowers (length ps) b e (h p) p × (drops b e (h p) ≡ true)) (λ p. f (lived b e (h p)) + (times (length ps) c + 1) ≤ f p)
            (λ p x. x.0.paid x.1)
            (dropped k m b e h ps (λ p. Lowers (length ps) b e (h p) p) true l a)))
        | false ↦ λ l. rw (twice k (lived b e) h ps) (let z = sum_changed k (λ p. lived b e (h p)) 1 ps
            (at_map k ps (λ p. Lowers (length ps) b e (h p) p) (λ p. f (lived b e (h p)) + 1 ≤ f p) (λ p x. x.lower) a) in omega (arith, z))
      ] refl
