-- A child that is gone: it ended, or was killed.
use Rattle.std.proofs.Common.{◌≡◌, ◌≢◌, ◌≤◌, ◌+◌, ◌==◌, ℕ, suc, List, [], ◌∷◌, Option, Some, None, Bool, true, false, refl, sym, ap, ◌∙◌, inl, inr, arith}
use Rattle.std.proofs.Common.{subst}
use Rattle.std.specs.Prelude.{◌↔◌, ◌&&◌, not, slice_get, if◌then◌else◌, option_map, option_and_then}
use Rattle.std.specs.Option.{IsSomeAnd}
use Rattle.std.specs.List.{list_any}
use Rattle.std.proofs.lemmas.Bool.{or_right, or_left, eqb-true, eq-eqb}
use Rattle.nuc_base.specs.declared.kinds.Step.{Step}
use Rattle.nuc_base.specs.declared.kinds.Step.TheVariants as step
use Rattle.nuc_base.specs.declared.kinds.Exit.{Exit}
use Rattle.nuc_base.specs.declared.kinds.Exit.TheVariants as exits
use Rattle.lifecycle.specs.Awaits.{is_busy_with, is_same_step}
use Rattle.lifecycle.specs.declared.kinds.LifeEvent.{LifeEvent}
use Rattle.lifecycle.specs.declared.kinds.LifeEvent.TheVariants as event
use Rattle.lifecycle.specs.declared.kinds.After.{After}
use Rattle.device.specs.Devices.{Device}
use Rattle.components.specs.Components.{Components, ComponentState, Child, At, child_of, child_gone, without_child, owner, owner_from}
use Rattle.components.specs.Lives.{lived_at}
use Rattle.components.specs.Events.{gone_by, ended, killed, kill_event, kill_event_at, is_late_child}
use Rattle.components.specs.Answers.{living_numbers, child_numbers}
use Rattle.law_supervisor.specs.Sound.{IsSoundPart, is_run, AreDistinct, IsOrderly}
use Rattle.law_supervisor.specs.Keeps.{IsSupervised, HasNoneOwed, Owns}
use Rattle.law_supervisor.proofs.Lists.{either, clash, some_same, no_some}
use Rattle.law_supervisor.proofs.Made.{MayBefall, begins, ends_fairly}
use Rattle.law_supervisor.proofs.Counts.{count, differ_few, count_changed, count_but_self, count_but_other, same_living, one_owns, owns_one, none_owns}
use Rattle.law_supervisor.proofs.Counts.{child_counted}
use Rattle.law_supervisor.proofs.Together.{GoesBy, event_children, gone_by_each, gone_by_orderly, gone_by_keeps}

-- ---- the owner of a child

owner_from_at : (j n : ℕ) (ps : List ComponentState) (k : ℕ) (s : Step) → owner_from j n ps ≡ Some (k, s)
    → (d : ℕ) × (k ≡ j + d) × At d (λ p. IsSomeAnd (child_of n p.children) (λ c. c.of ≡ s)) ps
owner_from_at j n [] k s e = no_some (k, s) e
owner_from_at j n (p ∷ ps) k s e = elim (child_of n p.children)
    as (λ (o : Option Child). (elim o [ None ↦ owner_from (j + 1) n ps | Some c ↦ Some (j, c.of) ]) ≡ Some (k, s) → child_of n p.children ≡ o → (d : ℕ) ×
    (k ≡ j + d) × At d (λ q. IsSomeAnd (child_of n q.children) (λ c. c.of ≡ s)) (p ∷ ps)) [
      | None ↦ λ y q. (let i = owner_from_at (j + 1) n ps k s y in let a = i.1 in (suc i.0, omega (arith, a), i.2))
      | Some c ↦ λ y q. (let a : j ≡ k = ap (λ (o : Option (ℕ × Step)). elim o [ None ↦ j | Some x ↦ x.0 ]) y in
          (0, omega (arith, a), subst (λ o. IsSomeAnd o (λ d. d.of ≡ s)) (sym q) (ap (λ (o : Option (ℕ × Step)). elim o [ None ↦ s | Some x ↦ x.1 ]) y)))
    ] e refl

pub owner_at : (n : ℕ) (ps : List ComponentState) (k : ℕ) (s : Step) → owner n ps ≡ Some (k, s) →
    At k (λ p. IsSomeAnd (child_of n p.children) (λ c. c.of ≡ s)) ps
owner_at n ps k s e = let x = owner_from_at 0 n ps k s e in let a = x.1 in subst (λ j. At j (λ p. IsSomeAnd (child_of n p.children) (λ c. c.of ≡ s)) ps)
    (let z : x.0 ≡ k = omega (arith, a) in z) x.2

record Owner (n : ℕ) (ps : List ComponentState) (k : ℕ) (s : Step) : Type 0 where
  one : ComponentState
  here : slice_get ps k ≡ Some one
  child : IsSomeAnd (child_of n one.children) (λ c. c.of ≡ s)

owner_here : (n : ℕ) (ps : List ComponentState) (k : ℕ) (s : Step) → owner n ps ≡ Some (k, s) → Owner n ps k s
owner_here n ps k s e = elim (slice_get ps k) as (λ (o : Option ComponentState). slice_get ps k ≡ o →
    IsSomeAnd o (λ p. IsSomeAnd (child_of n p.children) (λ c. c.of ≡ s)) → Owner n ps k s)
    [ None ↦ λ q h. absurd h | Some p ↦ λ q h. record { one = p; here = q; child = h } ] refl (owner_at n ps k s e)

-- ---- its end

run_there : (n : ℕ) (s : Step) (cs : List Child) → is_same_step s step.Run ≡ true → IsSomeAnd (child_of n cs) (λ c. c.of ≡ s) → list_any is_run cs ≡ true
run_there n s [] r h = absurd h
run_there n s (c ∷ cs) r h = elim (c.number == n) as (λ (b : Bool). IsSomeAnd (if b then Some c else child_of n cs) (λ d. d.of ≡ s) →
    list_any is_run (c ∷ cs) ≡ true) [
      | true ↦ λ y. or_left (is_run c) (list_any is_run cs) (subst (λ (t : Step). is_same_step step.Run t ≡ true) (sym y) (swapped s r))
      | false ↦ λ y. or_right (is_run c) (list_any is_run cs) (run_there n s cs r y)
    ] h
  where
    swapped : (t : Step) → is_same_step t step.Run ≡ true → is_same_step step.Run t ≡ true
    swapped t e = grind (arith, e)

-- a run child ends while no run is begun
end_fair : (n : ℕ) (s : Step) (x : Exit) (p : ComponentState) → IsSoundPart p → IsSomeAnd (child_of n p.children) (λ c. c.of ≡ s) →
    ends_fairly (event.Ended s x) (without_child n p) ≡ true
end_fair n s x p k h = elim (either (is_same_step s step.Run)) [
  | inr e ↦ rw e refl
  | inl e ↦ (let a = run_there n s p.children e h in let b = idle (is_busy_with step.Run p.life.busy) (list_any is_run p.children) k.run a in rw b (rw e refl))
]
  where
    idle : (a b : Bool) → (a && b) ≡ false → b ≡ true → a ≡ false
    idle true b e f = clash b f e
    idle false b e f = refl

pub end_goes : (n : ℕ) (e : Exit) (w : Components) (o : ℕ × Step) → owner n w.parts ≡ Some o → GoesBy (Some (event.Ended o.1 e)) o.0 o.1 n w
end_goes n e w o q v z =
    let h = owner_here n w.parts o.0 o.1 q in
    subst (λ (v : LifeEvent). (begins v ≡ false) ×
    ((p : ComponentState) → slice_get w.parts o.0 ≡ Some p → IsSoundPart p → MayBefall v (without_child n p) × (ends_fairly v (without_child n p) ≡ true)))
    (some_same (event.Ended o.1 e) v z) (
      refl,
      (λ p q i. (
        tt,
        end_fair n o.1 e p i (subst (λ (r : ComponentState). IsSomeAnd (child_of n r.children) (λ c. c.of ≡ o.1)) (some_same h.one p (sym h.here ∙ q)) h.child),
      )),
    )

pub ended_by : (P : Components → Type 0) (n : ℕ) (e : Exit) (w : Components) → P w
    → ((o : ℕ × Step) → owner n w.parts ≡ Some o → P (gone_by (Some (event.Ended o.1 e)) o.0 o.1 n w)) → P (ended n e w)
ended_by P n e w i f = elim (owner n w.parts) as (λ (o : Option (ℕ × Step)). owner n w.parts ≡ o →
    P (elim o [ None ↦ w | Some o ↦ gone_by (Some (event.Ended o.1 e)) o.0 o.1 n w ])) [ None ↦ λ q. i | Some o ↦ λ q. f o q ] refl

pub ended_orderly : (n : ℕ) (e : Exit) (w : Components) → IsOrderly w → IsOrderly (ended n e w)
ended_orderly n e w i = ended_by IsOrderly n e w i (λ o q. gone_by_orderly (Some (event.Ended o.1 e)) o.0 o.1 n w i (end_goes n e w o q))

pub ended_keeps : (d : Device) (n : ℕ) (e : Exit) (w : Components) → Owns w n → HasNoneOwed w → IsSupervised d w → IsSupervised d (ended n e w)
ended_keeps d n e w y t i = ended_by (IsSupervised d) n e w i (λ o q. gone_by_keeps d (Some (event.Ended o.1 e)) o.0 o.1 n w t i (end_goes n e w o q))

-- ---- a kill

kill_may : (m n : ℕ) (s : Step) (p : ComponentState) (e : LifeEvent) → kill_event m n s p ≡ Some e → (begins e ≡ false) × MayBefall e (without_child n p) ×
    (ends_fairly e (without_child n p) ≡ true)
kill_may m n s p e = elim (is_late_child m n p) as (λ (b : Bool). (if b then Some (event.Ended s exits.TimedOut) else option_map (λ a. event.Stop a) p.stop)
    ≡ Some e → (begins e ≡ false) × MayBefall e (without_child n p) × (ends_fairly e (without_child n p) ≡ true)) [
      | true ↦ λ y. subst (λ (v : LifeEvent). (begins v ≡ false) × MayBefall v (without_child n p) × (ends_fairly v (without_child n p) ≡ true))
          (some_same (event.Ended s exits.TimedOut) e y)
          (refl, tt, or_right (not (is_same_step s step.Run && is_busy_with step.Run p.life.busy)) true refl)
      | false ↦ λ y. by_stop p.stop refl y
    ]
  where
    by_stop : (o : Option After) → p.stop ≡ o → option_map (λ a. event.Stop a) o ≡ Some e → (begins e ≡ false) × MayBefall e (without_child n p) ×
        (ends_fairly e (without_child n p) ≡ true)
    by_stop None q y = no_some e y
    by_stop (Some a) q y = subst (λ (v : LifeEvent). (begins v ≡ false) × MayBefall v (without_child n p) × (ends_fairly v (without_child n p) ≡ true))
        (some_same (event.Stop a) e y) (refl, q, refl)

pub kill_goes : (n : ℕ) (w : Components) (o : ℕ × Step) → owner n w.parts ≡ Some o → GoesBy (kill_event_at o.0 o.1 n w) o.0 o.1 n w
kill_goes n w o q v z =
    let h = owner_here n w.parts o.0 o.1 q in
    let at = λ (p : ComponentState). λ (r : slice_get w.parts o.0 ≡ Some p). kill_may w.moment n o.1 p v
    (sym (ap (λ (y : Option ComponentState). option_and_then (kill_event w.moment n o.1) y) r) ∙ z) in
    ((at h.one h.here).0, (λ p r k. ((at p r).1, (at p r).2)))

pub killed_by : (P : Components → Type 0) (n : ℕ) (w : Components) → P w
    → ((o : ℕ × Step) → owner n w.parts ≡ Some o → P (gone_by (kill_event_at o.0 o.1 n w) o.0 o.1 n w)) → P (killed n w)
killed_by P n w i f = elim (owner n w.parts) as (λ (o : Option (ℕ × Step)). owner n w.parts ≡ o →
    P (elim o [ None ↦ w | Some o ↦ gone_by (kill_event_at o.0 o.1 n w) o.0 o.1 n w ])) [ None ↦ λ q. i | Some o ↦ λ q. f o q ] refl

pub killed_orderly : (n : ℕ) (w : Components) → IsOrderly w → IsOrderly (killed n w)
killed_orderly n w i = killed_by IsOrderly n w i (λ o q. gone_by_orderly (kill_event_at o.0 o.1 n w) o.0 o.1 n w i (kill_goes n w o q))

pub killed_keeps : (d : Device) (n : ℕ) (w : Components) → HasNoneOwed w → IsSupervised d w → IsSupervised d (killed n w)
killed_keeps d n w t i = killed_by (IsSupervised d) n w i (λ o q. gone_by_keeps d (kill_event_at o.0 o.1 n w) o.0 o.1 n w t i (kill_goes n w o q))

-- ---- neither changes the mode

gone_by_steady : (o : Option LifeEvent) (k : ℕ) (s : Step) (n : ℕ) (w : Components) → (gone_by o k s n w).steady ≡ w.steady
gone_by_steady o k s n w = gone_by_each (λ v. v.steady ≡ w.steady) o k s n w refl (λ e y. refl)

pub ended_steady : (n : ℕ) (e : Exit) (w : Components) → (ended n e w).steady ≡ w.steady
ended_steady n e w = ended_by (λ v. v.steady ≡ w.steady) n e w refl (λ o q. gone_by_steady (Some (event.Ended o.1 e)) o.0 o.1 n w)

pub killed_steady : (n : ℕ) (w : Components) → (killed n w).steady ≡ w.steady
killed_steady n w = killed_by (λ v. v.steady ≡ w.steady) n w refl (λ o q. gone_by_steady (kill_event_at o.0 o.1 n w) o.0 o.1 n w)

-- ---- whose child is gone, and whose is not

gone_living : (o : Option LifeEvent) (k : ℕ) (s : Step) (n : ℕ) (w : Components) → living_numbers (gone_by o k s n w).parts ≡ living_numbers
    (child_gone k n w).parts
gone_living o k s n w = gone_by_each (λ v. living_numbers v.parts ≡ living_numbers (child_gone k n w).parts) o k s n w refl
    (λ e y. same_living (child_gone k n w).parts (lived_at k e (child_gone k n w)).parts (event_children k e (child_gone k n w)))

-- the one child of the number is gone, and no other
record Takes (n : ℕ) (ps qs : List ComponentState) : Type 0 where
  self : count n (living_numbers qs) ≡ 0
  others : (m : ℕ) → (n == m) ≡ false → count m (living_numbers qs) ≡ count m (living_numbers ps)

gone_takes : (o : Option LifeEvent) (k : ℕ) (s : Step) (n : ℕ) (w : Components) → AreDistinct (living_numbers w.parts) → Owner n w.parts k s →
    Takes n w.parts (gone_by o k s n w).parts
gone_takes o k s n w f h =
    let l = gone_living o k s n w in
    record {
      self = (let a = count_changed n k (without_child n) w.parts h.one h.here in let b = count_but_self n h.one.children in let c =
          owned h.one.children h.child in
          let g = differ_few (living_numbers w.parts) f n in let y = ap (count n) l in omega (arith, a, b, c, g, y));
      others = λ m e. (let a = count_changed m k (without_child n) w.parts h.one h.here in let b = count_but_other m n h.one.children e in let y =
          ap (count m) l in omega (arith, a, b, y));
    }
  where
    owned : (cs : List Child) → IsSomeAnd (child_of n cs) (λ c. c.of ≡ s) → 1 ≤ count n (child_numbers cs)
    owned cs i = elim (child_of n cs) as (λ (o : Option Child). child_of n cs ≡ o → IsSomeAnd o (λ c. c.of ≡ s) → 1 ≤ count n (child_numbers cs))
        [ None ↦ λ q y. absurd y | Some c ↦ λ q y. child_counted n cs c q ] refl i

owns_but : (n m : ℕ) (w v : Components) → Takes n w.parts v.parts → Owns v m ↔ ((m ≢ n) × Owns w m)
owns_but n m w v t = (
  (λ y. let a = one_owns 0 m v.parts y in elim (either (n == m)) [
    | inl e ↦ (let z = subst (λ (x : ℕ). count x (living_numbers v.parts) ≡ 0) (eqb-true n m e) t.self in absurd (omega (arith, a, z)))
    | inr e ↦ ((λ q. clash (n == m) (eq-eqb n m (sym q)) e), owns_one m w.parts (let b = t.others m e in omega (arith, a, b)))
  ]),
  (λ y. let a = one_owns 0 m w.parts y.1 in elim (either (n == m)) [
    | inl e ↦ absurd (y.0 (sym (eqb-true n m e)))
    | inr e ↦ owns_one m v.parts (let b = t.others m e in omega (arith, a, b))
  ]),
)

takes_none : (n : ℕ) (w : Components) → owner n w.parts ≡ None → Takes n w.parts w.parts
takes_none n w e = record { self = none_owns 0 n w.parts e; others = λ m y. refl }

pub ended_owns : (n m : ℕ) (e : Exit) (w : Components) → IsOrderly w → Owns (ended n e w) m ↔ ((m ≢ n) × Owns w m)
ended_owns n m e w i = owns_but n m w (ended n e w) (elim (owner n w.parts) as (λ (o : Option (ℕ × Step)). owner n w.parts ≡ o →
    (let v : Components = (elim o [ None ↦ w | Some o ↦ gone_by (Some (event.Ended o.1 e)) o.0 o.1 n w ]) in Takes n w.parts v.parts))
    [ None ↦ λ q. takes_none n w q | Some o ↦ λ q. gone_takes (Some (event.Ended o.1 e)) o.0 o.1 n w i.differ (owner_here n w.parts o.0 o.1 q) ] refl)

pub killed_owns : (n m : ℕ) (w : Components) → IsOrderly w → Owns (killed n w) m ↔ ((m ≢ n) × Owns w m)
killed_owns n m w i = owns_but n m w (killed n w) (elim (owner n w.parts) as (λ (o : Option (ℕ × Step)). owner n w.parts ≡ o →
    (let v : Components = (elim o [ None ↦ w | Some o ↦ gone_by (kill_event_at o.0 o.1 n w) o.0 o.1 n w ]) in Takes n w.parts v.parts))
    [ None ↦ λ q. takes_none n w q | Some o ↦ λ q. gone_takes (kill_event_at o.0 o.1 n w) o.0 o.1 n w i.differ (owner_here n w.parts o.0 o.1 q) ] refl)
