-- Whatever happens lowers the number, however many components there are.
use Rattle.std.proofs.Common.{◌≡◌, ◌<◌, ◌≤◌, ◌+◌, ◌*◌, ℕ, suc, zero, List, [], ◌∷◌, length, Option, Some, None, Bool, true, false, refl, sym, ap, ◌∙◌, ◌⊎◌}
use Rattle.std.proofs.Common.{inl, inr, arith, subst, is_some}
use Rattle.std.specs.Prelude.{◌&&◌, ◌||◌, not, if◌then◌else◌, slice_get, IsSomeAnd, option_map, option_and_then}
use Rattle.std.specs.List.{list_all, AllByRecursion}
use Rattle.std.proofs.lemmas.Bool.{and_parts}
use Rattle.nuc_base.specs.declared.kinds.Exit.{Exit}
use Rattle.nuc_base.specs.declared.kinds.Exit.TheVariants as exits
use Rattle.nuc_base.specs.declared.kinds.Step.{Step}
use Rattle.nuc_base.specs.declared.kinds.Step.TheVariants as step
use Rattle.lifecycle.specs.Awaits.{is_awaited, is_same_step, is_busy_with}
use Rattle.lifecycle.specs.Table.{table}
use Rattle.lifecycle.specs.declared.kinds.After.{After}
use Rattle.lifecycle.specs.declared.kinds.LifeEvent.{LifeEvent}
use Rattle.lifecycle.specs.declared.kinds.LifeEvent.TheVariants as event
use Rattle.components.specs.Acts.{MayMove, MayKill, is_kill_due, is_stop_due, spares, kills, OwesAt}
use Rattle.components.specs.Components.{Components, ComponentState, Child, At, changed_at, is_to_stop, is_leaving, is_orphan, child_of, owner, without_child}
use Rattle.components.specs.Components.{child_gone, stands_up}
use Rattle.components.specs.Events.{answered_at, started, refused, skipped, ended, killed, gone_by, is_orphan_at, kill_event, kill_event_at, is_late_child}
use Rattle.components.specs.Events.{with_child, heard_at}
use Rattle.components.specs.Lives.{lived_at}
use Rattle.components.specs.Turns.{may_begin, may_retry, may_stop, is_begun, is_met, serves_softly}
use Rattle.law_supervisor.proofs.Made.{MayBefall}
use Rattle.law_supervisor.proofs.Gone.{owner_at}
use Rattle.law_supervisor.proofs.Lists.{either, clash, some_same, second_true, not_so}
use Rattle.law_termination.specs.Kept.{IsKeptPart, IsFalling}
use Rattle.law_termination.specs.Rank.{start_weight, weight_by}
use Rattle.law_termination.proofs.Answered.{unhanded, plainly_started, started_is, answered_all, answered_length, answered_begun}
use Rattle.law_termination.proofs.Children.{other_gone, shorter}
use Rattle.law_termination.proofs.Held.{can_stop}
use Rattle.law_termination.proofs.Options.{some_map, same_self}
use Rattle.law_termination.proofs.Parts.{orphan_at, orphan_of_gone, stands_busy, begun_busy, table_row, unhanded_kept}
use Rattle.law_termination.proofs.Priced.{total, lowers, cheap, plain_falls, answered_total}
use Rattle.law_termination.proofs.Sums.{at_self, at_two, Pays, IsFallingPart, at_map, at_both}
use Rattle.law_termination.proofs.Weighed.{Lowers, event_falls, sum_changed}

all_falling : (b : Bool) (ps : List ComponentState) → (b ≡ false) ⊎ (list_all is_leaving ps ≡ true) → AllByRecursion (IsFallingPart b) ps
all_falling b [] f = tt
all_falling b (p ∷ ps) (inl e) = (inl e, all_falling b ps (inl e))
all_falling b (p ∷ ps) (inr l) = let x = and_parts (is_leaving p) (list_all is_leaving ps) l in (inr x.0, all_falling b ps (inr x.1))

-- ---- what happens

module _ (w : Components) (kept : AllByRecursion IsKeptPart w.parts) (price : ℕ) (room : 1000 + 200 * length w.parts ≤ price) (f : IsFalling w) where
  abbrev Known : ComponentState → Type 0
  Known p = IsKeptPart p × IsFallingPart w.steady p

  known : (k : ℕ) (P : ComponentState → Type 0) → At k P w.parts → At k (λ p. Known p × P p) w.parts
  known k P a = at_map k w.parts (λ p. IsKeptPart p × (IsFallingPart w.steady p × P p)) (λ p. Known p × P p) (λ p x. ((x.0, x.1.0), x.1.1))
      (at_both k w.parts IsKeptPart (λ p. IsFallingPart w.steady p × P p) kept (at_both k w.parts (IsFallingPart w.steady) P (all_falling w.steady w.parts f)
      a))

  row : (p : ComponentState) → IsKeptPart p → (e : LifeEvent) → is_awaited e p.life ≡ true → is_some (table p.life e) ≡ true
  row p k e a = table_row p.life e k.sound ∙ a

  stays : (p : ComponentState) (e : LifeEvent) → Known p → MayBefall e p → is_awaited e p.life ≡ true → Pays e p.life.busy p.children p.children →
      Lowers (weight_by price) 165 (length w.parts) w.steady e p p
  stays p e k m a y = lowers price (length w.parts) room w.steady e p p.children k.0.sound k.0.asks k.1 m (row p k.0 e a) y

  less_or : (k : ℕ) (e : LifeEvent) (P : ComponentState → Type 0) → ((p : ComponentState) → Known p → P p →
      Lowers (weight_by price) 165 (length w.parts) w.steady e p p) → At k P w.parts → total price (lived_at k e w) < total price w
  less_or k e P g a = plain_falls price k e w (at_map k w.parts (λ p. Known p × P p) (λ p. Lowers (weight_by price) 165 (length w.parts) w.steady e p p)
      (λ p x. g p x.0 x.1) (known k P a))

  no_more : (cs : List Child) → length cs ≤ length cs
  no_more cs = omega arith

  -- components move in their turns
  pub move_lowers : (k : ℕ) (e : LifeEvent) → MayMove w k e → total price (lived_at k e w) < total price w
  move_lowers k event.MayBegin a = less_or k event.MayBegin (λ p. may_begin w p ≡ true) (λ p x m.
      let y = and_parts (is_awaited event.MayBegin p.life && not (is_to_stop p)) (list_all (is_met stands_up w.parts) p.fitted.hard
      && list_all (is_met serves_softly w.parts) p.fitted.soft) m in
      let z = and_parts (is_awaited event.MayBegin p.life) (not (is_to_stop p)) y.0 in
      stays p event.MayBegin x (not_so (is_to_stop p) z.1) z.0 (inl ((λ b. refl), no_more p.children))) a
  move_lowers k event.Retry a = less_or k event.Retry (λ p. may_retry p ≡ true) (λ p x m.
      let z = and_parts (is_awaited event.Retry p.life) (not (is_to_stop p)) m in
      stays p event.Retry x (not_so (is_to_stop p) z.1) z.0 (inl ((λ b. refl), no_more p.children))) a
  move_lowers k (event.Stop s) a = less_or k (event.Stop s) (λ p. (may_stop w p ≡ true) × (p.stop ≡ Some s) × (spares (event.Stop s) p ≡ true)) (λ p x m.
      stays p (event.Stop s) x m.1 (can_stop w p s m.1 m.0).0 (inl ((λ b. refl), no_more p.children))) a
  move_lowers k event.Launched a = absurd a
  move_lowers k event.Skipped a = absurd a
  move_lowers k (event.Ended s x) a = absurd a

  -- ---- a start that is answered

  refused_plainly : (k : ℕ) (t : Step) → At k (λ p. is_begun t p ≡ true) w.parts → total price (lived_at k (event.Ended t exits.NotStarted) w) < total price w
  refused_plainly k t a = less_or k (event.Ended t exits.NotStarted) (λ p. is_begun t p ≡ true) (λ p x m.
      let b = begun_busy p t m in let g = stands_busy p x.0 t b.0 in let c = b.1 in
      stays p (event.Ended t exits.NotStarted) x tt (rw g (rw b.0 (rw (same_self t) refl))) (inr (omega (arith, c), omega arith))) a

  skipped_plainly : (k : ℕ) (t : Step) → At k (λ p. is_begun t p ≡ true) w.parts → total price (lived_at k event.Skipped w) < total price w
  skipped_plainly k t a = less_or k event.Skipped (λ p. is_begun t p ≡ true) (λ p x m.
      let b = begun_busy p t m in let g = stands_busy p x.0 t b.0 in let c = b.1 in
      stays p event.Skipped x tt (rw g (rw b.0 refl)) (inr (omega (arith, c), omega arith))) a

  lives_on : (k n : ℕ) (t : Step) → At k (λ p. is_begun t p ≡ true) w.parts → total price (record w {
    parts = changed_at k (with_child n t w.moment) w.parts;
  }) < total price w
  lives_on k n t a = let z = sum_changed (weight_by price) 165 k (with_child n t w.moment) 1 w.parts (at_map k w.parts (λ p. is_begun t p ≡ true)
      (λ p. weight_by price (with_child n t w.moment p) + 1 ≤ weight_by price p) (λ p m.
      let b = begun_busy p t m in let c = b.1 in
      let d : start_weight p.life.busy (with_child n t w.moment p).children ≡ 0 = rw b.0 (rw (same_self t) refl) in omega (arith, c, d)) a) in omega (arith, z)

  started_plainly : (k n : ℕ) (t : Step) → At k (λ p. is_begun t p ≡ true) w.parts → total price (plainly_started k t n w) < total price w
  started_plainly k n step.Run a = event_falls (weight_by price) 165 (cheap price) k w.moment w.steady event.Launched (with_child n step.Run w.moment) w.parts
      (at_map k w.parts (λ p. Known p × (is_begun step.Run p ≡ true)) (λ p. Lowers (weight_by price) 165 (length w.parts) w.steady event.Launched
      (with_child n step.Run w.moment p) p) (λ p x.
      let b = begun_busy p step.Run x.1 in let g = stands_busy p x.0.0 step.Run b.0 in let c = b.1 in
      lowers price (length w.parts) room w.steady event.Launched p (with_child n step.Run w.moment p).children x.0.0.sound x.0.0.asks x.0.1 tt
      (row p x.0.0 event.Launched (rw g (rw b.0 refl))) (inr (omega (arith, c), omega arith))) (known k (λ p. is_begun step.Run p ≡ true) a))
  started_plainly k n step.Install a = lives_on k n step.Install a
  started_plainly k n step.Startup a = lives_on k n step.Startup a
  started_plainly k n step.Shutdown a = lives_on k n step.Shutdown a
  started_plainly k n step.Recover a = lives_on k n step.Recover a
  started_plainly k n step.Bootstrap a = lives_on k n step.Bootstrap a

  -- ---- a failure that is told
  pub told_lowers : (k : ℕ) (s : Step) (x : Exit) (b : Bool) → OwesAt w k s x b → total price (heard_at k w) < total price w
  told_lowers k s x b a = let z = sum_changed (weight_by price) 165 k (λ p. record p {
    owed = None;
  }) 1 w.parts (at_map k w.parts _ (λ p. weight_by price (record p { owed = None }) + 1 ≤ weight_by price p) (λ p m. let o = m.0 in
      rw o (omega arith)) a) in omega (arith, z)

  -- ---- a child that is gone

  record IsReady (e : LifeEvent) (n : ℕ) (p : ComponentState) : Type 0 where
    may : MayBefall e (without_child n p)
    awaited : is_awaited e p.life ≡ true
    pays : Pays e p.life.busy p.children (without_child n p).children

  child_lowers_orphan : (k n : ℕ) (s : Step) → owner n w.parts ≡ Some (k, s) → is_orphan_at k s w ≡ true → total price (child_gone k n w) < total price w
  child_lowers_orphan k n s o y =
      let h = at_self k w.parts (λ p. Known p × IsSomeAnd (child_of n p.children) (λ c. c.of ≡ s)) (known k (λ p. IsSomeAnd (child_of n p.children)
      (λ c. c.of ≡ s)) (owner_at n w.parts k s o)) in
      let z = sum_changed (weight_by price) 165 k (without_child n) 1 w.parts (at_map k w.parts (λ p. (Known p ×
      IsSomeAnd (child_of n p.children) (λ c. c.of ≡ s)) × (slice_get w.parts k ≡ Some p)) (λ p. weight_by price (without_child n p) + 1 ≤ weight_by
      price p)
      (λ p x. let u = orphan_at k s w p x.1 true y in
      let v = other_gone p.life.busy n p.children (some_map (child_of n p.children) {P = λ c. c.of ≡ s} {R =
      λ c. is_busy_with c.of p.life.busy ≡ false} x.0.1 (λ c q. subst (λ t. is_busy_with t p.life.busy ≡ false) (sym q)
      (not_so (is_busy_with s p.life.busy) (and_parts (not (is_busy_with s p.life.busy)) (not (is_same_step s step.Run && p.life.runs)) u).0))) in
      omega (arith, v)) h) in omega (arith, z)

  child_lowers : (k n : ℕ) (s : Step) (e : LifeEvent) (Q : ComponentState → Type 0) → owner n w.parts ≡ Some (k, s) → At k Q w.parts
      → ((p : ComponentState) → Known p → Q p → IsSomeAnd (child_of n p.children) (λ c. c.of ≡ s) → is_orphan p.life s ≡ false →
      slice_get w.parts k ≡ Some p → IsReady e n p)
      → total price (gone_by (Some e) k s n w) < total price w
  child_lowers k n s e Q o a g =
      let h = at_self k w.parts (λ p. Known p × (IsSomeAnd (child_of n p.children) (λ c. c.of ≡ s) ×
      Q p)) (known k (λ p. IsSomeAnd (child_of n p.children) (λ c. c.of ≡ s) × Q p) (at_two k w.parts (λ p. IsSomeAnd (child_of n p.children)
      (λ c. c.of ≡ s)) Q (owner_at n w.parts k s o) a)) in
      elim (is_orphan_at k s w) as (λ b. is_orphan_at k s w ≡ b → total price (if b then child_gone k n w else lived_at k e (child_gone k n w)) < total price
      w) [
        | true ↦ λ y. (let z = sum_changed (weight_by price) 165 k (without_child n) 1 w.parts (at_map k w.parts (λ p. (Known p ×
            (IsSomeAnd (child_of n p.children) (λ c. c.of ≡ s) × Q p)) × (slice_get w.parts k ≡ Some p)) (λ p. weight_by price (without_child n p) + 1 ≤
            weight_by price p)
            (λ p x. let u = orphan_at k s w p x.1 true y in
            let v = other_gone p.life.busy n p.children (some_map (child_of n p.children) {P = λ c. c.of ≡ s} {R =
            λ c. is_busy_with c.of p.life.busy ≡ false} x.0.1.0 (λ c q. subst (λ t. is_busy_with t p.life.busy ≡ false) (sym q)
            (not_so (is_busy_with s p.life.busy) (and_parts (not (is_busy_with s p.life.busy)) (not (is_same_step s step.Run && p.life.runs)) u).0))) in
            omega (arith, v)) h) in omega (arith, z))
        | false ↦ λ y. event_falls (weight_by price) 165 (cheap price) k w.moment w.steady e (without_child n) w.parts (at_map k w.parts (λ p. (Known p ×
            (IsSomeAnd (child_of n p.children) (λ c. c.of ≡ s) × Q p)) × (slice_get w.parts k ≡ Some p)) (λ p. Lowers (weight_by price) 165 (length w.parts)
            w.steady e (without_child n p) p)
            (λ p x. let r = g p x.0.0 x.0.1.1 x.0.1.0 (orphan_at k s w p x.1 false y) x.1 in
            lowers price (length w.parts) room w.steady e p (without_child n p).children x.0.0.0.sound x.0.0.0.asks x.0.0.1 r.may (row p x.0.0.0 e r.awaited)
            r.pays) h)
      ] refl

  end_ready : (n : ℕ) (s : Step) (x : Exit) (p : ComponentState) → IsKeptPart p → IsSomeAnd (child_of n p.children) (λ c. c.of ≡ s) →
      is_orphan p.life s ≡ false → IsReady (event.Ended s x) n p
  end_ready n s x p k h o = let a = shorter n (λ c. c.of ≡ s) p.children h in record {
    may = tt;
    awaited = rw (orphan_of_gone p k s o) (by_parts (is_busy_with s p.life.busy) (is_same_step s step.Run && p.life.runs) o);
    pays = inr (omega (arith, a), omega (arith, a));
  }
    where
      by_parts : (a b : Bool) → (not a && not b) ≡ false → (a || b) ≡ true
      by_parts true b e = refl
      by_parts false true e = refl
      by_parts false false e = absurd (cc)

  pub ended_lowers : (n : ℕ) (x : Exit) (k : ℕ) (s : Step) → owner n w.parts ≡ Some (k, s) → total price (ended n x w) < total price w
  ended_lowers n x k s o = subst (λ (z : Option (ℕ × Step)). total price (elim z [ None ↦ w | Some y ↦ gone_by (Some (event.Ended y.1 x)) y.0 y.1 n w ]) <
      total price w) (sym o) (child_lowers k n s (event.Ended s x) (λ p. Unit {0}) o (at_map k w.parts (λ p. IsSomeAnd (child_of n p.children)
      (λ c. c.of ≡ s)) (λ p. Unit {0}) (λ p y. tt) (owner_at n w.parts k s o))
      (λ p kn q h u v. end_ready n s x p kn.0 h u))

  record IsKill (o : Option LifeEvent) (n : ℕ) (p : ComponentState) : Type 0 where
    what : LifeEvent
    is : o ≡ Some what
    ready : IsReady what n p

  kill_ready : (n : ℕ) (s : Step) (p : ComponentState) → IsKeptPart p → IsSomeAnd (child_of n p.children) (λ c. c.of ≡ s) → is_orphan p.life s ≡ false →
      is_kill_due w n s p ≡ true → IsKill (kill_event w.moment n s p) n p
  kill_ready n s p k h o d = elim (is_late_child w.moment n p) as (λ b. (b || (is_orphan p.life s || is_stop_due w p)) ≡ true →
      IsKill (if b then Some (event.Ended s exits.TimedOut) else option_map (λ a. event.Stop a) p.stop) n p) [
        | true ↦ λ e. record { what = event.Ended s exits.TimedOut; is = refl; ready = end_ready n s exits.TimedOut p k h o }
        | false ↦ λ e. by_asked p.stop refl (second_true (is_orphan p.life s) (is_stop_due w p) e o)
      ] d
    where
      by_asked : (q : Option After) → p.stop ≡ q → is_stop_due w p ≡ true → IsKill (option_map (λ a. event.Stop a) q) n p
      by_asked None e z = (let y = (and_parts (may_stop w p) (elim p.stop [ None ↦ false | Some a ↦ kills (event.Stop a) p ]) z).0 in
          let x : may_stop w p ≡ false = rw e refl in clash (may_stop w p) y x)
      by_asked (Some a) e z = (let y = (and_parts (may_stop w p) (elim p.stop [ None ↦ false | Some b ↦ kills (event.Stop b) p ]) z).0 in
          let l = shorter n (λ c. c.of ≡ s) p.children h in
          record { what = event.Stop a; is = refl; ready = record { may = e; awaited = (can_stop w p a e y).0; pays = inl ((λ b. refl), omega (arith, l)) } })

  -- one that outlived its component's stop
  orphan_lowers : (k n : ℕ) (s : Step) → owner n w.parts ≡ Some (k, s) → is_orphan_at k s w ≡ true → total price (child_gone k n w) < total price w
  orphan_lowers k n s o y = child_lowers_orphan k n s o y

  no_event : (o : Option LifeEvent) (k n : ℕ) (s : Step) → owner n w.parts ≡ Some (k, s) →
      At k (λ p. (is_kill_due w n s p ≡ true) × (kill_event w.moment n s p ≡ o)) w.parts → total price (gone_by o k s n w) < total price w
  no_event None k n s o a = orphan_lowers k n s o (orphans (slice_get w.parts k) (at_map k w.parts (λ p. Known p ×
      (IsSomeAnd (child_of n p.children) (λ c. c.of ≡ s) × ((is_kill_due w n s p ≡ true) × (kill_event w.moment n s p ≡ None)))) (λ p. is_orphan p.life s
      ≡ true) (λ p x.
      elim (either (is_orphan p.life s)) [ inl y ↦ y | inr y ↦ (let r = kill_ready n s p x.0.0 x.1.0 y x.1.1.0 in some_none r.what (sym x.1.1.1 ∙ r.is)) ])
      (known k (λ p. IsSomeAnd (child_of n p.children) (λ c. c.of ≡ s) × ((is_kill_due w n s p ≡ true) ×
      (kill_event w.moment n s p ≡ None))) (at_two k w.parts (λ p. IsSomeAnd (child_of n p.children) (λ c. c.of ≡ s)) (λ p. (is_kill_due w n s p ≡ true) ×
      (kill_event w.moment n s p ≡ None)) (owner_at n w.parts k s o) a))))
    where
      orphans : (q : Option ComponentState) → IsSomeAnd q (λ p. is_orphan p.life s ≡ true) → (elim q [ None ↦ false | Some p ↦ is_orphan p.life s ]) ≡ true
      orphans None h = absurd h
      orphans (Some p) h = h

      some_none : {A : Type 0} (e : LifeEvent) → None ≡ Some e → A
      some_none e q = absurd (cc)
  no_event (Some e) k n s o a = child_lowers k n s e (λ p. (is_kill_due w n s p ≡ true) × (kill_event w.moment n s p ≡ Some e)) o a
      (λ p kn q h u v. let r = kill_ready n s p kn.0 h u q.0 in subst (λ e. IsReady e n p) (some_same r.what e (sym r.is ∙ q.1)) r.ready)

  pub killed_lowers : (n k : ℕ) (s : Step) → MayKill w n k s → total price (killed n w) < total price w
  killed_lowers n k s m = subst (λ (z : Option (ℕ × Step)). total price (elim z [ None ↦ w | Some y ↦ gone_by (kill_event_at y.0 y.1 n w) y.0 y.1 n w ]) <
      total price w) (sym m.0)
      (no_event (kill_event_at k s n w) k n s m.0 (at_map k w.parts (λ p. (is_kill_due w n s p ≡ true) ×
      (slice_get w.parts k ≡ Some p)) (λ p. (is_kill_due w n s p ≡ true) × (kill_event w.moment n s p ≡ kill_event_at k s n w))
      (λ p x. (x.0, sym (ap (λ (o : Option ComponentState). option_and_then (kill_event w.moment n s) o) x.1))) (at_self k w.parts (λ p. is_kill_due w n s p
      ≡ true) m.1)))

-- ---- a start that was handed out and is answered

falling_same : (k : ℕ) (w : Components) → IsFalling w → IsFalling (answered_at k w)
falling_same k w (inl e) = inl e
falling_same k w (inr l) = inr (leave k w.parts l)
  where
    leave : (j : ℕ) (ps : List ComponentState) → list_all is_leaving ps ≡ true → list_all is_leaving (changed_at j unhanded ps) ≡ true
    leave j [] e = refl
    leave zero (p ∷ ps) e = e
    leave (suc j) (p ∷ ps) e = let x = and_parts (is_leaving p) (list_all is_leaving ps) e in let y = leave j ps x.1 in rw x.0 y

module _ (w : Components) (kept : AllByRecursion IsKeptPart w.parts) (price : ℕ) (room : 1000 + 200 * length w.parts ≤ price) (f : IsFalling w) where
  answered_kept : (k : ℕ) → AllByRecursion IsKeptPart (answered_at k w).parts
  answered_kept k = answered_all IsKeptPart unhanded_kept k w.parts kept

  answered_few : (k : ℕ) → 1000 + 200 * length (answered_at k w).parts ≤ price
  answered_few k = let l = answered_length k w.parts in omega (arith, l, room)

  pub refused_lowers : (k : ℕ) (t : Step) → At k (λ p. is_begun t p ≡ true) w.parts → total price (refused k t w) < total price w
  refused_lowers k t a = let z = refused_plainly (answered_at k w) (answered_kept k) price (answered_few k) (falling_same k w f) k t
      (answered_begun k t w.parts a) in let r = answered_total price k w.parts in omega (arith, z, r)

  pub skipped_lowers : (k : ℕ) (t : Step) → At k (λ p. is_begun t p ≡ true) w.parts → total price (skipped k w) < total price w
  skipped_lowers k t a = let z = skipped_plainly (answered_at k w) (answered_kept k) price (answered_few k) (falling_same k w f) k t
      (answered_begun k t w.parts a) in let r = answered_total price k w.parts in omega (arith, z, r)

  pub started_lowers : (k n : ℕ) (t : Step) → At k (λ p. is_begun t p ≡ true) w.parts → total price (started k t n w) < total price w
  started_lowers k n t a = let z = started_plainly (answered_at k w) (answered_kept k) price (answered_few k) (falling_same k w f) k n t
      (answered_begun k t w.parts a) in
      let r = answered_total price k w.parts in let e = ap (total price) (started_is k t n w) in omega (arith, z, r, e)
