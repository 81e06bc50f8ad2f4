-- What is kept of each component alone is kept at whatever happens.
use Rattle.std.proofs.Common.{◌≡◌, ℕ, suc, zero, List, [], ◌∷◌, length, Option, Some, None, Bool, true, false, refl, sym, ap, ◌∙◌, inl, inr, arith, subst}
use Rattle.std.proofs.Common.{is_some}
use Rattle.std.specs.Prelude.{◌&&◌, ◌||◌, not, if◌then◌else◌, IsSomeAnd, slice_get, option_map, option_and_then}
use Rattle.std.specs.List.{list_any, list_all, AllByRecursion}
use Rattle.std.proofs.lemmas.Bool.{and_parts}
use Rattle.nuc_base.specs.declared.kinds.Exit.{Exit}
use Rattle.nuc_base.specs.declared.kinds.Exit.TheVariants as exits
use Rattle.nuc_base.specs.declared.kinds.Step.{Step}
use Rattle.nuc_base.specs.declared.kinds.Step.TheVariants as step
use Rattle.lifecycle.specs.Awaits.{is_awaited, is_same_step, is_busy_with}
use Rattle.lifecycle.specs.Laws.{has_step}
use Rattle.lifecycle.specs.declared.kinds.After.{After}
use Rattle.lifecycle.specs.declared.kinds.LifeEvent.{LifeEvent}
use Rattle.lifecycle.specs.declared.kinds.LifeEvent.TheVariants as event
use Rattle.components.specs.Acts.{MayMove, MayKill, is_kill_due, spares, OwesAt}
use Rattle.components.specs.Components.{Components, ComponentState, Child, At, changed_at, is_to_stop, child_of, owner, without_child, child_gone, stands_up}
use Rattle.components.specs.Deadlines.{deadline_after}
use Rattle.components.specs.Events.{answered_at, handed_at, started, refused, skipped, ended, killed, gone_by, is_orphan_at, kill_event, kill_event_at}
use Rattle.components.specs.Events.{is_late_child, with_child, heard_at}
use Rattle.components.specs.Fitted.{prepared_of, limit_of, steps_of}
use Rattle.components.specs.Lives.{lived, lived_at, drops_at as drops_in}
use Rattle.components.specs.Marks.{Flagged, flagged_at, reaching, marked, restarted, may_restart}
use Rattle.components.specs.Turns.{may_begin, may_retry, may_stop, is_begun, is_met, serves_softly}
use Rattle.law_supervisor.proofs.Made.{MayBefall, begins}
use Rattle.law_supervisor.proofs.Gone.{owner_at}
use Rattle.law_supervisor.proofs.Alone.{bare_of, begins_alone}
use Rattle.law_supervisor.proofs.Lists.{either, clash, some_same, not_so, changed_nothing}
use Rattle.components.proofs.Whole.{firsts_reaching, firsts_at}
use Rattle.law_termination.specs.Kept.{IsKeptPart}
use Rattle.law_termination.proofs.Answered.{unhanded, plainly_started, started_is, answered_all, answered_length, answered_begun, handed_all}
use Rattle.law_termination.proofs.Keeps.{Known, stays_known, event_known, changed_known, gone_known, end_known, launch_known, child_known}
use Rattle.law_termination.proofs.Parts.{unhanded_kept}
use Rattle.law_termination.proofs.Sums.{at_self, at_map, at_both, length_changed, length_firsts}

plain_known : (d : Bool) (k : ℕ) (e : LifeEvent) (w : Components) → AllByRecursion (Known d) w.parts → At k (λ p. Known d (lived w.steady e p)) w.parts →
    AllByRecursion (Known d) (lived_at k e w).parts
plain_known d k e w a c = subst (λ (qs : List ComponentState). AllByRecursion (Known d) (lived_at k e (record w { parts = qs })).parts)
    (changed_nothing k w.parts) (event_known k w.moment d w.steady e (λ p. p) w.parts a c)

module _ (d : Bool) (w : Components) (all : AllByRecursion (Known d) w.parts) where
  abbrev AllKnown : Components → Type 0
  AllKnown v = AllByRecursion (Known d) v.parts

  known_at : (k : ℕ) (P : ComponentState → Type 0) (Q : ComponentState → Type 0) → ((p : ComponentState) → Known d p → P p → Q p) → At k P w.parts →
      At k Q w.parts
  known_at k P Q f a = at_map k w.parts (λ p. Known d p × P p) Q (λ p x. f p x.0 x.1) (at_both k w.parts (Known d) P all a)

  pub move_known : (k : ℕ) (e : LifeEvent) → MayMove w k e → AllKnown (lived_at k e w)
  move_known k event.MayBegin a = plain_known d k event.MayBegin
      w all (known_at k (λ p. may_begin w p ≡ true) (λ p. Known d (lived w.steady event.MayBegin p)) (λ p x m.
      let y = and_parts (is_awaited event.MayBegin p.life && not (is_to_stop p)) (list_all (is_met stands_up w.parts) p.fitted.hard &&
      list_all (is_met serves_softly w.parts) p.fitted.soft) m in
      let z = and_parts (is_awaited event.MayBegin p.life) (not (is_to_stop p)) y.0 in
      stays_known d w.steady event.MayBegin p x (not_so (is_to_stop p) z.1) (begins_alone p x.0.sound.runs (not_so (is_to_stop p) z.1) z.0)) a)
  move_known k event.Retry a = plain_known d k event.Retry w all (known_at k (λ p. may_retry p ≡ true) (λ p. Known d (lived w.steady event.Retry p)) (λ p x m.
      let z = and_parts (is_awaited event.Retry p.life) (not (is_to_stop p)) m in
      stays_known d w.steady event.Retry p x (not_so (is_to_stop p) z.1) refl) a)
  move_known k (event.Stop s) a = plain_known d k (event.Stop s) w all
      (known_at k (λ p. (may_stop w p ≡ true) × (p.stop ≡ Some s) × (spares (event.Stop s) p ≡ true)) (λ p. Known d (lived w.steady (event.Stop s) p)) (λ p x m.
      stays_known d w.steady (event.Stop s) p x m.1 refl) a)
  move_known k event.Launched a = absurd a
  move_known k event.Skipped a = absurd a
  move_known k (event.Ended s x) a = absurd a

  refused_plainly : (k : ℕ) (t : Step) → At k (λ p. is_begun t p ≡ true) w.parts → AllKnown (lived_at k (event.Ended t exits.NotStarted) w)
  refused_plainly k t a = plain_known d k (event.Ended t exits.NotStarted) w all
      (known_at k (λ p. is_begun t p ≡ true) (λ p. Known d (lived w.steady (event.Ended t exits.NotStarted) p))
      (λ p x m. stays_known d w.steady (event.Ended t exits.NotStarted) p x tt refl) a)

  skipped_plainly : (k : ℕ) (t : Step) → At k (λ p. is_begun t p ≡ true) w.parts → AllKnown (lived_at k event.Skipped w)
  skipped_plainly k t a = plain_known d k event.Skipped w all (known_at k (λ p. is_begun t p ≡ true) (λ p. Known d (lived w.steady event.Skipped p))
      (λ p x m. stays_known d w.steady event.Skipped p x tt refl) a)

  pub told_known : (k : ℕ) (s : Step) (x : Exit) (b : Bool) → OwesAt w k s x b → AllKnown (heard_at k w)
  told_known k s x b a = changed_known (Known d) k (λ p. record p { owed = None }) w.parts all
      (known_at k _ (λ p. Known d (record p { owed = None }))
      (λ p x m. (
        record {
          sound = x.0.sound;
          steps = x.0.steps;
          runnable = x.0.runnable;
          coming = x.0.coming;
          timed = x.0.timed;
          run = x.0.run;
          gone = x.0.gone;
          own = x.0.own;
          asks = x.0.asks;
          waits = x.0.waits;
        },
        x.1,
      )) a)

  -- ---- a start that is answered

  has_deadline : (o : Option ℕ) (m : ℕ) → is_some o ≡ true → is_some (deadline_after o m) ≡ true
  has_deadline None m e = absurd (cc)
  has_deadline (Some l) m e = refl

  limited : (p : ComponentState) → IsKeptPart p → (t : Step) → p.life.busy ≡ Some t → is_same_step step.Run t ≡ false →
      is_some (limit_of (prepared_of p.fitted t)) ≡ true
  limited p k t b n = by_step t (subst (λ (s : _). has_step t s ≡ true) k.steps
      (subst (λ (o : Option Step). (elim o [ None ↦ true | Some s ↦ has_step s p.life.steps ]) ≡ true) b k.own)) n
    where
      by_limit : (x y : Bool) → (not x || y) ≡ true → x ≡ true → y ≡ true
      by_limit true y e f = e
      by_limit false y e f = absurd (cc)

      by_step : (s : Step) → has_step s (steps_of p.fitted) ≡ true → is_same_step step.Run s ≡ false → is_some (limit_of (prepared_of p.fitted s)) ≡ true
      by_step step.Install h e = by_limit (is_some p.fitted.install) (is_some (limit_of p.fitted.install)) k.runnable.install h
      by_step step.Run h e = absurd (cc)
      by_step step.Startup h e = by_limit (is_some p.fitted.startup) (is_some (limit_of p.fitted.startup)) k.runnable.startup h
      by_step step.Shutdown h e = by_limit (is_some p.fitted.shutdown) (is_some (limit_of p.fitted.shutdown)) k.runnable.shutdown h
      by_step step.Recover h e = by_limit (is_some p.fitted.recover) (is_some (limit_of p.fitted.recover)) k.runnable.recover h
      by_step step.Bootstrap h e = absurd (cc)

  lives_known : (k n : ℕ) (t : Step) → is_same_step step.Run t ≡ false → At k (λ p. is_begun t p ≡ true) w.parts →
      AllByRecursion (Known d) (changed_at k (with_child n t w.moment) w.parts)
  lives_known k n t r a = changed_known (Known d) k (with_child n t w.moment) w.parts all
      (known_at k (λ p. is_begun t p ≡ true) (λ p. Known d (with_child n t w.moment p)) (λ p x m.
      let l = has_deadline (limit_of (prepared_of p.fitted t)) w.moment (limited p x.0 t (busy_of p t m) r) in
      child_known d (record { number = n; of = t; deadline = deadline_after (limit_of (prepared_of p.fitted t)) w.moment }) p x (rw r l) r) a)
    where
      busy_is : (s : Step) (o : Option Step) → is_busy_with s o ≡ true → o ≡ Some s
      busy_is s o h = grind (arith, h)

      busy_of : (p : ComponentState) (s : Step) → is_begun s p ≡ true → p.life.busy ≡ Some s
      busy_of p s m = busy_is s p.life.busy (and_parts (is_busy_with s p.life.busy) (not (list_any (λ (c : Child). is_same_step s c.of) p.children)) m).0

  stands_begun : (p : ComponentState) (t : Step) → IsKeptPart p → is_begun t p ≡ true → p.life.gone ≡ false
  stands_begun p t k m = elim (either p.life.gone) [
    | inr g ↦ g
    | inl g ↦ (let x = bare_of p k.gone g in
        let y : is_busy_with t p.life.busy ≡ false = rw x.2 refl in
        clash (is_busy_with t p.life.busy) (and_parts (is_busy_with t p.life.busy) (not (list_any (λ (c : Child). is_same_step t c.of) p.children)) m).0 y)
  ]

  started_plainly : (k n : ℕ) (t : Step) → At k (λ p. is_begun t p ≡ true) w.parts → AllKnown (plainly_started k t n w)
  started_plainly k n step.Run a = event_known k w.moment d w.steady event.Launched (with_child n step.Run w.moment) w.parts all
      (known_at k (λ p. is_begun step.Run p ≡ true) (λ p. Known d (lived w.steady event.Launched (with_child n step.Run w.moment p))) (λ p x m.
      launch_known d w.steady (record { number = n; of = step.Run; deadline = deadline_after (limit_of (prepared_of p.fitted step.Run)) w.moment }) p x
      (stands_begun p step.Run x.0 m) refl) a)
  started_plainly k n step.Install a = lives_known k n step.Install refl a
  started_plainly k n step.Startup a = lives_known k n step.Startup refl a
  started_plainly k n step.Shutdown a = lives_known k n step.Shutdown refl a
  started_plainly k n step.Recover a = lives_known k n step.Recover refl a
  started_plainly k n step.Bootstrap a = lives_known k n step.Bootstrap refl a

  -- ---- a child that is gone

  child_gone_known : (k n : ℕ) (s : Step) (e : LifeEvent) (Q : ComponentState → Type 0) → At k Q w.parts
      → ((p : ComponentState) → Q p → slice_get w.parts k ≡ Some p → is_orphan_at k s w ≡ false → MayBefall e (without_child n p) × (begins e ≡ false)) →
      AllKnown (gone_by (Some e) k s n w)
  child_gone_known k n s e Q a g = elim (is_orphan_at k s w) as (λ b. is_orphan_at k s w ≡ b →
      AllByRecursion (Known d) (if b then child_gone k n w else lived_at k e (child_gone k n w)).parts) [
        | true ↦ λ y. changed_known (Known d) k (without_child n) w.parts all (known_at k Q (λ p. Known d (without_child n p)) (λ p x m. gone_known d n p x) a)
        | false ↦ λ y. event_known k w.moment d w.steady e (without_child n) w.parts all
            (known_at k (λ p. Q p × (slice_get w.parts k ≡ Some p)) (λ p. Known d (lived w.steady e (without_child n p)))
            (λ p x m. let r = g p m.0 m.1 y in end_known d w.steady e n p x r.0 r.1) (at_self k w.parts Q a))
      ] refl

  pub ended_known : (n : ℕ) (x : Exit) (k : ℕ) (s : Step) → owner n w.parts ≡ Some (k, s) → AllKnown (ended n x w)
  ended_known n x k s o = subst (λ (z : Option (ℕ × Step)). (let v : Components =
      (elim z [ None ↦ w | Some y ↦ gone_by (Some (event.Ended y.1 x)) y.0 y.1 n w ]) in AllByRecursion (Known d) v.parts)) (sym o)
      (child_gone_known k n s (event.Ended s x) (λ p. IsSomeAnd (child_of n p.children) (λ c. c.of ≡ s)) (owner_at n w.parts k s o) (λ p q v u. (tt, refl)))

  kill_may : (n : ℕ) (s : Step) (p : ComponentState) (e : LifeEvent) → kill_event w.moment n s p ≡ Some e → MayBefall e (without_child n p) × (begins e ≡ false)
  kill_may n s p e = elim (is_late_child w.moment n p) as (λ b. (if b then Some (event.Ended s exits.TimedOut) else option_map (λ a. event.Stop a) p.stop)
      ≡ Some e → MayBefall e (without_child n p) × (begins e ≡ false)) [
        | true ↦ λ y. subst (λ v. MayBefall v (without_child n p) × (begins v ≡ false)) (some_same (event.Ended s exits.TimedOut) e y) (tt, refl)
        | false ↦ λ y. by_asked p.stop refl y
      ]
    where
      by_asked : (q : Option After) → p.stop ≡ q → option_map (λ a. event.Stop a) q ≡ Some e → MayBefall e (without_child n p) × (begins e ≡ false)
      by_asked None q y = absurd (cc)
      by_asked (Some a) q y = subst (λ v. MayBefall v (without_child n p) × (begins v ≡ false)) (some_same (event.Stop a) e y) (q, refl)

  one_gone : (o : Option LifeEvent) (k n : ℕ) (s : Step) → At k (λ p. (is_kill_due w n s p ≡ true) × (kill_event w.moment n s p ≡ o)) w.parts →
      AllKnown (gone_by o k s n w)
  one_gone None k n s a = changed_known (Known d) k (without_child n) w.parts all
      (known_at k (λ p. (is_kill_due w n s p ≡ true) × (kill_event w.moment n s p ≡ None)) (λ p. Known d (without_child n p)) (λ p x m. gone_known d n p x) a)
  one_gone (Some e) k n s a = child_gone_known k n s e (λ p. (is_kill_due w n s p ≡ true) × (kill_event w.moment n s p ≡ Some e)) a
      (λ p q v u. kill_may n s p e q.1)

  pub killed_known : (n k : ℕ) (s : Step) → MayKill w n k s → AllKnown (killed n w)
  killed_known n k s m = subst (λ (z : Option (ℕ × Step)). (let v : Components =
      (elim z [ None ↦ w | Some y ↦ gone_by (kill_event_at y.0 y.1 n w) y.0 y.1 n w ]) in AllByRecursion (Known d) v.parts)) (sym m.0)
      (one_gone (kill_event_at k s n w) k n s (at_map k w.parts (λ p. (is_kill_due w n s p ≡ true) × (slice_get w.parts k ≡ Some p))
      (λ p. (is_kill_due w n s p ≡ true) × (kill_event w.moment n s p ≡ kill_event_at k s n w))
      (λ p x. (x.0, sym (ap (λ (o : Option ComponentState). option_and_then (kill_event w.moment n s) o) x.1)))
      (at_place k w.parts (λ p. is_kill_due w n s p ≡ true) m.1)))
    where
      at_place : (j : ℕ) (ps : List ComponentState) (P : ComponentState → Type 0) → At j P ps → At j (λ p. P p × (slice_get ps j ≡ Some p)) ps
      at_place j [] P a = absurd a
      at_place zero (p ∷ ps) P a = (a, refl)
      at_place (suc j) (p ∷ ps) P a = at_place j ps P a

-- ---- a start that was handed out and is answered

unhanded_known : (d : Bool) (p : ComponentState) → Known d p → Known d (unhanded p)
unhanded_known d p k = (unhanded_kept p k.0, k.1)

handed_known : (d : Bool) (p : ComponentState) → Known d p → Known d (record p { handed = true })
handed_known d p k = (
  record {
    sound = k.0.sound;
    steps = k.0.steps;
    runnable = k.0.runnable;
    coming = k.0.coming;
    timed = k.0.timed;
    run = k.0.run;
    gone = k.0.gone;
    own = k.0.own;
    asks = k.0.asks;
    waits = k.0.waits;
  },
  k.1,
)

module _ (d : Bool) (w : Components) (all : AllByRecursion (Known d) w.parts) where
  answered_known : (k : ℕ) → AllByRecursion (Known d) (answered_at k w).parts
  answered_known k = answered_all (Known d) (unhanded_known d) k w.parts all

  pub refused_known : (k : ℕ) (t : Step) → At k (λ p. is_begun t p ≡ true) w.parts → AllByRecursion (Known d) (refused k t w).parts
  refused_known k t a = refused_plainly d (answered_at k w) (answered_known k) k t (answered_begun k t w.parts a)

  pub skipped_known : (k : ℕ) (t : Step) → At k (λ p. is_begun t p ≡ true) w.parts → AllByRecursion (Known d) (skipped k w).parts
  skipped_known k t a = skipped_plainly d (answered_at k w) (answered_known k) k t (answered_begun k t w.parts a)

  pub started_known : (k n : ℕ) (t : Step) → At k (λ p. is_begun t p ≡ true) w.parts → AllByRecursion (Known d) (started k t n w).parts
  started_known k n t a = subst (λ (v : Components). AllByRecursion (Known d) v.parts) (started_is k t n w)
      (started_plainly d (answered_at k w) (answered_known k) k n t (answered_begun k t w.parts a))

  pub handed_on : (k : ℕ) → AllByRecursion (Known d) (handed_at k w).parts
  handed_on k = handed_all (Known d) (handed_known d) k w.parts all

-- ---- how many there are

length_marked : (may : ComponentState → Bool) (fs : Flagged) → length (marked may fs) ≡ length fs
length_marked may [] = refl
length_marked may (f ∷ fs) = ap suc (length_marked may fs)

length_reached : (k n : ℕ) (ps : List ComponentState) → length (reaching n (flagged_at k ps)) ≡ length ps
length_reached k n ps = sym (length_firsts (reaching n (flagged_at k ps))) ∙ ap (λ (qs : List ComponentState). length qs)
    (firsts_reaching n (flagged_at k ps) ∙ firsts_at k ps)

pub length_lived : (k : ℕ) (e : LifeEvent) (w : Components) → length (lived_at k e w).parts ≡ length w.parts
length_lived k e w = elim (drops_in k w e) as (λ (b : Bool). length (if b then restarted may_restart (flagged_at k (changed_at k (lived w.steady e) w.parts))
    else changed_at k (lived w.steady e) w.parts) ≡ length w.parts) [
      | true ↦ length_marked may_restart (reaching (length (flagged_at k (changed_at k (lived w.steady e) w.parts)))
          (flagged_at k (changed_at k (lived w.steady e) w.parts))) ∙ length_reached k (length (flagged_at k (changed_at k (lived w.steady e) w.parts)))
          (changed_at k (lived w.steady e) w.parts) ∙ length_changed k (lived w.steady e) w.parts
      | false ↦ length_changed k (lived w.steady e) w.parts
    ]

pub length_gone_by : (o : Option LifeEvent) (k : ℕ) (s : Step) (n : ℕ) (w : Components) → length (gone_by o k s n w).parts ≡ length w.parts
length_gone_by None k s n w = length_changed k (without_child n) w.parts
length_gone_by (Some e) k s n w = elim (is_orphan_at k s w) as (λ (b : Bool). (let v : Components =
    (if b then child_gone k n w else lived_at k e (child_gone k n w)) in length v.parts ≡ length w.parts)) [
      | true ↦ length_changed k (without_child n) w.parts
      | false ↦ length_lived k e (child_gone k n w) ∙ length_changed k (without_child n) w.parts
    ]

pub length_ended : (n : ℕ) (x : Exit) (w : Components) → length (ended n x w).parts ≡ length w.parts
length_ended n x w = elim (owner n w.parts) as (λ (o : Option (ℕ × Step)). (let v : Components =
    (elim o [ None ↦ w | Some y ↦ gone_by (Some (event.Ended y.1 x)) y.0 y.1 n w ]) in length v.parts ≡ length w.parts))
    [ None ↦ refl | Some y ↦ length_gone_by (Some (event.Ended y.1 x)) y.0 y.1 n w ]

pub length_killed : (n : ℕ) (w : Components) → length (killed n w).parts ≡ length w.parts
length_killed n w = elim (owner n w.parts) as (λ (o : Option (ℕ × Step)). (let v : Components =
    (elim o [ None ↦ w | Some y ↦ gone_by (kill_event_at y.0 y.1 n w) y.0 y.1 n w ]) in length v.parts ≡ length w.parts))
    [ None ↦ refl | Some y ↦ length_gone_by (kill_event_at y.0 y.1 n w) y.0 y.1 n w ]

length_plainly : (k n : ℕ) (t : Step) (w : Components) → length (plainly_started k t n w).parts ≡ length w.parts
length_plainly k n step.Run w = length_lived k event.Launched (record w { parts = changed_at k (with_child n step.Run w.moment) w.parts }) ∙ length_changed k
    (with_child n step.Run w.moment) w.parts
length_plainly k n step.Install w = length_changed k (with_child n step.Install w.moment) w.parts
length_plainly k n step.Startup w = length_changed k (with_child n step.Startup w.moment) w.parts
length_plainly k n step.Shutdown w = length_changed k (with_child n step.Shutdown w.moment) w.parts
length_plainly k n step.Recover w = length_changed k (with_child n step.Recover w.moment) w.parts
length_plainly k n step.Bootstrap w = length_changed k (with_child n step.Bootstrap w.moment) w.parts

pub length_started : (k n : ℕ) (t : Step) (w : Components) → length (started k t n w).parts ≡ length w.parts
length_started k n t w = sym (ap (λ (v : Components). length v.parts) (started_is k t n w)) ∙ length_plainly k n t (answered_at k w) ∙ answered_length k w.parts

pub length_refused : (k : ℕ) (t : Step) (w : Components) → length (refused k t w).parts ≡ length w.parts
length_refused k t w = length_lived k (event.Ended t exits.NotStarted) (answered_at k w) ∙ answered_length k w.parts

pub length_skipped : (k : ℕ) (w : Components) → length (skipped k w).parts ≡ length w.parts
length_skipped k w = length_lived k event.Skipped (answered_at k w) ∙ answered_length k w.parts
