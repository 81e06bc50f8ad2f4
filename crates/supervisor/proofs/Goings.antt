-- Children that come and go leave each component whole.
use Rattle.std.proofs.Common.{◌≡◌, ◌+◌, ℕ, suc, List, [], ◌∷◌, Bool, true, false, Option, Some, None, refl, sym, ap, ◌∙◌, arith, subst, ◌⊎◌, inl, inr}
use Rattle.std.specs.Prelude.{◌&&◌, ◌||◌, not, if◌then◌else◌, IfSome, IsSomeAnd, slice_get, option_map, option_and_then}
use Rattle.std.proofs.lemmas.Bool.{or_right, or_cases, and_parts, cases_Bool}
use Rattle.nuc_base.specs.declared.kinds.Step.{Step}
use Rattle.nuc_base.specs.declared.kinds.Step.TheVariants as step
use Rattle.nuc_base.specs.declared.kinds.Exit.{Exit}
use Rattle.nuc_base.specs.declared.kinds.Exit.TheVariants as exits
use Rattle.lifecycle.specs.Life.{Life}
use Rattle.lifecycle.specs.Table.{table}
use Rattle.lifecycle.specs.Awaits.{is_same_step, is_busy_with}
use Rattle.lifecycle.specs.Laws.{is_kill}
use Rattle.lifecycle.specs.declared.kinds.After.{After}
use Rattle.lifecycle.specs.declared.kinds.After.TheVariants as stops
use Rattle.lifecycle.specs.declared.kinds.LifeAct.{LifeAct}
use Rattle.lifecycle.specs.declared.kinds.LifeEvent.{LifeEvent}
use Rattle.lifecycle.specs.declared.kinds.LifeEvent.TheVariants as event
use Rattle.components.specs.Components.{Components, ComponentState, Child, At, changed_at, without_child, child_of, child_gone, owner, owner_from, is_orphan}
use Rattle.components.specs.Components.{is_gone, under_way}
use Rattle.components.specs.Deadlines.{deadline_after}
use Rattle.components.specs.Fitted.{prepared_of, limit_of}
use Rattle.components.specs.Events.{gone_by, is_orphan_at, ended, killed, kill_event, kill_event_at, is_late_child, with_child, launched, answered_at}
use Rattle.components.specs.Events.{noticed, later}
use Rattle.components.specs.Lives.{lived_at}
use Rattle.components.specs.Changes.{leaving, forgetting}
use Rattle.components.specs.declared.kinds.Event.{Event}
use Rattle.components.specs.declared.kinds.Event.TheVariants.{Started, Refused, Skipped, Ended, Passed}
use Rattle.components.specs.Turns.{may_stop}
use Rattle.components.specs.Acts.{MayKill, is_kill_due, is_stop_due, kills}
use Rattle.components.specs.Answers.{living_numbers}
use Rattle.components.specs.Readied.{AreApart}
use Rattle.components.specs.Whole.{has_run_child, keeps_run, IsWhole, AreWhole}
use Rattle.components.proofs.Tables.{after, kills_row}
use Rattle.components.proofs.Whole.{lived_whole, keeps_from, keeps_gives, other_keeps, launch_keeps, run_end_keeps, other_removed, apart_at, changed_whole}
use Rattle.components.proofs.Whole.{lived_at_whole, plain_whole}

pub at_of : (P : ComponentState → Type 0) (k : ℕ) (ps : List ComponentState) (p : ComponentState) → At k P ps → slice_get ps k ≡ Some p → P p
at_of P k ps p h e = subst (λ (o : Option ComponentState). IsSomeAnd o P) e h

-- ---- the owner of a child

owner_from_at : (j n : ℕ) (ps : List ComponentState) (k : ℕ) (s : Step) → owner_from j n ps ≡ Some (k, s)
    → (d : ℕ) × (k ≡ j + d) × At d (λ p. IsSomeAnd (child_of n p.children) (λ c. c.of ≡ s)) ps
owner_from_at j n [] k s e = absurd (cc)
owner_from_at j n (p ∷ ps) k s e = elim (child_of n p.children) as (λ o. (elim o [ None ↦ owner_from (j + 1) n ps | Some c ↦ Some (j, c.of) ]) ≡ Some (k, s) →
    child_of n p.children ≡ o → (d : ℕ) × (k ≡ j + d) × At d (λ p. IsSomeAnd (child_of n p.children) (λ c. c.of ≡ s)) (p ∷ ps)) [
      | None ↦ λ y q. (let i = owner_from_at (j + 1) n ps k s y in let a = i.1 in (suc i.0, omega (arith, a), i.2))
      | Some c ↦ λ y q. (let a : j ≡ k = ap (λ (o : Option (ℕ × Step)). elim o [ None ↦ j | Some x ↦ x.0 ]) y in
          (0, omega (arith, a), subst (λ o. IsSomeAnd o (λ d. d.of ≡ s)) (sym q) (ap (λ (o : Option (ℕ × Step)). elim o [ None ↦ s | Some x ↦ x.1 ]) y)))
    ] e refl

pub owner_at : (n : ℕ) (ps : List ComponentState) (k : ℕ) (s : Step) → owner n ps ≡ Some (k, s) →
    At k (λ p. IsSomeAnd (child_of n p.children) (λ c. c.of ≡ s)) ps
owner_at n ps k s e = let x = owner_from_at 0 n ps k s e in let a = x.1 in subst (λ j. At j (λ p. IsSomeAnd (child_of n p.children) (λ c. c.of ≡ s)) ps)
    (let z : x.0 ≡ k = omega (arith, a) in z) x.2

some_more : {X : Type 0} (o : Option X) (P Q : X → Type 0) → ((x : X) → P x → Q x) → IsSomeAnd o P → IsSomeAnd o Q
some_more None P Q f h = absurd h
some_more (Some x) P Q f h = f x h

same_run : (s : Step) → is_same_step step.Run s ≡ true → s ≡ step.Run
same_run s e = grind (arith, e)

no_run : (t : Step) → is_same_step t step.Run ≡ false → is_same_step step.Run t ≡ false
no_run t e = grind (arith, e)

not_both : (x y : Bool) → not (x && y) ≡ true → x ≡ true → y ≡ true → ⊥
not_both true true e f g = absurd (cc)
not_both true false e f g = absurd (cc)
not_both false y e f g = absurd (cc)

-- ---- a child of this step goes

module _ (w : Components) (a : AreWhole w.parts) (apart : AreApart (living_numbers w.parts)) (k n : ℕ) (s : Step) (own : owner n w.parts ≡ Some (k, s)) where
  -- the run child stays where another one goes
  stays : (p : ComponentState) → slice_get w.parts k ≡ Some p → is_same_step step.Run s ≡ false → has_run_child p.children ≡ true →
      has_run_child (without_child n p).children ≡ true
  stays p i ne h =
      other_removed n p.children (apart_at k w.parts p apart i)
      (some_more (child_of n p.children) (λ c. c.of ≡ s) (λ c. is_same_step step.Run c.of ≡ false) (λ c e. ap (is_same_step step.Run) e ∙ ne)
      (at_of (λ p. IsSomeAnd (child_of n p.children) (λ c. c.of ≡ s)) k w.parts p (owner_at n w.parts k s own) i)) h

  -- one that outlived its component's stop
  orphan_keeps : (p : ComponentState) → slice_get w.parts k ≡ Some p → is_orphan p.life s ≡ true → IsWhole p → keeps_run p.life (without_child n p).children
      ≡ true
  orphan_keeps p i o h =
      let x = and_parts (not (is_busy_with s p.life.busy)) (not (is_same_step s step.Run && p.life.runs)) o in
      elim (cases_Bool (is_same_step s step.Run)) [
        | inl y ↦ keeps_from p.life (without_child n p).children (λ q. absurd (not_both (is_same_step s step.Run) p.life.runs x.1 y q))
        | inr y ↦ keeps_from p.life (without_child n p).children
            (λ q. elim (keeps_gives p.life p.children h.run q) [ inl g ↦ inl g | inr r ↦ inr (stays p i (no_run s y) r) ])
      ]

  pub orphan_goes : ((p : ComponentState) → slice_get w.parts k ≡ Some p → is_orphan p.life s ≡ true) → AreWhole (child_gone k n w).parts
  orphan_goes o = changed_whole (without_child n) k w.parts a (λ p i h. record { may = h.may; run = orphan_keeps p i (o p i) h })

  pub event_goes : (e : LifeEvent) → ((p : ComponentState) → slice_get w.parts k ≡ Some p → IsWhole p →
      keeps_run (after e p.life) (without_child n p).children ≡ true) → AreWhole (lived_at k e (child_gone k n w)).parts
  event_goes e g = lived_at_whole k e (without_child n) w a (λ p i h. lived_whole w.steady e (without_child n p) h.may (g p i h))

  -- its end
  end_keeps : (x : Exit) (p : ComponentState) → slice_get w.parts k ≡ Some p → IsWhole p → keeps_run (after (event.Ended s x) p.life)
      (without_child n p).children ≡ true
  end_keeps x p i h = elim (cases_Bool (is_same_step step.Run s)) [
    | inl y ↦ subst (λ (t : Step). keeps_run (after (event.Ended t x) p.life) (without_child n p).children ≡ true) (sym (same_run s y))
        (run_end_keeps p.life x (without_child n p).children h.may)
    | inr y ↦ other_keeps (event.Ended s x) p.life p.children (without_child n p).children refl h.run (stays p i y)
  ]

  orphan_there : (b : Bool) → is_orphan_at k s w ≡ b → (p : ComponentState) → slice_get w.parts k ≡ Some p → is_orphan p.life s ≡ b
  orphan_there b e p i = sym (ap (λ (o : Option ComponentState). elim o [ None ↦ false | Some q ↦ is_orphan q.life s ]) i) ∙ e

  -- an event with a child that goes
  pub some_goes : (e : LifeEvent) → ((p : ComponentState) → slice_get w.parts k ≡ Some p → is_orphan p.life s ≡ false → IsWhole p →
      keeps_run (after e p.life) (without_child n p).children ≡ true)
      → AreWhole (gone_by (Some e) k s n w).parts
  some_goes e g = by_orphan (is_orphan_at k s w) refl where
    by_orphan : (b : Bool) → is_orphan_at k s w ≡ b → AreWhole (if b then child_gone k n w else lived_at k e (child_gone k n w)).parts
    by_orphan true o = orphan_goes (orphan_there true o)
    by_orphan false o = event_goes e (λ p i h. g p i (orphan_there false o p i) h)

  pub end_goes : (x : Exit) → AreWhole (gone_by (Some (event.Ended s x)) k s n w).parts
  end_goes x = some_goes (event.Ended s x) (λ p i o h. end_keeps x p i h)

  -- a kill that is due
  module _ (due : At k (λ p. is_kill_due w n s p ≡ true) w.parts) where
    stop_kills : (p : ComponentState) (st : After) → p.stop ≡ Some st → is_stop_due w p ≡ true → kills (event.Stop st) p ≡ true
    stop_kills p st e d = subst (λ (o : Option After). (elim o [ None ↦ false | Some x ↦ kills (event.Stop x) p ]) ≡ true) e
        (and_parts (may_stop w p) (elim p.stop [ None ↦ false | Some x ↦ kills (event.Stop x) p ]) d).1

    killed_keeps : (c : Life) (cs : List Child) (o : Option (LifeAct × Life)) → IfSome o (λ r. is_kill r.0 ≡ true → r.1.runs ≡ false) →
        (elim o [ None ↦ false | Some r ↦ is_kill r.0 ]) ≡ true → keeps_run (elim o [ None ↦ c | Some r ↦ r.1 ]) cs ≡ true
    killed_keeps c cs None i e = absurd (cc)
    killed_keeps c cs (Some r) i e = keeps_from r.1 cs (λ q. absurd (let z = i e in cc))

    stop_none : (p : ComponentState) → p.stop ≡ None → is_stop_due w p ≡ true → ⊥
    stop_none p e d = let x = subst (λ (o : Option After). (elim o [ None ↦ false | Some y ↦ kills (event.Stop y) p ]) ≡ true) e
        (and_parts (may_stop w p) (elim p.stop [ None ↦ false | Some y ↦ kills (event.Stop y) p ]) d).1 in absurd (cc)

    due_here : (p : ComponentState) → slice_get w.parts k ≡ Some p → is_late_child w.moment n p ≡ false → (is_orphan p.life s ≡ true) ⊎ (is_stop_due w p ≡ true)
    due_here p i l = late_no (is_late_child w.moment n p) (is_orphan p.life s) (is_stop_due w p) (at_of (λ p. is_kill_due w n s p ≡ true) k w.parts p due i) l
      where
        late_no : (x y z : Bool) → (x || (y || z)) ≡ true → x ≡ false → (y ≡ true) ⊎ (z ≡ true)
        late_no true y z e f = absurd (cc)
        late_no false y z e f = or_cases y z e

    orphan_or : (p : ComponentState) → slice_get w.parts k ≡ Some p → is_late_child w.moment n p ≡ false → is_orphan p.life s ≡ false → is_stop_due w p ≡ true
    orphan_or p i l o = elim (due_here p i l) [ inl x ↦ absurd (cc) | inr x ↦ x ]

    only : (p q : ComponentState) → slice_get w.parts k ≡ Some p → slice_get w.parts k ≡ Some q → p ≡ q
    only p q i j = let e : Some p ≡ Some q = sym i ∙ j in cc

    by_stop : (p : ComponentState) → slice_get w.parts k ≡ Some p → is_late_child w.moment n p ≡ false → (o : Option After) → p.stop ≡ o →
        AreWhole (gone_by (option_map (λ st. event.Stop st) o) k s n w).parts
    by_stop p i l None e = orphan_goes (λ q j. elim (due_here p i l) [
      | inl x ↦ subst (λ (r : ComponentState). is_orphan r.life s ≡ true) (only p q i j) x
      | inr x ↦ absurd (stop_none p e x)
    ])
    by_stop p i l (Some st) e = some_goes (event.Stop st) (λ q j o h.
        let r : p ≡ q = only p q i j in
        let d : is_stop_due w q ≡ true = orphan_or q j (subst (λ (x : ComponentState). is_late_child w.moment n x ≡ false) r l) o in
        killed_keeps q.life (without_child n q).children (table q.life (event.Stop st)) (kills_row q.life (event.Stop st))
        (stop_kills q st (subst (λ (x : ComponentState). x.stop ≡ Some st) r e) d))

    by_late : (p : ComponentState) → slice_get w.parts k ≡ Some p → (b : Bool) → is_late_child w.moment n p ≡ b
        → AreWhole (gone_by (if b then Some (event.Ended s exits.TimedOut) else option_map (λ st. event.Stop st) p.stop) k s n w).parts
    by_late p i true l = end_goes exits.TimedOut
    by_late p i false l = by_stop p i l p.stop refl

    by_part : (o : Option ComponentState) → slice_get w.parts k ≡ o → At k (λ p. is_kill_due w n s p ≡ true) w.parts →
        AreWhole (gone_by (option_and_then (kill_event w.moment n s) o) k s n w).parts
    by_part None e d = absurd (subst (λ (o : Option ComponentState). IsSomeAnd o (λ p. is_kill_due w n s p ≡ true)) e d)
    by_part (Some p) e d = by_late p e (is_late_child w.moment n p) refl

    pub kill_goes : AreWhole (gone_by (kill_event_at k s n w) k s n w).parts
    kill_goes = by_part (slice_get w.parts k) refl due

pub ended_whole : (n : ℕ) (x : Exit) (w : Components) → AreWhole w.parts → AreApart (living_numbers w.parts) → AreWhole (ended n x w).parts
ended_whole n x w a p = by_owner (owner n w.parts) refl where
  by_owner : (o : Option (ℕ × Step)) → owner n w.parts ≡ o →
      (let v : Components = elim o [ None ↦ w | Some y ↦ gone_by (Some (event.Ended y.1 x)) y.0 y.1 n w ] in AreWhole v.parts)
  by_owner None e = a
  by_owner (Some y) e = end_goes w a p y.0 n y.1 e x

pub killed_whole : (n k : ℕ) (s : Step) (w : Components) → AreWhole w.parts → AreApart (living_numbers w.parts) → MayKill w n k s → AreWhole (killed n w).parts
killed_whole n k s w a p m = subst (λ (o : Option (ℕ × Step)). let v : Components =
    elim o [ None ↦ w | Some y ↦ gone_by (kill_event_at y.0 y.1 n w) y.0 y.1 n w ] in AreWhole v.parts) (sym m.0) (kill_goes w a p k n s m.0 m.1)

-- ---- a child comes

with_one : (c : Life) (d : Child) (cs : List Child) → keeps_run c cs ≡ true → keeps_run c (d ∷ cs) ≡ true
with_one c d cs h = keeps_from c (d ∷ cs) (λ q. elim (keeps_gives c cs h q) [
  | inl g ↦ inl g
  | inr r ↦ inr
      (or_right (is_same_step step.Run d.of) (has_run_child cs) r)
])

abbrev child_from : ℕ → Step → ℕ → ComponentState → Child
child_from n t m p = record { number = n; of = t; deadline = deadline_after (limit_of (prepared_of p.fitted t)) m }

pub started_whole : (k : ℕ) (s : Step) (n m : ℕ) (w : Components) → AreWhole w.parts →
    AreWhole (launched s k (record w { parts = changed_at k (λ p. with_child n s m (record p { handed = false })) w.parts })).parts
started_whole k s n m w a = by_step s where
  comes : (t : Step) → AreWhole (changed_at k (λ p. with_child n t m (record p { handed = false })) w.parts)
  comes t = changed_whole (λ p. with_child n t m (record p { handed = false })) k w.parts a (λ p i h.
      record { may = h.may; run = with_one p.life (child_from n t m p) p.children h.run })

  by_step : (t : Step) → AreWhole (launched t k (record w { parts = changed_at k (λ p. with_child n t m (record p { handed = false })) w.parts })).parts
  by_step step.Install = comes step.Install
  by_step step.Run = lived_at_whole k event.Launched (λ p. with_child n step.Run m (record p { handed = false })) w a (λ p i h.
      lived_whole w.steady event.Launched (with_child n step.Run m (record p { handed = false })) h.may
      (launch_keeps (after event.Launched p.life) (child_from n step.Run m p ∷ p.children) refl))
  by_step step.Startup = comes step.Startup
  by_step step.Shutdown = comes step.Shutdown
  by_step step.Recover = comes step.Recover
  by_step step.Bootstrap = comes step.Bootstrap

-- ---- what changes no life and no child

pub handed_whole : (b : Bool) (k : ℕ) (ps : List ComponentState) → AreWhole ps → AreWhole (changed_at k (λ p. record p { handed = b }) ps)
handed_whole b k ps a = changed_whole (λ p. record p { handed = b }) k ps a (λ p i h. record { may = h.may; run = h.run })

pub told_whole : (k : ℕ) (ps : List ComponentState) → AreWhole ps → AreWhole (changed_at k (λ p. record p { owed = None }) ps)
told_whole k ps a = changed_whole (λ p. record p { owed = None }) k ps a (λ p i h. record { may = h.may; run = h.run })

leaving_by : (b d : Bool) (p : ComponentState) → IsWhole p →
    IsWhole (if b then p else (if d then record p { stop = None; next = None } else record p { stop = Some stops.Gone; next = None }))
leaving_by true d p h = h
leaving_by false true p h = record { may = h.may; run = h.run }
leaving_by false false p h = record { may = h.may; run = h.run }

pub leaving_whole : (p : ComponentState) → IsWhole p → IsWhole (leaving p)
leaving_whole p h = leaving_by p.life.gone (is_gone (under_way p.life)) p h

pub forgetting_whole : (p : ComponentState) → IsWhole p → IsWhole (forgetting p)
forgetting_whole p h = record { may = h.may; run = h.run }

-- ---- whatever befalls the components

pub event_whole : (w : Components) (e : Event) (m : ℕ) → AreApart (living_numbers w.parts) → AreWhole w.parts → AreWhole (noticed e (later m w)).parts
event_whole w (Started k s n) m p h = started_whole k s n m (later m w) h
event_whole w (Refused k s) m p h = plain_whole k (event.Ended s exits.NotStarted) (answered_at k (later m w)) refl (handed_whole false k w.parts h)
event_whole w (Skipped k s) m p h = plain_whole k event.Skipped (answered_at k (later m w)) refl (handed_whole false k w.parts h)
event_whole w (Ended n e) m p h = ended_whole n e (later m w) h p
event_whole w Passed m p h = h
