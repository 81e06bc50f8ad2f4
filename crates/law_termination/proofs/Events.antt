-- Each event keeps what is kept.
use Rattle.std.proofs.Common.{◌∙◌, ◌≡◌, ◌==◌, ℕ, List, [], ◌∷◌, Option, Some, None, Bool, true, false, refl, sym, ap, arith, subst, slice_get}
use Rattle.std.specs.Prelude.{◌&&◌, ◌||◌, not, if◌then◌else◌, filter, option_and_then, option_map}
use Rattle.std.specs.List.{AllByRecursion, list_all}
use Rattle.std.specs.Option.{IsSomeAnd}
use Rattle.std.proofs.lemmas.Bool.{and_parts}
use Rattle.nuc_base.specs.declared.kinds.Exit.{Exit}
use Rattle.nuc_base.specs.declared.kinds.Exit.TheVariants as exits
use Rattle.nuc_base.specs.declared.kinds.Step.{Step}
use Rattle.nuc_base.specs.declared.kinds.Step.TheVariants as step
use Rattle.lifecycle.specs.Awaits.{is_awaited, is_stopping}
use Rattle.lifecycle.specs.declared.kinds.After.{After}
use Rattle.lifecycle.specs.declared.kinds.After.TheVariants as after
use Rattle.lifecycle.specs.declared.kinds.LifeEvent.{LifeEvent}
use Rattle.lifecycle.specs.declared.kinds.LifeEvent.TheVariants as event
use Rattle.components.specs.Acts.{OwesAt, kills, spares, MayKill, MayMove, is_kill_due, is_stop_due, HandsOut, HasStart, Move, NextAct, MovesInOrder}
use Rattle.components.specs.Components.{At, Child, ComponentState, Components, changed_at, child_gone, child_of, is_broken, is_orphan, is_to_stop, owner}
use Rattle.components.specs.Components.{component_name, place_of, stands_up, without_child}
use Rattle.components.specs.Deadlines.{deadline_after}
use Rattle.components.specs.Events.{ended, gone_by, handed_at, is_late_child, is_orphan_at, kill_event, kill_event_at, killed, refused, skipped, started}
use Rattle.components.specs.Events.{heard_at, with_child, later}
use Rattle.components.specs.Fitted.{limit_of, prepared_of}
use Rattle.components.specs.Lives.{lived_at}
use Rattle.components.specs.Turns.{is_begun, is_met, may_begin, may_retry, serves_softly, may_stop, hard_needs}
use Rattle.components.specs.declared.kinds.Act.{Act}
use Rattle.components.specs.declared.kinds.Act.TheVariants as acts
use Rattle.law_supervisor.proofs.Gone.{owner_at}
use Rattle.law_supervisor.proofs.Lists.{second_true, some_same, not_so, changed_nothing}
use Rattle.law_termination.specs.Drives.{GoesOn, IsInTime, AreDriven}
use Rattle.law_termination.specs.Kept.{AreKept, IsKeptPart}
use Rattle.law_termination.proofs.Answered.{handed_all}
use Rattle.law_termination.proofs.Befalls.{IsReady, any, event_on, same_order, sources}
use Rattle.law_termination.proofs.Carried.{IsCarried, IsSource, carried_changed, carried_still}
use Rattle.law_termination.proofs.Held.{can_stop}
use Rattle.law_termination.proofs.Lists.{Has}
use Rattle.law_termination.proofs.Near.{all_of}
use Rattle.law_termination.proofs.Parts.{orphan_at, handed_kept}
use Rattle.law_termination.proofs.Still.{IsStill, among}
use Rattle.law_termination.proofs.Sums.{at_self, at_both, at_map}
use Rattle.law_termination.proofs.Whole.{end_keeps, kill_keeps, move_keeps, refuse_keeps, skip_keeps, start_keeps, told_keeps}

-- ---- the children

in_time_but : (n : ℕ) (cs : List Child) → AllByRecursion IsInTime cs → AllByRecursion IsInTime (filter (λ (c : Child). not (c.number == n)) cs)
in_time_but n [] h = tt
in_time_but n (c ∷ cs) h = elim (c.number == n) as (λ (b : Bool). AllByRecursion IsInTime (if not b then c
    ∷ filter (λ (c : Child). not (c.number == n)) cs else filter (λ (c : Child). not (c.number == n)) cs))
    [ true ↦ in_time_but n cs h.1 | false ↦ (h.0, in_time_but n cs h.1) ]

deadline_in_time : (o : Option ℕ) (m n : ℕ) (s : Step) → IsInTime (record { number = n; of = s; deadline = deadline_after o m })
deadline_in_time None m n s = tt
deadline_in_time (Some l) m n s = omega arith

-- with other children alone
still_among : (cs : List Child) (h : Bool) (p : ComponentState) → (AllByRecursion IsInTime p.children → AllByRecursion IsInTime cs) → IsStill p (among cs h p)
still_among cs h p f = record {
  shown = refl;
  gone = λ g. g;
  ends = λ e. e;
  needs = all_of (λ n. Has n (hard_needs p)) (hard_needs p) (λ n x. x);
  apart = λ a. a;
  takes = λ a. a;
  in_time = f;
}

module _ (w : Components) (i : AreDriven w) where
  children_on : (k : ℕ) (g : ComponentState → ComponentState) → At k (λ p. IsStill p (g p)) w.parts → AreKept (record w { parts = changed_at k g w.parts }) →
      GoesOn w (record w { parts = changed_at k g w.parts })
  children_on k g a alone = same_order w i (record w { parts = changed_at k g w.parts }) alone (carried_changed any i.r w.parts k g w.parts (sources w i)
      (at_map k w.parts (λ p. IsSource any i.r w.parts p × IsStill p (g p)) (λ p. IsCarried any i.r w.parts p (g p)) (λ p x. carried_still any i.r w.parts p
      (g p) x.0 x.1) (at_both k w.parts (IsSource any i.r w.parts) (λ p. IsStill p (g p)) (sources w i) a)))

  -- ---- moves

  alone_moves : (k : ℕ) (e : LifeEvent) → At k (IsReady w i e (λ p. p.children) (λ p. p.handed)) w.parts → AreKept (lived_at k e w) → GoesOn w (lived_at k e w)
  alone_moves k e a alone =
      let same = changed_nothing k w.parts in
      subst (λ (ps : List ComponentState). GoesOn w (lived_at k e (record w { parts = ps }))) same
      (event_on w i k e (λ p. p.children) (λ p. p.handed) a (subst (λ (ps : List ComponentState). AreKept (lived_at k e (record w { parts = ps })))
      (sym same) alone))

  stop_ready : (cs : ComponentState → List Child) (hs : ComponentState → Bool) (a : After) (p : ComponentState) → p.stop ≡ Some a → may_stop w p ≡ true →
      (AllByRecursion IsInTime p.children → AllByRecursion IsInTime (cs p)) → IsReady w i (event.Stop a) cs hs p
  stop_ready cs hs after.Restart p e m f = record { may = e; in_time = f; free = tt }
  stop_ready cs hs after.Again p e m f =
      let c = can_stop w p after.Again e m in
      let z = and_parts (not p.life.gone) (not (is_stopping p.life.state)) c.0 in
      record { may = e; in_time = f; free = record { asked = e; stands = not_so p.life.gone z.0; idle = not_so (is_stopping p.life.state) z.1; free = c.1 } }
  stop_ready cs hs after.Gone p e m f =
      let c = can_stop w p after.Gone e m in
      let z = and_parts (not p.life.gone) (not (is_stopping p.life.state)) c.0 in
      record { may = e; in_time = f; free = record { asked = e; stands = not_so p.life.gone z.0; idle = not_so (is_stopping p.life.state) z.1; free = c.1 } }

  ready : (k : ℕ) (e : LifeEvent) → MayMove w k e → At k (IsReady w i e (λ p. p.children) (λ p. p.handed)) w.parts
  ready k event.MayBegin a = at_map k w.parts (λ p. may_begin w p ≡ true) (IsReady w i event.MayBegin (λ p. p.children) (λ p. p.handed)) (λ p m.
      let y = and_parts (is_awaited event.MayBegin p.life && not (is_to_stop p)) (list_all (is_met stands_up w.parts) p.fitted.hard
      && list_all (is_met serves_softly w.parts) p.fitted.soft) m in
      record { may = not_so (is_to_stop p) (and_parts (is_awaited event.MayBegin p.life) (not (is_to_stop p)) y.0).1; in_time = λ h. h; free = tt }) a
  ready k event.Retry a = at_map k w.parts (λ p. may_retry p ≡ true) (IsReady w i event.Retry (λ p. p.children) (λ p. p.handed)) (λ p m.
      record { may = not_so (is_to_stop p) (and_parts (is_awaited event.Retry p.life) (not (is_to_stop p)) m).1; in_time = λ h. h; free = tt }) a
  ready k (event.Stop s) a = at_map k w.parts (λ p. (may_stop w p ≡ true) × (p.stop ≡ Some s) ×
      (spares (event.Stop s) p ≡ true)) (IsReady w i (event.Stop s) (λ p. p.children) (λ p. p.handed))
      (λ p m. stop_ready (λ p. p.children) (λ p. p.handed) s p m.1 m.0 (λ h. h)) a
  ready k event.Launched a = absurd a
  ready k event.Skipped a = absurd a
  ready k (event.Ended s x) a = absurd a

  pub move_on : (k : ℕ) (e : LifeEvent) → MayMove w k e → GoesOn w (lived_at k e w)
  move_on k e m = alone_moves k e (ready k e m) (move_keeps w i.alone k e m).kept

  pub told_on : (k : ℕ) (s : Step) (x : Exit) (b : Bool) → OwesAt w k s x b → GoesOn w (heard_at k w)
  told_on k s x b o = children_on k (λ p. record p { owed = None })
      (at_map k w.parts (λ p. (p.owed ≡ Some (s, x)) × (is_broken p.life.state ≡ b) × (place_of (component_name p) w.parts ≡ Some k)) (λ p. IsStill p
      (record p { owed = None }))
      (λ p y. record {
        shown = refl;
        gone = λ g. g;
        ends = λ e. e;
        needs = all_of (λ n. Has n (hard_needs p)) (hard_needs p) (λ n z. z);
        apart = λ a. a;
        takes = λ a. a;
        in_time = λ h. h;
      }) o)
      (told_keeps w i.alone k s x b o).kept

  pub handed_on : (k : ℕ) → At k (λ p. Unit {0}) w.parts → AreKept (handed_at k w) → GoesOn w (handed_at k w)
  handed_on k a alone = children_on k (λ p. record p { handed = true }) (at_map k w.parts (λ p. Unit {0}) (λ p. IsStill p (record p { handed = true }))
      (λ p x. still_among p.children true p (λ h. h)) a) alone

  unhanded_ready : (k : ℕ) (t : Step) (e : LifeEvent) → ((p : ComponentState) → IsReady w i e (λ p. p.children) (λ p. false) p) →
      At k (λ p. is_begun t p ≡ true) w.parts → At k (IsReady w i e (λ p. p.children) (λ p. false)) w.parts
  unhanded_ready k t e f a = at_map k w.parts (λ p. is_begun t p ≡ true) (IsReady w i e (λ p. p.children) (λ p. false)) (λ p m. f p) a

  pub refuse_on : (k : ℕ) (s : Step) → At k (λ p. is_begun s p ≡ true) w.parts → GoesOn w (refused k s w)
  refuse_on k s a = event_on w i k (event.Ended s exits.NotStarted) (λ p. p.children) (λ p. false) (unhanded_ready k s (event.Ended s exits.NotStarted)
      (λ p. record { may = tt; in_time = λ h. h; free = tt }) a) (refuse_keeps w i.alone k s a).kept

  pub skip_on : (k : ℕ) (s : Step) → At k (λ p. is_begun s p ≡ true) w.parts → GoesOn w (skipped k w)
  skip_on k s a = event_on w i k event.Skipped (λ p. p.children) (λ p. false) (unhanded_ready k s event.Skipped (λ p. record {
    may = tt;
    in_time = λ h. h;
    free = tt;
  }) a) (skip_keeps w i.alone k s a).kept

  -- ---- a start

  abbrev born : ℕ → Step → ComponentState → ComponentState
  born n s p = with_child n s w.moment (record p { handed = false })

  born_in_time : (n : ℕ) (s : Step) (p : ComponentState) → AllByRecursion IsInTime p.children → AllByRecursion IsInTime (born n s p).children
  born_in_time n s p h = (deadline_in_time (limit_of (prepared_of p.fitted s)) w.moment n s, h)

  born_on : (k n : ℕ) (s : Step) → At k (λ p. is_begun s p ≡ true) w.parts → AreKept (record w { parts = changed_at k (born n s) w.parts }) →
      GoesOn w (record w { parts = changed_at k (born n s) w.parts })
  born_on k n s a alone = children_on k (born n s) (at_map k w.parts (λ p. is_begun s p ≡ true) (λ p. IsStill p (born n s p)) (λ p m. still_among
      (born n s p).children false p (born_in_time n s p)) a) alone

  start_by : (k n : ℕ) (s : Step) → At k (λ p. is_begun s p ≡ true) w.parts → AreKept (started k s n w) → GoesOn w (started k s n w)
  start_by k n step.Run a alone = event_on w i k event.Launched (λ p. (born n step.Run p).children) (λ p. false)
      (at_map k w.parts (λ p. is_begun step.Run p ≡ true) (IsReady w i event.Launched (λ p. (born n step.Run p).children) (λ p. false))
      (λ p m. record { may = tt; in_time = born_in_time n step.Run p; free = tt }) a) alone
  start_by k n step.Install a alone = born_on k n step.Install a alone
  start_by k n step.Startup a alone = born_on k n step.Startup a alone
  start_by k n step.Shutdown a alone = born_on k n step.Shutdown a alone
  start_by k n step.Recover a alone = born_on k n step.Recover a alone
  start_by k n step.Bootstrap a alone = born_on k n step.Bootstrap a alone

  pub start_on : (k n : ℕ) (s : Step) → At k (λ p. is_begun s p ≡ true) w.parts → GoesOn w (started k s n w)
  start_on k n s a = start_by k n s a (start_keeps w i.alone k n s a).kept

  -- ---- a child that is gone

  abbrev rest : ℕ → ComponentState → List Child
  rest n p = filter (λ (c : Child). not (c.number == n)) p.children

  gone_on : (k n : ℕ) (P : ComponentState → Type 0) → At k P w.parts → AreKept (child_gone k n w) → GoesOn w (child_gone k n w)
  gone_on k n P a alone = children_on k (without_child n) (at_map k w.parts P (λ p. IsStill p (without_child n p)) (λ p x. still_among (rest n p) p.handed p
      (in_time_but n p.children)) a) alone

  gone_by_on : (k n : ℕ) (s : Step) (e : LifeEvent) → At k (IsReady w i e (rest n) (λ p. p.handed)) w.parts → AreKept (gone_by (Some e) k s n w) →
      GoesOn w (gone_by (Some e) k s n w)
  gone_by_on k n s e a = elim (is_orphan_at k s w) as (λ (b : Bool). AreKept (if b then child_gone k n w else lived_at k e (child_gone k n w)) →
      GoesOn w (if b then child_gone k n w else lived_at k e (child_gone k n w))) [
        | true ↦ λ alone. gone_on k n (IsReady w i e (rest n) (λ p. p.handed)) a alone
        | false ↦ λ alone. event_on w i k e (rest n) (λ p. p.handed) a alone
      ]

  pub end_on : (n : ℕ) (x : Exit) (k : ℕ) (s : Step) → owner n w.parts ≡ Some (k, s) → GoesOn w (ended n x w)
  end_on n x k s o = subst (λ (z : Option (ℕ × Step)). (let v : Components = (elim z [
    | None ↦ w
    | Some y ↦ gone_by (Some (event.Ended y.1 x)) y.0 y.1 n w
  ]) in AreKept v → GoesOn w v)) (sym o)
      (λ alone. gone_by_on k n s (event.Ended s x) (at_map k w.parts (λ p. IsSomeAnd (child_of n p.children) (λ c. c.of ≡ s)) (IsReady w i (event.Ended s x)
      (rest n) (λ p. p.handed))
      (λ p q. record { may = tt; in_time = in_time_but n p.children; free = tt }) (owner_at n w.parts k s o)) alone)
      (end_keeps w i.alone n x k s o).kept

  -- ---- a kill

  kill_ready : (n : ℕ) (s : Step) (p : ComponentState) (e : LifeEvent) → is_orphan p.life s ≡ false → is_kill_due w n s p ≡ true →
      kill_event w.moment n s p ≡ Some e → IsReady w i e (rest n) (λ q. q.handed) p
  kill_ready n s p e o d k = elim (is_late_child w.moment n p) as (λ b. (b || (is_orphan p.life s || is_stop_due w p)) ≡ true →
      (if b then Some (event.Ended s exits.TimedOut) else option_map (λ a. event.Stop a) p.stop) ≡ Some e → IsReady w i e (rest n) (λ q. q.handed) p) [
        | true ↦ λ x y. subst (λ v. IsReady w i v (rest n) (λ q. q.handed) p) (some_same (event.Ended s exits.TimedOut) e y) (record {
          may = tt;
          in_time = in_time_but n p.children;
          free = tt;
        })
        | false ↦ λ x y. by_asked p.stop refl (second_true (is_orphan p.life s) (is_stop_due w p) x o) y
      ] d k
    where
      by_asked : (q : Option After) → p.stop ≡ q → is_stop_due w p ≡ true → option_map (λ a. event.Stop a) q ≡ Some e → IsReady w i e (rest n) (λ q. q.handed) p
      by_asked None q z y = absurd (cc)
      by_asked (Some a) q z y = subst (λ v. IsReady w i v (rest n) (λ q. q.handed) p) (some_same (event.Stop a) e y)
          (stop_ready (rest n) (λ q. q.handed) a p q (and_parts (may_stop w p) (elim p.stop [ None ↦ false | Some b ↦ kills (event.Stop b) p ]) z).0
          (in_time_but n p.children))

  orphan_or : (k n : ℕ) (s : Step) (e : LifeEvent) → At k (λ p. (is_kill_due w n s p ≡ true) × (kill_event w.moment n s p ≡ Some e)) w.parts →
      AreKept (gone_by (Some e) k s n w) → GoesOn w (gone_by (Some e) k s n w)
  orphan_or k n s e a = elim (is_orphan_at k s w) as (λ (b : Bool). is_orphan_at k s w ≡ b →
      AreKept (if b then child_gone k n w else lived_at k e (child_gone k n w)) → GoesOn w (if b then child_gone k n w else lived_at k e (child_gone k n w))) [
        | true ↦ λ y alone. gone_on k n (λ p. (is_kill_due w n s p ≡ true) × (kill_event w.moment n s p ≡ Some e)) a alone
        | false ↦ λ y alone. event_on w i k e (rest n) (λ p. p.handed)
            (at_map k w.parts (λ p. ((is_kill_due w n s p ≡ true) × (kill_event w.moment n s p ≡ Some e)) ×
            (slice_get w.parts k ≡ Some p)) (IsReady w i e (rest n) (λ p. p.handed))
            (λ p x. kill_ready n s p e (orphan_at k s w p x.1 false y) x.0.0 x.0.1) (at_self k w.parts (λ p. (is_kill_due w n s p ≡ true) ×
            (kill_event w.moment n s p ≡ Some e)) a)) alone
      ] refl

  killed_by : (o : Option LifeEvent) (k n : ℕ) (s : Step) → At k (λ p. (is_kill_due w n s p ≡ true) × (kill_event w.moment n s p ≡ o)) w.parts →
      AreKept (gone_by o k s n w) → GoesOn w (gone_by o k s n w)
  killed_by None k n s a alone = gone_on k n (λ p. (is_kill_due w n s p ≡ true) × (kill_event w.moment n s p ≡ None)) a alone
  killed_by (Some e) k n s a alone = orphan_or k n s e a alone

  pub kill_on : (n k : ℕ) (s : Step) → MayKill w n k s → GoesOn w (killed n w)
  kill_on n k s m = subst (λ (z : Option (ℕ × Step)). (let v : Components = (elim z [
    | None ↦ w
    | Some y ↦ gone_by (kill_event_at y.0 y.1 n w) y.0 y.1 n w
  ]) in AreKept v → GoesOn w v)) (sym m.0)
      (killed_by (kill_event_at k s n w) k n s (at_map k w.parts (λ p. (is_kill_due w n s p ≡ true) ×
      (slice_get w.parts k ≡ Some p)) (λ p. (is_kill_due w n s p ≡ true) × (kill_event w.moment n s p ≡ kill_event_at k s n w))
      (λ p x. (x.0, sym (ap (λ (o : Option ComponentState). option_and_then (kill_event w.moment n s) o) x.1))) (at_self k w.parts (λ p. is_kill_due w n s p
      ≡ true) m.1)))
      (kill_keeps w i.alone n k s m).kept

-- ---- one after another

pub goes_through : (u v w : Components) → GoesOn u v → GoesOn v w → GoesOn u w
goes_through u v w a b = record { drives = b.drives; stays = b.stays ∙ a.stays }

self_on : (w : Components) → AreDriven w → GoesOn w w
self_on w d = record { drives = d; stays = refl }

pub later_on : (w : Components) → AreDriven w → (m : ℕ) → GoesOn w (later m w)
later_on w i m = record { drives = record { alone = i.alone; names = i.names; r = i.r; s = i.s; ordered = i.ordered; each = i.each }; stays = refl }

-- ---- the next act

pub quiet_on : (w v : Components) (ms : List Move) → MovesInOrder w ms v → AreDriven w → GoesOn w v
quiet_on w v [] q i = subst (GoesOn w) (sym q) (self_on w i)
quiet_on w v (m ∷ ms) q i = let x = move_on w i m.who m.what q.1 in
    goes_through w (lived_at m.who m.what w) v x (quiet_on (lived_at m.who m.what w) v ms q.2 x.drives)

hand_on : (w : Components) (act : Option Act) (v : Components) → AreDriven w → HandsOut w act v → GoesOn w v
hand_on w None v i h = subst (GoesOn w) (sym h.1) (self_on w i)
hand_on w (Some (acts.Start k t)) v i h = subst (GoesOn w) (sym h.2)
    (handed_on w i k (at_map k w.parts (HasStart t) (λ p. Unit {0}) (λ p x. tt) h.1) (handed_all IsKeptPart handed_kept k w.parts i.alone))
hand_on w (Some (acts.Kill n)) v i h = subst (GoesOn w) (sym h.4) (kill_on w i n h.0 h.1 h.3)
hand_on w (Some (acts.Failed k t e)) v i h = subst (GoesOn w) (sym h.1) (told_on w i k t e false h.0)
hand_on w (Some (acts.Broke k t e)) v i h = subst (GoesOn w) (sym h.1) (told_on w i k t e true h.0)

pub next_on : (w v : Components) (act : Option Act) → NextAct w act v → AreDriven w → GoesOn w v
next_on w v act n i = let x = quiet_on w n.seen n.made n.quietly i in goes_through w n.seen v x (hand_on n.seen act v x.drives n.hands)
