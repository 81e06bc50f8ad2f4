-- Where nothing may act, what was to be is reached, or a deadline is still to come: the greatest that is to be stopped can be
-- stopped, and the least that is down can begin.
use Rattle.std.proofs.Common.{◌≡◌, ◌<◌, ◌≤◌, ℕ, List, [], ◌∷◌, Option, Some, None, Bool, true, false, refl, sym, ap, ◌∙◌, ◌⊎◌, inl, inr, arith, subst}
use Rattle.std.specs.Prelude.{◌&&◌, ◌||◌, not, is_some, IfSome, IsSomeAnd}
use Rattle.std.specs.List.{list_any, list_all}
use Rattle.std.specs.Str.{bytes_eq}
use Rattle.std.proofs.lemmas.Bool.{or_parts, or_left, or_right, and_parts, and_from, cases_lt, not_from_false}
use Rattle.std.proofs.lemmas.Slice.Eq.{bytes_eq-Decides}
use Rattle.nuc_base.specs.declared.kinds.Step.{Step}
use Rattle.nuc_base.specs.declared.kinds.Step.TheVariants as step
use Rattle.lifecycle.specs.Awaits.{is_same_step, is_busy_with, is_stopping, is_awaited}
use Rattle.lifecycle.specs.Life.{Life, IsSound}
use Rattle.lifecycle.specs.declared.kinds.After.{After}
use Rattle.lifecycle.specs.declared.kinds.LifeEvent.TheVariants as event
use Rattle.lifecycle.specs.declared.kinds.State.{State}
use Rattle.lifecycle.specs.declared.kinds.State.TheVariants as state
use Rattle.components.specs.Answers.{has_answered}
use Rattle.components.specs.Components.{Components, ComponentState, Child, component_name, is_to_stop, is_over, has_orphan, is_leaving, is_settled, is_spared}
use Rattle.components.specs.Components.{is_stopped, stands_up, is_up, is_broken, is_orphan, is_gone, is_again, under_way}
use Rattle.components.specs.Deadlines.{has_passed, earlier, child_deadline, least_of}
use Rattle.components.specs.Fitted.{Fitted}
use Rattle.components.specs.Turns.{hard_needs, may_begin, may_retry, is_late, is_unstarted, is_to_start, is_begun, is_met, serves_softly, IsQuiet}
use Rattle.components.specs.Turns.{is_held_far, is_held_for, may_act, may_stop}
use Rattle.components.proofs.Held.{none_for}
use Rattle.law_supervisor.specs.Sound.{is_waiting}
use Rattle.law_supervisor.proofs.Alone.{bare_of}
use Rattle.law_supervisor.proofs.Lists.{either, clash, none_of, not_so, second_true}
use Rattle.law_termination.specs.Drives.{AreDriven, IsBelow, IsDriven, has_failed, is_ending}
use Rattle.law_termination.specs.Kept.{IsKeptPart, IsOrderedPart, AllBelow, are_there, newest, is_timed}
use Rattle.law_termination.specs.Time.{HasTime}
use Rattle.law_termination.proofs.Farther.{none_reaches}
use Rattle.law_termination.proofs.Lists.{Has, each_has, any_has, has_any, all_has, passing, none_any, Greatest, greatest, Least, least}
use Rattle.law_termination.proofs.Near.{all_more, one_named}
use Rattle.law_termination.proofs.Options.{of_some, same_self}

-- ---- time

is_later : (m : ℕ) (o : Option ℕ) → has_passed m o ≡ false → IfSome o (λ d. m < d)
is_later m None e = tt
is_later m (Some d) e = elim (cases_lt m d) [ inl lt ↦ lt | inr le ↦ grind (arith, e, le) ]

earlier_later : (m : ℕ) (a b : Option ℕ) → IfSome a (λ d. m < d) → IfSome b (λ d. m < d) → IfSome (earlier a b) (λ d. m < d)
earlier_later m None b x y = y
earlier_later m (Some a) None x y = x
earlier_later m (Some a) (Some b) x y = omega (arith, x, y)

some_left : (a b : Option ℕ) → is_some a ≡ true → is_some (earlier a b) ≡ true
some_left None b e = absurd (cc)
some_left (Some a) None e = refl
some_left (Some a) (Some b) e = refl

some_right : (a b : Option ℕ) → is_some b ≡ true → is_some (earlier a b) ≡ true
some_right None b e = e
some_right (Some a) None e = refl
some_right (Some a) (Some b) e = refl

children_later : (m : ℕ) (cs : List Child) → list_any (λ (c : Child). has_passed m c.deadline) cs ≡ false → IfSome (child_deadline cs) (λ d. m < d)
children_later m [] e = tt
children_later m (c ∷ cs) e = let x = or_parts (has_passed m c.deadline) (list_any (λ (c : Child). has_passed m c.deadline) cs) e in
    earlier_later m c.deadline (child_deadline cs) (is_later m c.deadline x.0) (children_later m cs x.1)

least_later : (m : ℕ) (ps : List ComponentState) → ((p : ComponentState) → Has p ps → is_late m p ≡ false) → IfSome (least_of ps) (λ d. m < d)
least_later m [] h = tt
least_later m (p ∷ ps) h = earlier_later m (child_deadline p.children) (least_of ps) (children_later m p.children (h p (inl refl))) (least_later m ps
    (λ q i. h q (inr i)))

child_some : (c : Child) (cs : List Child) → Has c cs → is_some c.deadline ≡ true → is_some (child_deadline cs) ≡ true
child_some c [] h e = absurd h
child_some c (d ∷ ds) (inl q) e = some_left d.deadline (child_deadline ds) (sym (ap (λ (x : Child). is_some x.deadline) q) ∙ e)
child_some c (d ∷ ds) (inr h) e = some_right d.deadline (child_deadline ds) (child_some c ds h e)

least_some : (p : ComponentState) (ps : List ComponentState) → Has p ps → is_some (child_deadline p.children) ≡ true → is_some (least_of ps) ≡ true
least_some p [] h e = absurd h
least_some p (q ∷ qs) (inl i) e = some_left (child_deadline q.children) (least_of qs) (sym (ap (λ (x : ComponentState). is_some (child_deadline x.children))
    i) ∙ e)
least_some p (q ∷ qs) (inr h) e = some_right (child_deadline q.children) (least_of qs) (least_some p qs h e)

some_and : (P : ℕ → Type 0) (o : Option ℕ) → is_some o ≡ true → IfSome o P → IsSomeAnd o P
some_and P None e i = absurd (cc)
some_and P (Some d) e i = i

-- ---- steps

not_run : (s t : Step) → is_same_step s t ≡ true → is_same_step step.Run s ≡ false → is_same_step step.Run t ≡ false
not_run s t e f = grind (arith, e, f)

run_only : (s : Step) → is_same_step step.Run s ≡ true → s ≡ step.Run
run_only s e = grind (arith, e)

-- ---- what nothing may act says of one

record IsStill (w : Components) (p : ComponentState) : Type 0 where
  begins : may_begin w p ≡ false
  tries : may_retry p ≡ false
  late : is_late w.moment p ≡ false
  stops : may_stop w p ≡ false
  kills : has_orphan p ≡ false
  starts : is_unstarted p ≡ false

still : (w : Components) (p : ComponentState) → p.handed ≡ false → may_act w p ≡ false → IsStill w p
still w p n e =
    let a = or_parts (may_begin w p || may_retry p) (is_late w.moment p || (may_stop w p || (has_orphan p || is_to_start p))) e in
    let b = or_parts (may_begin w p) (may_retry p) a.0 in
    let c = or_parts (is_late w.moment p) (may_stop w p || (has_orphan p || is_to_start p)) a.1 in
    let d = or_parts (may_stop w p) (has_orphan p || is_to_start p) c.1 in
    let f = or_parts (has_orphan p) (is_to_start p) d.1 in
    record { begins = b.0; tries = b.1; late = c.0; stops = d.0; kills = f.0; starts = not_new (is_unstarted p) p.handed f.1 n }
  where
    not_new : (a b : Bool) → (a && not b) ≡ false → b ≡ false → a ≡ false
    not_new true true e f = absurd (cc)
    not_new true false e f = absurd (cc)
    not_new false b e f = refl

begun_answered : (a b : Bool) → (a && not b) ≡ false → a ≡ true → b ≡ true
begun_answered true true e f = refl
begun_answered true false e f = absurd (cc)
begun_answered false b e f = absurd (cc)

unbegun : (p : ComponentState) (s : Step) → p.life.busy ≡ Some s → is_unstarted p ≡ false → list_any (λ (c : Child). is_same_step s c.of) p.children ≡ true
unbegun p s b e =
    let x : is_begun s p ≡ false = subst (λ (o : Option Step). (elim o [ None ↦ false | Some t ↦ is_begun t p ]) ≡ false) b e in
    begun_answered (is_busy_with s p.life.busy) (list_any (λ (c : Child). is_same_step s c.of) p.children) x (rw b (same_self s))

bytes_same : (a b : List ℕ) → bytes_eq a b ≡ true → a ≡ b
bytes_same a b e = (bytes_eq-Decides a b).0 e

shuts_down : (c : Life) → IsSound c → is_stopping c.state ≡ true → c.busy ≡ Some step.Shutdown
shuts_down c sound e = grind (arith, sound.busy, e)

starts : (c : Life) → IsSound c → c.state ≡ state.Starting → is_some c.busy ≡ true
starts c sound e = grind (arith, sound.busy, e)

module _ (w : Components) (k : AreDriven w) (quiet : IsQuiet w) (answered : has_answered w ≡ true) where
  kept : (p : ComponentState) → Has p w.parts → IsKeptPart p
  kept p h = each_has IsKeptPart p w.parts h k.alone

  order : (p : ComponentState) → Has p w.parts → IsOrderedPart k.r k.s w.parts p
  order p h = each_has (IsOrderedPart k.r k.s w.parts) p w.parts h k.ordered

  rests : (p : ComponentState) → Has p w.parts → IsStill w p
  rests p h = still w p (any_has (λ q. q.handed) p w.parts h (not_so (list_any (λ q. q.handed) w.parts) answered)) (any_has (may_act w) p w.parts h quiet.none)

  time_of : (p : ComponentState) → Has p w.parts → (c : Child) → Has c p.children → is_some c.deadline ≡ true → HasTime w
  time_of p h c i e = some_and (λ d. w.moment < d) (least_of w.parts) (least_some p w.parts h (child_some c p.children i e)) (least_later w.moment w.parts
      (λ q j. (rests q j).late))

  -- a busy step lives, and has a deadline
  busy_time : (p : ComponentState) → Has p w.parts → (s : Step) → p.life.busy ≡ Some s → HasTime w
  busy_time p h s b =
      let lives = unbegun p s b (rests p h).starts in
      elim (either (is_same_step step.Run s)) [
        | inl e ↦ (let q = run_only s e in
            let x : (is_busy_with step.Run (Some step.Run) && list_any (λ (c : Child). is_same_step step.Run c.of) p.children) ≡ false
            = subst (λ (o : Option Step). (is_busy_with step.Run o && list_any (λ (c : Child). is_same_step step.Run c.of) p.children) ≡ false) (b
            ∙ ap (λ (t : Step). Some t) q) (kept p h).run in
            clash (list_any (λ (c : Child). is_same_step step.Run c.of) p.children) (subst (λ (t : Step). list_any (λ (c : Child). is_same_step t c.of)
            p.children ≡ true) q lives) x)
        | inr e ↦ (let c = passing (λ (c : Child). is_same_step s c.of) p.children lives in
            let t = all_has is_timed c.one p.children c.here (kept p h).timed in
            time_of p h c.one c.here (second_true (is_same_step step.Run c.one.of) (is_some c.one.deadline) t (not_run s c.one.of c.passes e)))
      ]

  stands : (p : ComponentState) → Has p w.parts → is_to_stop p ≡ true → p.life.gone ≡ false
  stands p h e = elim (either p.life.gone) [
    | inl g ↦ (let x = bare_of p (kept p h).gone g in
        let y : is_some p.stop ≡ false = rw x.0 refl in
        clash (is_some p.stop || (is_stopping p.life.state || has_orphan p)) e (rw y (rw x.1 (rests p h).kills)))
    | inr n ↦ n
  ]

  driven : (p : ComponentState) → Has p w.parts → IsDriven k.r w.parts p
  driven p h = each_has (IsDriven k.r w.parts) p w.parts h k.each

  below : (p : ComponentState) → Has p w.parts → p.life.gone ≡ false → AllBelow k.r (k.r (component_name p)) (hard_needs p)
  below p h e = all_more (IsBelow k.r w.parts (component_name p)) (λ m. k.r m < k.r (component_name p)) (hard_needs p) (λ m x. x.0) ((driven p h).needs e)

  -- what it needs is not gone
  needs_stand : (p : ComponentState) → Has p w.parts → p.life.gone ≡ false → (m : List ℕ) → Has m (hard_needs p) → (q : ComponentState) → Has q w.parts →
      component_name q ≡ m → q.life.gone ≡ false
  needs_stand p h e m x q j y =
      let t = (each_has (IsBelow k.r w.parts (component_name p)) m (hard_needs p) x ((driven p h).needs e)).1 in
      let o = passing (λ z. bytes_eq (component_name z) m && not (is_ending z)) w.parts t in
      let z = and_parts (bytes_eq (component_name o.one) m) (not (is_ending o.one)) o.passes in
      let same = one_named w.parts k.names o.one q o.here j (bytes_same (component_name o.one) m z.0 ∙ sym y) in
      sym (ap (λ (v : ComponentState). v.life.gone) same) ∙ (or_parts o.one.life.gone (is_gone (under_way o.one.life)) (not_so (is_ending o.one) z.1)).0

  not_held : (n : List ℕ) → ((q : ComponentState) → Has q w.parts → is_to_stop q ≡ true → k.r (component_name q) ≤ k.r n) → is_held_far n w.parts ≡ false
  not_held n g = none_reaches k.r (λ p. p.life.gone) w.parts below needs_stand stands n g

  one_stops : Greatest is_to_stop (λ p. k.r (component_name p)) w.parts → HasTime w
  one_stops g = elim (either (is_stopping g.one.life.state)) [
    | inl e ↦ busy_time g.one g.here step.Shutdown (shuts_down g.one.life (kept g.one g.here).sound e)
    | inr e ↦ (let still = rests g.one g.here in
        let a : is_some g.one.stop ≡ true = (let x : (is_some g.one.stop || (is_stopping g.one.life.state || has_orphan g.one)) ≡ true = g.passes in
        elim (either (is_some g.one.stop)) [
          | inl y ↦ y
          | inr n ↦ clash (is_some g.one.stop
              || (is_stopping g.one.life.state || has_orphan g.one)) x (rw n (rw e still.kills))
        ]) in
        let s = of_some g.one.stop a in
        let held = none_for s.0 (component_name g.one) w.parts (not_held (component_name g.one) g.greatest) in
        let gone = stands g.one g.here g.passes in
        let can : (elim (Some s.0) [
          | None ↦ false
          | Some a ↦ (is_awaited (event.Stop a) g.one.life && not (has_orphan g.one || is_unstarted g.one))
              && not (is_held_for a (component_name g.one) w.parts)
        ]) ≡ false
        = subst (λ (o : Option After). (elim o [
          | None ↦ false
          | Some a ↦ (is_awaited (event.Stop a) g.one.life
              && not (has_orphan g.one || is_unstarted g.one)) && not (is_held_for a (component_name g.one) w.parts)
        ]) ≡ false) s.1 still.stops in
        clash ((is_awaited (event.Stop s.0) g.one.life && not (has_orphan g.one || is_unstarted g.one))
        && not (is_held_for s.0 (component_name g.one) w.parts)) (rw gone (rw e (rw still.kills (rw still.starts (rw held refl))))) can)
  ]

  no_children : (p : ComponentState) → Has p w.parts → p.life.gone ≡ true → is_over p ≡ true
  no_children p h g = let x = bare_of p (kept p h).gone g in
      elim p.children as (λ (cs : List Child). list_any (λ (c : Child). is_orphan p.life c.of) cs ≡ false →
      (p.life.gone && elim cs [ [] ↦ true | ◌∷◌ c ds ↦ false ]) ≡ true) [
        | [] ↦ λ e. rw g refl
        | ◌∷◌ c ds ↦ λ e. clash (is_orphan p.life c.of) (rw x.2 (rw x.3 (grind arith))) (or_parts (is_orphan p.life c.of) (list_any (λ (c : Child). is_orphan
            p.life c.of) ds) e).0
      ] (rests p h).kills

  pub stop_goes : list_all is_leaving w.parts ≡ true → (is_stopped w ≡ true) ⊎ HasTime w
  stop_goes leaving = elim (greatest is_to_stop (λ p. k.r (component_name p)) w.parts) [
    | inr g ↦ inr (one_stops g)
    | inl none ↦ inl (not_from_false (list_any (λ p. not (is_over p)) w.parts) (none_any (λ p. not (is_over p)) w.parts (λ p h.
        let n = none p h in let l = all_has is_leaving p w.parts h leaving in
        let a = or_parts (is_some p.stop) (is_stopping p.life.state || has_orphan p) n in
        let b = or_parts (is_stopping p.life.state) (has_orphan p) a.1 in
        let s = none_of p.stop a.0 in
        rw (no_children p h (elim (either p.life.gone) [ inl g ↦ g | inr g ↦ clash (is_leaving p) l (rw g (rw s (rw b.0 refl))) ])) refl)))
  ]

  -- ---- bringing up

  abbrev is_down : ComponentState → Bool
  is_down p = not p.life.gone && not (is_up p.life.state)

  module _ (none : (q : ComponentState) → Has q w.parts → is_to_stop q ≡ false) where
    idle : (p : ComponentState) → Has p w.parts → (p.stop ≡ None) × (is_stopping p.life.state ≡ false)
    idle p h =
        let a = or_parts (is_some p.stop) (is_stopping p.life.state || has_orphan p) (none p h) in
        (none_of p.stop a.0, (or_parts (is_stopping p.life.state) (has_orphan p) a.1).0)

    stays : (p : ComponentState) → Has p w.parts → p.life.gone ≡ false → is_leaving p ≡ false
    stays p h g = let i = idle p h in rw g (rw i.0 (rw i.1 refl))

    is_newest : (p : ComponentState) → Has p w.parts → newest p ≡ p.fitted
    is_newest p h = let i = idle p h in elim (either (is_some p.next)) [
      | inl e ↦ clash (is_again p.stop || is_again (under_way p.life)) (second_true (not (is_waiting p)) (is_again p.stop
          || is_again (under_way p.life)) (kept p h).waits (rw e refl)) (rw i.0 (rw i.1 refl))
      | inr e ↦ rw (none_of p.next e) refl
    ]

    up_of : (p : ComponentState) → Has p w.parts → is_down p ≡ false → p.life.gone ≡ false → stands_up p ≡ true
    up_of p h d g = elim (either (is_up p.life.state)) [
      | inl u ↦ rw u (rw (none p h) (rw g refl))
      | inr u ↦ clash (not p.life.gone && not (is_up p.life.state)) (rw g (rw u refl)) d
    ]

    not_gone : (q : ComponentState) → is_leaving q ≡ false → q.life.gone ≡ false
    not_gone q e = (or_parts q.life.gone (is_gone q.stop || is_gone (under_way q.life)) e).0

    all_met : (test : ComponentState → Bool) (j : ℕ) → ((q : ComponentState) → Has q w.parts → k.s (component_name q) < j → q.life.gone ≡ false → test q ≡ true)
        → (ns : List (List ℕ)) → AllBelow k.s j ns → are_there w.parts ns ≡ true → list_all (is_met test w.parts) ns ≡ true
    all_met test j f [] b a = refl
    all_met test j f (n ∷ ns) b a =
        let x = and_parts (is_met (λ q. not (is_leaving q)) w.parts n) (are_there w.parts ns) a in
        let y = passing (λ q. bytes_eq (component_name q) n && not (is_leaving q)) w.parts x.0 in
        let z = and_parts (bytes_eq (component_name y.one) n) (not (is_leaving y.one)) y.passes in
        let same = ap k.s (bytes_same (component_name y.one) n z.0) in
        let l : is_leaving y.one ≡ false = elim (either (is_leaving y.one)) [ inr e ↦ e | inl e ↦ clash (not (is_leaving y.one)) z.1 (rw e refl) ] in
        let t = f y.one y.here (omega (arith, same, b.0)) (not_gone y.one l) in
        and_from (is_met test w.parts n) (list_all (is_met test w.parts) ns)
        (has_any (λ q. bytes_eq (component_name q) n && test q) y.one w.parts y.here (and_from (bytes_eq (component_name y.one) n) (test y.one) z.0 t))
        (all_met test j f ns b.1 x.1)

    module _ (g : Least is_down (λ p. k.s (component_name p)) w.parts) where
      stands_one : g.one.life.gone ≡ false
      stands_one = elim (either g.one.life.gone) [ inr e ↦ e | inl e ↦ clash (is_down g.one) g.passes (rw e refl) ]

      -- what is below it is up
      up_below : (q : ComponentState) → Has q w.parts → k.s (component_name q) < k.s (component_name g.one) → q.life.gone ≡ false → stands_up q ≡ true
      up_below q h l n = elim (either (is_down q)) [
        | inl e ↦ (let x = g.least q h e in absurd (omega (arith, x, l)))
        | inr e ↦ up_of q h e n
      ]

      begins_now : is_awaited event.MayBegin g.one.life ≡ true → {A : Type 0} → A
      begins_now a {A} =
          let o = order g.one g.here in let l = stays g.one g.here stands_one in let e = is_newest g.one g.here in
          let hard = all_met stands_up (k.s (component_name g.one)) up_below g.one.fitted.hard (subst (λ (f : Fitted). AllBelow k.s
          (k.s (component_name g.one)) f.hard) e (o.hard l)) (subst (λ (f : Fitted). are_there w.parts f.hard ≡ true) e (o.hard_there l)) in
          let soft = all_met serves_softly (k.s (component_name g.one)) (λ q h b n. or_left (stands_up q) (is_broken q.life.state
          && not (is_to_stop q || q.life.gone)) (up_below q h b n)) g.one.fitted.soft
          (subst (λ (f : Fitted). AllBelow k.s (k.s (component_name g.one)) f.soft) e (o.soft l)) (subst (λ (f : Fitted). are_there w.parts f.soft ≡ true) e
          (o.soft_there l)) in
          clash (may_begin w g.one) (rw a (rw (none g.one g.here) (rw hard (rw soft refl)))) (rests g.one g.here).begins

      tries_now : g.one.life.state ≡ state.Errored → g.one.life.busy ≡ None → {A : Type 0} → A
      tries_now e b {A} = clash (may_retry g.one) (rw (none g.one g.here) (rw stands_one (rw e (rw b refl)))) (rests g.one g.here).tries

      not_up : is_up g.one.life.state ≡ true → {A : Type 0} → A
      not_up u {A} = clash (is_down g.one) g.passes (rw stands_one (rw u refl))

      idle_or : (f : Option Step) → g.one.life.busy ≡ f → (g.one.life.busy ≡ None → HasTime w) → HasTime w
      idle_or None e n = n e
      idle_or (Some z) e n = busy_time g.one g.here z e

      by_state : (x : State) → g.one.life.state ≡ x → (has_failed w ≡ true) ⊎ HasTime w
      by_state state.New e = inr (idle_or g.one.life.busy refl (λ b. begins_now (rw stands_one (rw e (rw b refl)))))
      by_state state.Installed e = inr (idle_or g.one.life.busy refl (λ b. begins_now (rw stands_one (rw e (rw b refl)))))
      by_state state.Starting e = let s = of_some g.one.life.busy (starts g.one.life (kept g.one g.here).sound e) in inr (busy_time g.one g.here s.0 s.1)
      by_state state.Running e = not_up (rw e refl)
      by_state state.Finished e = not_up (rw e refl)
      by_state state.Stopping e = clash (is_stopping g.one.life.state) (rw e refl) (idle g.one g.here).1
      by_state state.Errored e = inr (idle_or g.one.life.busy refl (λ b. tries_now e b))
      by_state state.Broken e = let i = idle g.one g.here in inl (has_any (λ p. is_broken p.life.state
          && not (is_spared p || is_leaving p)) g.one w.parts g.here
          (rw i.0 (rw e (rw stands_one refl))))

  pub begin_goes : (is_settled w ≡ true) ⊎ (has_failed w ≡ true) ⊎ HasTime w
  begin_goes = elim (greatest is_to_stop (λ p. k.r (component_name p)) w.parts) [
    | inr g ↦ inr (inr (one_stops g))
    | inl none ↦ elim (least is_down (λ p. k.s (component_name p)) w.parts) [
      | inr g ↦ inr (by_state none g g.one.life.state refl)
      | inl up ↦ inl (not_from_false (list_any (λ p. not (is_over p || stands_up p)) w.parts) (none_any (λ p. not (is_over p || stands_up p)) w.parts (λ p h.
          elim (either p.life.gone) [
            | inl e ↦ rw (no_children p h e) refl
            | inr e ↦ rw (or_right (is_over p) (stands_up p) (up_of none p h (up p h) e)) refl
          ])))
    ]
  ]
