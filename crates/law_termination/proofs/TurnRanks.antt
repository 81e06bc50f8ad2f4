-- The number of a turn in which no deployment is driven.
use Rattle.std.proofs.Common.{◌≡◌, ◌<◌, ◌≤◌, ◌+◌, ◌*◌, ◌^◌, ℕ, suc, zero, List, [], ◌∷◌, length, Option, Some, None, Bool, true, false, refl, sym, ap, ◌∙◌}
use Rattle.std.proofs.Common.{arith, subst}
use Rattle.std.specs.List.{AllByRecursion}
use Rattle.nuc_base.specs.declared.kinds.Exit.{Exit}
use Rattle.nuc_base.specs.declared.kinds.Step.{Step}
use Rattle.lifecycle.specs.declared.kinds.LifeEvent.{LifeEvent}
use Rattle.components.specs.Acts.{HandsOut, MayKill, MayMove, Move, NextAct, OwesAt, MovesInOrder}
use Rattle.components.specs.Components.{Components, ComponentState, At, changed_at}
use Rattle.components.specs.Events.{answered_at, handed_at, killed, later, refused, skipped, started, heard_at}
use Rattle.components.specs.Lives.{lived_at}
use Rattle.components.specs.Turns.{is_begun}
use Rattle.components.specs.declared.kinds.Act.{Act}
use Rattle.components.specs.declared.kinds.Act.TheVariants as acts
use Rattle.law_termination.specs.Kept.{IsKeptPart, is_done, AreKept}
use Rattle.law_termination.specs.Rank.{sum_by}
use Rattle.law_termination.specs.TurnRank.{late_count, one_late, turn_rank, weight_steady}
use Rattle.law_termination.proofs.Answered.{answered_all, answered_begun, answered_length, handed_length, started_is, unhanded}
use Rattle.law_termination.proofs.Calm.{calm_total, killed_calms, move_calms, refused_plainly, skipped_plainly, started_calms, told_calms}
use Rattle.law_termination.proofs.Parts.{unhanded_kept}
use Rattle.law_termination.proofs.Stays.{length_killed, length_lived, length_refused, length_skipped, length_started}
use Rattle.law_termination.proofs.Sums.{length_changed}
use Rattle.law_termination.proofs.Whole.{move_keeps}

as_many : (v w : Components) → length v.parts ≡ length w.parts → calm_total (one_late w.parts) v ≡ turn_rank v
as_many v w e = ap (λ (n : ℕ). calm_total (3000 + 1400 * n) v) (sym e)

less_turn : (v w : Components) → length v.parts ≡ length w.parts → calm_total (one_late w.parts) v < calm_total (one_late w.parts) w → turn_rank v < turn_rank w
less_turn v w e l = let s = as_many v w e in omega (arith, s, l)

room : (n : ℕ) → n ≤ n
room n = omega arith

weigh_answered : (m c k : ℕ) (ps : List ComponentState) → sum_by (weight_steady m c) (changed_at k unhanded ps) ≡ sum_by (weight_steady m c) ps
weigh_answered m c k [] = refl
weigh_answered m c zero (p ∷ ps) = refl
weigh_answered m c (suc k) (p ∷ ps) = ap (λ (n : ℕ). weight_steady m c p + n) (weigh_answered m c k ps)

weigh_handed : (m c k : ℕ) (ps : List ComponentState) → sum_by (weight_steady m c) (changed_at k (λ p. record p { handed = true }) ps) ≡ sum_by
    (weight_steady m c) ps
weigh_handed m c k [] = refl
weigh_handed m c zero (p ∷ ps) = refl
weigh_handed m c (suc k) (p ∷ ps) = ap (λ (n : ℕ). weight_steady m c p + n) (weigh_handed m c k ps)

weigh_later : (m n c : ℕ) (ps : List ComponentState) → AllByRecursion (λ p. late_count m p.children ≡ late_count n p.children) ps →
    sum_by (weight_steady m c) ps ≡ sum_by (weight_steady n c) ps
weigh_later m n c [] a = refl
weigh_later m n c (p ∷ ps) a = rw a.0 (ap (λ (k : ℕ). weight_steady n c p + k) (weigh_later m n c ps a.1))

pub time_calms : (w : Components) (m : ℕ) → AllByRecursion (λ p. late_count m p.children ≡ late_count w.moment p.children) w.parts →
    turn_rank (later m w) ≡ turn_rank w
time_calms w m a = weigh_later m w.moment (one_late w.parts) w.parts a

module _ (w : Components) (a : AreKept w) (steady : w.steady ≡ true) where
  abbrev cost : ℕ
  cost = one_late w.parts

  answered_alone : (k : ℕ) → AreKept (answered_at k w)
  answered_alone k = answered_all IsKeptPart unhanded_kept k w.parts a

  answered_room : (k : ℕ) → 3000 + 1400 * length (answered_at k w).parts ≤ one_late w.parts
  answered_room k = let l = answered_length k w.parts in omega (arith, l)

  pub move_turn : (k : ℕ) (e : LifeEvent) → MayMove w k e → turn_rank (lived_at k e w) < turn_rank w
  move_turn k e m = less_turn (lived_at k e w) w (length_lived k e w) (move_calms w a cost (room cost) steady k e m)

  pub told_turn : (k : ℕ) (s : Step) (x : Exit) (b : Bool) → OwesAt w k s x b → turn_rank (heard_at k w) < turn_rank w
  told_turn k s x b m = less_turn (heard_at k w) w (length_changed k (λ p. record p { owed = None }) w.parts) (told_calms w a cost (room cost) steady k s x b m)

  pub killed_turn : (n k : ℕ) (s : Step) → MayKill w n k s → turn_rank (killed n w) < turn_rank w
  killed_turn n k s m = less_turn (killed n w) w (length_killed n w) (killed_calms w a cost (room cost) steady n k s m)

  pub refused_turn : (k : ℕ) (s : Step) → At k (λ p. is_begun s p ≡ true) w.parts → turn_rank (refused k s w) < turn_rank w
  refused_turn k s m = less_turn (refused k s w) w (length_refused k s w)
      (let z = refused_plainly (answered_at k w) (answered_alone k) cost (answered_room k) steady k s (answered_begun k s w.parts m) in
      let r = weigh_answered w.moment cost k w.parts in omega (arith, z, r))

  pub skipped_turn : (k : ℕ) (s : Step) → At k (λ p. is_begun s p ≡ true) w.parts → turn_rank (skipped k w) < turn_rank w
  skipped_turn k s m = less_turn (skipped k w) w (length_skipped k w)
      (let z = skipped_plainly (answered_at k w) (answered_alone k) cost (answered_room k) steady k s (answered_begun k s w.parts m) in
      let r = weigh_answered w.moment cost k w.parts in omega (arith, z, r))

  pub started_turn : w.moment + 1 < 2 ^ 62 → (k n : ℕ) (s : Step) → At k (λ p. is_begun s p ≡ true) w.parts → turn_rank (started k s n w) < turn_rank w
  started_turn early k n s m = less_turn (started k s n w) w (length_started k n s w)
      (let z = started_calms (answered_at k w) (answered_alone k) cost (answered_room k) steady early k n s (answered_begun k s w.parts m) in
      let r = weigh_answered w.moment cost k w.parts in
      let e = ap (calm_total cost) (started_is k s n w) in omega (arith, z, r, e))

pub handed_turn : (k : ℕ) (w : Components) → turn_rank (handed_at k w) ≡ turn_rank w
handed_turn k w = sym (as_many (handed_at k w) w (handed_length k w.parts)) ∙ weigh_handed w.moment (one_late w.parts) k w.parts

-- ---- the next act

pub record Calms (w v : Components) (done : Bool) : Type 0 where
  pub least : turn_rank v ≤ turn_rank w
  pub less : done ≡ true → turn_rank v < turn_rank w

record Seen (w v : Components) : Type 0 where
  alone : AreKept v
  steady : v.steady ≡ true
  least : turn_rank v ≤ turn_rank w

quiet : (w v : Components) (ms : List Move) → MovesInOrder w ms v → AreKept w → w.steady ≡ true → Seen w v
quiet w v [] q a f = subst (Seen w) (sym q) (record { alone = a; steady = f; least = room (turn_rank w) })
quiet w v (m ∷ ms) q a f =
    let l = move_turn w a f m.who m.what q.1 in
    let r = quiet (lived_at m.who m.what w) v ms q.2 (move_keeps w a m.who m.what q.1).kept f in
    let i = r.least in
    record { alone = r.alone; steady = r.steady; least = omega (arith, l, i) }

not_more : (w v : Components) → turn_rank v < turn_rank w → Calms w v true
not_more w v l = record { least = omega (arith, l); less = λ e. l }

hand : (w : Components) (act : Option Act) (v : Components) → AreKept w → w.steady ≡ true → HandsOut w act v → Calms w v (is_done act)
hand w None v a f h = subst (λ (z : Components). Calms w z false) (sym h.1) (record { least = room (turn_rank w); less = λ e. absurd (cc) })
hand w (Some (acts.Start k t)) v a f h =
    let r = handed_turn k w in
    subst (λ (z : Components). Calms w z false) (sym h.2) (record { least = omega (arith, r); less = λ e. absurd (cc) })
hand w (Some (acts.Kill n)) v a f h = subst (λ (z : Components). Calms w z true) (sym h.4) (not_more w (killed n w) (killed_turn w a f n h.0 h.1 h.3))
hand w (Some (acts.Failed k t e)) v a f h = subst (λ (z : Components). Calms w z true) (sym h.1) (not_more w (heard_at k w) (told_turn w a f k t e false h.0))
hand w (Some (acts.Broke k t e)) v a f h = subst (λ (z : Components). Calms w z true) (sym h.1) (not_more w (heard_at k w) (told_turn w a f k t e true h.0))

pub act_calms : (w v : Components) (act : Option Act) → AreKept w → w.steady ≡ true → NextAct w act v → Calms w v (is_done act)
act_calms w v act a f n =
    let r = quiet w n.seen n.made n.quietly a f in
    let h = hand n.seen act v r.alone r.steady n.hands in
    let i = r.least in let j = h.least in
    record { least = omega (arith, i, j); less = λ e. let l = h.less e in omega (arith, i, l) }
