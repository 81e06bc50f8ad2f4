-- What is kept of each, and what the next act makes of all, however many there are.
use Rattle.std.proofs.Common.{◌≡◌, ◌<◌, ◌≤◌, ℕ, List, [], ◌∷◌, Option, Some, None, Bool, true, false, refl, sym, ◌∙◌, inl, inr, arith, subst}
use Rattle.std.specs.List.{list_all, AllByRecursion}
use Rattle.std.proofs.lemmas.Bool.{and_parts}
use Rattle.nuc_base.specs.declared.kinds.Exit.{Exit}
use Rattle.nuc_base.specs.declared.kinds.Step.{Step}
use Rattle.lifecycle.specs.declared.kinds.LifeEvent.{LifeEvent}
use Rattle.components.specs.Acts.{MayMove, MayKill, OwesAt, NextAct, MovesInOrder, HandsOut, Move}
use Rattle.components.specs.Components.{Components, ComponentState, At, owner, is_leaving}
use Rattle.components.specs.Events.{handed_at, started, refused, skipped, ended, killed, heard_at, later}
use Rattle.components.specs.Lives.{lived_at}
use Rattle.components.specs.Turns.{is_begun}
use Rattle.components.specs.declared.kinds.Act.{Act}
use Rattle.components.specs.declared.kinds.Act.TheVariants as acts
use Rattle.law_supervisor.proofs.Begun.{started_steady}
use Rattle.law_supervisor.proofs.Gone.{ended_steady, killed_steady}
use Rattle.law_termination.specs.Kept.{IsKeptPart, IsFalling, is_done, AreKept, StaysKept}
use Rattle.law_termination.specs.Rank.{rank}
use Rattle.law_termination.proofs.Keeps.{Known}
use Rattle.law_termination.proofs.Ranks.{move_rank, killed_rank, told_rank, handed_rank}
use Rattle.law_termination.proofs.Stays.{move_known, refused_known, skipped_known, told_known, started_known, ended_known, killed_known, handed_on}

plain : (ps : List ComponentState) → AllByRecursion IsKeptPart ps → AllByRecursion (Known false) ps
plain [] a = tt
plain (p ∷ ps) a = ((a.0, inl refl), plain ps a.1)

leaving : (ps : List ComponentState) → AllByRecursion IsKeptPart ps → list_all is_leaving ps ≡ true → AllByRecursion (Known true) ps
leaving [] a l = tt
leaving (p ∷ ps) a l = let x = and_parts (is_leaving p) (list_all is_leaving ps) l in ((a.0, inr x.0), leaving ps a.1 x.1)

alone : (d : Bool) (ps : List ComponentState) → AllByRecursion (Known d) ps → AllByRecursion IsKeptPart ps
alone d [] a = tt
alone d (p ∷ ps) a = (a.0.0, alone d ps a.1)

all_leave : (ps : List ComponentState) → AllByRecursion (Known true) ps → list_all is_leaving ps ≡ true
all_leave [] a = refl
all_leave (p ∷ ps) a = elim a.0.1 [ inl f ↦ absurd (cc) | inr l ↦ rw l (all_leave ps a.1) ]

keep_from : (w v : Components) → v.steady ≡ w.steady → ((d : Bool) → AllByRecursion (Known d) w.parts → AllByRecursion (Known d) v.parts) → AreKept w →
    StaysKept w v
keep_from w v s f a = record {
  kept = alone false v.parts (f false (plain w.parts a));
  falling = λ g. elim g [ inl y ↦ inl (s ∙ y) | inr y ↦ inr (all_leave v.parts (f true (leaving w.parts a y))) ];
}

module _ (w : Components) (a : AreKept w) where
  pub move_keeps : (k : ℕ) (e : LifeEvent) → MayMove w k e → StaysKept w (lived_at k e w)
  move_keeps k e m = keep_from w (lived_at k e w) refl (λ d x. move_known d w x k e m) a

  pub kill_keeps : (n k : ℕ) (s : Step) → MayKill w n k s → StaysKept w (killed n w)
  kill_keeps n k s m = keep_from w (killed n w) (killed_steady n w) (λ d x. killed_known d w x n k s m) a

  pub told_keeps : (k : ℕ) (s : Step) (x : Exit) (b : Bool) → OwesAt w k s x b → StaysKept w (heard_at k w)
  told_keeps k s x b m = keep_from w (heard_at k w) refl (λ d y. told_known d w y k s x b m) a

  pub start_keeps : (k n : ℕ) (s : Step) → At k (λ p. is_begun s p ≡ true) w.parts → StaysKept w (started k s n w)
  start_keeps k n s m = keep_from w (started k s n w) (started_steady k s n w) (λ d x. started_known d w x k n s m) a

  pub refuse_keeps : (k : ℕ) (s : Step) → At k (λ p. is_begun s p ≡ true) w.parts → StaysKept w (refused k s w)
  refuse_keeps k s m = keep_from w (refused k s w) refl (λ d x. refused_known d w x k s m) a

  pub skip_keeps : (k : ℕ) (s : Step) → At k (λ p. is_begun s p ≡ true) w.parts → StaysKept w (skipped k w)
  skip_keeps k s m = keep_from w (skipped k w) refl (λ d x. skipped_known d w x k s m) a

  pub end_keeps : (n : ℕ) (x : Exit) (k : ℕ) (s : Step) → owner n w.parts ≡ Some (k, s) → StaysKept w (ended n x w)
  end_keeps n x k s m = keep_from w (ended n x w) (ended_steady n x w) (λ d y. ended_known d w y n x k s m) a

  pub later_keeps : (m : ℕ) → StaysKept w (later m w)
  later_keeps m = keep_from w (later m w) refl (λ d x. x) a

-- ---- the next act

record Reaches (w v : Components) : Type 0 where
  kept : AreKept v
  falling : IsFalling v
  least : rank v ≤ rank w

quiet : (w v : Components) (ms : List Move) → MovesInOrder w ms v → AreKept w → IsFalling w → Reaches w v
quiet w v [] q a f = subst (Reaches w) (sym q) (record { kept = a; falling = f; least = omega arith })
quiet w v (m ∷ ms) q a f =
    let k = move_keeps w a m.who m.what q.1 in
    let l = move_rank w a f m.who m.what q.1 in
    let r = quiet (lived_at m.who m.what w) v ms q.2 k.kept (k.falling f) in
    let i = r.least in
    record { kept = r.kept; falling = r.falling; least = omega (arith, l, i) }

-- after the quiet moves, and after the act
pub record Next (w v : Components) (done : Bool) : Type 0 where
  pub kept : AreKept v
  pub falling : IsFalling v
  pub least : rank v ≤ rank w
  pub less : done ≡ true → rank v < rank w

handed_keeps : (w : Components) (k : ℕ) → AreKept w → StaysKept w (handed_at k w)
handed_keeps w k a = keep_from w (handed_at k w) refl (λ d x. handed_on d w x k) a

hand : (w : Components) (act : Option Act) (v : Components) → AreKept w → IsFalling w → HandsOut w act v → Next w v (is_done act)
hand w None v a f h = subst (λ (z : Components). Next w z false) (sym h.1) (record { kept = a; falling = f; least = omega arith; less = λ e. absurd (cc) })
hand w (Some (acts.Start k t)) v a f h = let y = handed_keeps w k a in let r = handed_rank k w in
    subst (λ (z : Components). Next w z false) (sym h.2) (record { kept = y.kept; falling = y.falling f; least = omega (arith, r); less = λ e. absurd (cc) })
hand w (Some (acts.Kill n)) v a f h = let k = kill_keeps w a n h.0 h.1 h.3 in let l = killed_rank w a f n h.0 h.1 h.3 in
    subst (λ (z : Components). Next w z true) (sym h.4) (record { kept = k.kept; falling = k.falling f; least = omega (arith, l); less = λ e. l })
hand w (Some (acts.Failed k t e)) v a f h = let y = told_keeps w a k t e false h.0 in let l = told_rank w a f k t e false h.0 in
    subst (λ (z : Components). Next w z true) (sym h.1) (record { kept = y.kept; falling = y.falling f; least = omega (arith, l); less = λ x. l })
hand w (Some (acts.Broke k t e)) v a f h = let y = told_keeps w a k t e true h.0 in let l = told_rank w a f k t e true h.0 in
    subst (λ (z : Components). Next w z true) (sym h.1) (record { kept = y.kept; falling = y.falling f; least = omega (arith, l); less = λ x. l })

pub next : (w : Components) (act : Option Act) (v : Components) → AreKept w → IsFalling w → NextAct w act v → Next w v (is_done act)
next w act v a f n =
    let r = quiet w n.seen n.made n.quietly a f in
    let h = hand n.seen act v r.kept r.falling n.hands in
    let i = r.least in let j = h.least in
    record { kept = h.kept; falling = h.falling; least = omega (arith, i, j); less = λ e. let l = h.less e in omega (arith, i, l) }
