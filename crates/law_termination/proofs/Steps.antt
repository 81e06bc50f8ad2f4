-- What a call that tells a supervisor what befell makes of the number of the loops.
use Rattle.std.proofs.Common.{◌≡◌, ◌⊎◌, ◌<◌, ◌≤◌, ◌+◌, ◌-◌, ◌^◌, ℕ, Option, Some, None, true, refl, sym, inl, inr, arith, subst}
use Rattle.std.specs.Prelude.{IsSome}
use Rattle.std.specs.Option.{IsSomeAnd}
use Rattle.nuc_base.specs.declared.kinds.Exit.{Exit}
use Rattle.nuc_base.specs.declared.kinds.Step.{Step}
use Rattle.components.specs.Acts.{NextAct}
use Rattle.components.specs.Answers.{HasHanded}
use Rattle.components.specs.Components.{At, Components, owner}
use Rattle.components.specs.Deadlines.{least_deadline, until}
use Rattle.components.specs.Events.{ended, later, refused, skipped, started}
use Rattle.components.specs.Turns.{is_begun}
use Rattle.components.specs.declared.kinds.Act.{Act}
use Rattle.law_termination.specs.Drives.{AreDriven, HasFewerLoops, GoesOn, NotAbove}
use Rattle.law_termination.specs.Kept.{IsFalling, is_done}
use Rattle.law_termination.specs.Rank.{measure, rank}
use Rattle.law_termination.specs.Time.{HasTime}
use Rattle.law_termination.proofs.Events.{end_on, goes_through, later_on, next_on, refuse_on, skip_on, start_on}
use Rattle.law_termination.proofs.Ranks.{ended_rank, refused_rank, skipped_rank, started_rank}
use Rattle.law_termination.proofs.Sums.{at_map}
use Rattle.law_termination.proofs.Whole.{next}

-- ---- the next act

pub next_not_above : (w v : Components) (act : Option Act) → AreDriven w → IsFalling w → NextAct w act v → NotAbove w v
next_not_above w v act d f n = let x = next w act v d.alone f n in record { on = next_on w v act n d; least = x.least }

pub next_falls : (w v : Components) (act : Option Act) → AreDriven w → IsFalling w → NextAct w act v → is_done act ≡ true → HasFewerLoops w v
next_falls w v act d f n e = let x = next w act v d.alone f n in record { on = next_on w v act n d; less = x.less e }

pub next_falling : (w v : Components) (act : Option Act) → AreDriven w → IsFalling w → NextAct w act v → IsFalling v
next_falling w v act d f n = (next w act v d.alone f n).falling

-- ---- what is told, with the moment

module _ (w : Components) (now : ℕ) (d : AreDriven w) (f : IsFalling w) where
  then_on : (v : Components) → GoesOn (later now w) v → GoesOn w v
  then_on v g = goes_through w (later now w) v (later_on w d now) g

  begun : (k : ℕ) (s : Step) → HasHanded k s w → At k (λ p. is_begun s p ≡ true) w.parts
  begun k s h = at_map k w.parts (λ p. (p.handed ≡ true) × (is_begun s p ≡ true)) (λ p. is_begun s p ≡ true) (λ p x. x.1) h

  pub start_falls : (v : Components) (k n : ℕ) (s : Step) → HasHanded k s w → v ≡ started k s n (later now w) → HasFewerLoops w v
  start_falls v k n s h e =
      let l = (later_on w d now).drives in
      subst (HasFewerLoops w) (sym e) (record {
        on = then_on (started k s n (later now w)) (start_on (later now w) l k n s (begun k s h));
        less = started_rank (later now w) l.alone f k n s (begun k s h);
      })

  pub refuse_falls : (v : Components) (k : ℕ) (s : Step) → HasHanded k s w → v ≡ refused k s (later now w) → HasFewerLoops w v
  refuse_falls v k s h e =
      let l = (later_on w d now).drives in
      subst (HasFewerLoops w) (sym e) (record {
        on = then_on (refused k s (later now w)) (refuse_on (later now w) l k s (begun k s h));
        less = refused_rank (later now w) l.alone f k s (begun k s h);
      })

  pub skip_falls : (v : Components) (k : ℕ) (s : Step) → HasHanded k s w → v ≡ skipped k (later now w) → HasFewerLoops w v
  skip_falls v k s h e =
      let l = (later_on w d now).drives in
      subst (HasFewerLoops w) (sym e) (record {
        on = then_on (skipped k (later now w)) (skip_on (later now w) l k s (begun k s h));
        less = skipped_rank (later now w) l.alone f k s (begun k s h);
      })

  owned : (o : Option (ℕ × Step)) → IsSome o → (x : ℕ × Step) × (o ≡ Some x)
  owned None h = absurd (cc)
  owned (Some x) h = (x, refl)

  pub end_falls : (v : Components) (n : ℕ) (x : Exit) → IsSome (owner n w.parts) → v ≡ ended n x (later now w) → HasFewerLoops w v
  end_falls v n x h e =
      let l = (later_on w d now).drives in
      let o = owned (owner n w.parts) h in
      subst (HasFewerLoops w) (sym e) (record {
        on = then_on (ended n x (later now w)) (end_on (later now w) l n x o.0.0 o.0.1 o.1);
        less = ended_rank (later now w) l.alone f n x o.0.0 o.0.1 o.1;
      })

pub pass_not_above : (w v : Components) (now : ℕ) → AreDriven w → v ≡ later now w → NotAbove w v
pass_not_above w v now d e = subst (NotAbove w) (sym e) (record { on = later_on w d now; least = omega arith })

-- ---- one after another

pub not_above_on : (u v w : Components) → NotAbove u v → NotAbove v w → NotAbove u w
not_above_on u v w a b = let x = a.least in let y = b.least in record { on = goes_through u v w a.on b.on; least = omega (arith, x, y) }

pub falls_after : (u v w : Components) → NotAbove u v → HasFewerLoops v w → HasFewerLoops u w
falls_after u v w a b = let x = a.least in let y = b.less in record { on = goes_through u v w a.on b.on; less = omega (arith, x, y) }

pub falls_not_above : (w v : Components) → HasFewerLoops w v → NotAbove w v
falls_not_above w v f = let x = f.less in record { on = f.on; least = omega (arith, x) }

pub self_not_above : (w : Components) → AreDriven w → NotAbove w w
self_not_above w d = record { on = record { drives = d; stays = refl }; least = omega arith }

-- ---- a wait, and the number of a loop of turns

-- a wait to the least deadline that elapsed leaves a later moment
pub time_on : (w : Components) (now old new limit : ℕ) → w.moment ≡ now → HasTime w → w.moment + 1 < 2 ^ 62 → limit ≡ until (least_deadline w) now →
    now ≤ old → (old + limit ≤ new) ⊎ (new ≡ 2 ^ 62 - 1) → now < new
time_on w now old new limit m t r l o e = by (least_deadline w) t l e
  where
    by : (o : Option ℕ) → IsSomeAnd o (λ d. w.moment < d) → limit ≡ until o now → (old + limit ≤ new) ⊎ (new ≡ 2 ^ 62 - 1) → now < new
    by None t l e = absurd t
    by (Some d) t l (inl e) = omega (arith, m, t, l, o, e)
    by (Some d) t l (inr e) = omega (arith, m, r, e)

pub measure_less : (w v : Components) (old new : ℕ) → old < 2 ^ 62 → new < 2 ^ 62 → (rank v < rank w) ⊎ ((rank v ≤ rank w) × (old < new)) →
    measure (later new v) < measure (later old w)
measure_less w v old new a b (inl l) = omega (arith, a, b, l)
measure_less w v old new a b (inr l) = omega (arith, a, b, l.0, l.1)

-- a turn: moves and acts, and then a wait that a child ended, or that left a later moment than the turn's
pub turn_goes : (a b c before now after : ℕ) → b ≤ a → c ≤ b → before ≤ now → (c < b) ⊎ (now < after) → (c < a) ⊎ ((c ≤ a) × (before < after))
turn_goes a b c before now after x y z (inl l) = inl (omega (arith, x, l))
turn_goes a b c before now after x y z (inr l) = inr (omega (arith, x, y), omega (arith, z, l))
