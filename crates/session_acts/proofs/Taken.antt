-- What an act makes of the number of the loops.
use Rattle.std.proofs.Common.{◌≡◌, ◌⊎◌, ◌<◌, ◌≤◌, ◌+◌, ◌^◌, Option, Some, None, ℕ, inl, inr, refl, sym, subst}
use Rattle.std.specs.Prelude.{⊤}
use Rattle.std.specs.Option.{IsSomeAnd}
use Rattle.nuc_base.specs.declared.kinds.Exit.{Exit}
use Rattle.nuc_base.specs.declared.kinds.Step.{Step}
use Rattle.components.specs.Components.{Components}
use Rattle.components.specs.Deadlines.{least_deadline, until}
use Rattle.components.specs.Acts.{NextAct}
use Rattle.components.specs.declared.kinds.Act.{Act}
use Rattle.components.specs.declared.kinds.Act.TheVariants as acts
use Rattle.law_termination.specs.Drives.{AreDriven, HasFewerLoops, NotAbove}
use Rattle.law_termination.specs.Kept.{IsFalling}
use Rattle.law_termination.specs.Rank.{rank}
use Rattle.law_termination.specs.Time.{HasTime}
use Rattle.law_termination.proofs.Steps.{falls_after, falls_not_above, next_falling, next_falls, next_not_above, refuse_falls, skip_falls}
use Rattle.law_termination.proofs.Steps.{end_falls, self_not_above, start_falls, time_on}
use Rattle.session_acts.specs.Taken.{IsActTaken, IsAnswered, IsCarriedOut}
use Rattle.session_acts.specs.Waits.{IsWaited}
use Rattle.session_acts.specs.declared.acts.Did.{Did}
use Rattle.session_acts.specs.declared.acts.Did.TheVariants as did

pub not_none : {A : Type 0} (x : A) → Some x ≡ None → ⊥
not_none x e = subst (λ o. IsSomeAnd o (λ _. ⊤)) e tt

-- ---- what came of asking

pub something_is : (x : Did) → x ≡ did.Something → x ≡ did.Nothing → ⊥
something_is x is nothing = absurd (cc)

pub failed_is : (x : Did) (k : ℕ) (s : Step) (e : Exit) → x ≡ did.Failed k s e → x ≡ did.Nothing → ⊥
failed_is x k s e is nothing = absurd (cc)

-- ---- the number

answer_falls : (now k : ℕ) (s : Step) (w v : Components) → AreDriven w → IsFalling w → IsAnswered now k s w v → HasFewerLoops w v
answer_falls now k s w v d f (h, inl e) = skip_falls w now d f v k s h e
answer_falls now k s w v d f (h, inr (inl e)) = refuse_falls w now d f v k s h e
answer_falls now k s w v d f (h, inr (inr (n, e))) = start_falls w now d f v k n s h e

module _ (now : ℕ) (w v : Components) (d : AreDriven w) (f : IsFalling w) where
  done_falls : (a : Act) (u : Components) → NextAct w (Some a) u → IsCarriedOut now (Some a) u v → HasFewerLoops w v
  done_falls (acts.Start k s) u n c =
      let b = next_not_above w u (Some (acts.Start k s)) d f n in
      falls_after w u v b (answer_falls now k s u v b.on.drives (next_falling w u (Some (acts.Start k s)) d f n) c)
  done_falls (acts.Kill x) u n c = subst (HasFewerLoops w) (sym c) (next_falls w u (Some (acts.Kill x)) d f n refl)
  done_falls (acts.Failed k s e) u n c = subst (HasFewerLoops w) (sym c) (next_falls w u (Some (acts.Failed k s e)) d f n refl)
  done_falls (acts.Broke k s e) u n c = subst (HasFewerLoops w) (sym c) (next_falls w u (Some (acts.Broke k s e)) d f n refl)

  pub taken_falls : (x : Did) → IsActTaken now x w v → ¬ (x ≡ did.Nothing) → HasFewerLoops w v
  taken_falls x t some = by t.act t.handed t.next t.carried t.none
    where
      by : (a : Option Act) (u : Components) → NextAct w a u → IsCarriedOut now a u v → (a ≡ None → x ≡ did.Nothing) → HasFewerLoops w v
      by None u n c none = absurd (some (none refl))
      by (Some a) u n c none = done_falls a u n c

  pub taken_not_above : (x : Did) → IsActTaken now x w v → NotAbove w v
  taken_not_above x t = by t.act t.handed t.next t.carried
    where
      by : (a : Option Act) (u : Components) → NextAct w a u → IsCarriedOut now a u v → NotAbove w v
      by None u n c = subst (NotAbove w) (sym c) (next_not_above w u None d f n)
      by (Some a) u n c = falls_not_above w v (done_falls a u n c)

-- ---- a wait

-- a child ended, or the time went on
pub waited_not_above : (now limit before after : ℕ) (w v : Components) → AreDriven w → IsFalling w → IsWaited now limit before after w v → NotAbove w v
waited_not_above now limit before after w v d f (inl (n, x, own, e)) = falls_not_above w v (end_falls w now d f v n x own e)
waited_not_above now limit before after w v d f (inr (e, time)) = subst (NotAbove w) (sym e) (self_not_above w d)

pub waited_goes_on : (now limit before after : ℕ) (w v : Components) → AreDriven w → IsFalling w → w.moment ≡ now → HasTime w → w.moment + 1 < 2 ^ 62 →
    limit ≡ until (least_deadline w) now → now ≤ before → IsWaited now limit before after w v → (rank v < rank w) ⊎ (now < after)
waited_goes_on now limit before after w v d f m t r l past (inl (n, x, own, e)) = inl (end_falls w now d f v n x own e).less
waited_goes_on now limit before after w v d f m t r l past (inr (e, time)) = inr (time_on w now before after limit m t r l past time)
