-- The number of a world, whose weights are those of so many components.
use Rattle.std.proofs.Common.{◌≡◌, ◌<◌, ◌≤◌, ◌+◌, ◌*◌, ℕ, length, Some, None, Bool, true, sym, ap, ◌∙◌, arith}
use Rattle.nuc_base.specs.declared.kinds.Exit.{Exit}
use Rattle.nuc_base.specs.declared.kinds.Step.{Step}
use Rattle.lifecycle.specs.declared.kinds.LifeEvent.{LifeEvent}
use Rattle.components.specs.Acts.{MayMove, MayKill, OwesAt}
use Rattle.components.specs.Components.{Components, At, owner}
use Rattle.components.specs.Events.{handed_at, started, refused, skipped, ended, killed, heard_at}
use Rattle.components.specs.Lives.{lived_at}
use Rattle.components.specs.Turns.{is_begun}
use Rattle.law_termination.specs.Kept.{IsFalling, AreKept}
use Rattle.law_termination.specs.Rank.{rank, one_failure}
use Rattle.law_termination.proofs.Answered.{handed_length}
use Rattle.law_termination.proofs.Happens.{move_lowers, killed_lowers, told_lowers, started_lowers, refused_lowers, skipped_lowers, ended_lowers}
use Rattle.law_termination.proofs.Priced.{total, handed_total}
use Rattle.law_termination.proofs.Stays.{length_lived, length_ended, length_killed, length_started, length_refused, length_skipped}
use Rattle.law_termination.proofs.Sums.{length_changed}

abbrev room : (n : ℕ) → n ≤ n
room n = omega arith

as_many : (v w : Components) → length v.parts ≡ length w.parts → total (one_failure w.parts) v ≡ rank v
as_many v w e = ap (λ (n : ℕ). total (1000 + 200 * n) v) (sym e)

less_rank : (v w : Components) → length v.parts ≡ length w.parts → total (one_failure w.parts) v < total (one_failure w.parts) w → rank v < rank w
less_rank v w e l = let s = as_many v w e in omega (arith, s, l)

module _ (w : Components) (a : AreKept w) (f : IsFalling w) where
  pub move_rank : (k : ℕ) (e : LifeEvent) → MayMove w k e → rank (lived_at k e w) < rank w
  move_rank k e m = less_rank (lived_at k e w) w (length_lived k e w) (move_lowers w a (one_failure w.parts) (room (one_failure w.parts)) f k e m)

  pub killed_rank : (n k : ℕ) (s : Step) → MayKill w n k s → rank (killed n w) < rank w
  killed_rank n k s m = less_rank (killed n w) w (length_killed n w) (killed_lowers w a (one_failure w.parts) (room (one_failure w.parts)) f n k s m)

  pub told_rank : (k : ℕ) (s : Step) (x : Exit) (b : Bool) → OwesAt w k s x b → rank (heard_at k w) < rank w
  told_rank k s x b m = less_rank (heard_at k w) w (length_changed k (λ p. record p { owed = None }) w.parts) (told_lowers w a (one_failure w.parts)
      (room (one_failure w.parts)) f k s x b m)

  pub started_rank : (k n : ℕ) (s : Step) → At k (λ p. is_begun s p ≡ true) w.parts → rank (started k s n w) < rank w
  started_rank k n s m = less_rank (started k s n w) w (length_started k n s w) (started_lowers w a (one_failure w.parts) (room (one_failure w.parts)) f k n
      s m)

  pub refused_rank : (k : ℕ) (s : Step) → At k (λ p. is_begun s p ≡ true) w.parts → rank (refused k s w) < rank w
  refused_rank k s m = less_rank (refused k s w) w (length_refused k s w) (refused_lowers w a (one_failure w.parts) (room (one_failure w.parts)) f k s m)

  pub skipped_rank : (k : ℕ) (s : Step) → At k (λ p. is_begun s p ≡ true) w.parts → rank (skipped k w) < rank w
  skipped_rank k s m = less_rank (skipped k w) w (length_skipped k w) (skipped_lowers w a (one_failure w.parts) (room (one_failure w.parts)) f k s m)

  pub ended_rank : (n : ℕ) (x : Exit) (k : ℕ) (s : Step) → owner n w.parts ≡ Some (k, s) → rank (ended n x w) < rank w
  ended_rank n x k s o = less_rank (ended n x w) w (length_ended n x w) (ended_lowers w a (one_failure w.parts) (room (one_failure w.parts)) f n x k s o)

pub handed_rank : (k : ℕ) (w : Components) → rank (handed_at k w) ≡ rank w
handed_rank k w = sym (as_many (handed_at k w) w (handed_length k w.parts)) ∙ handed_total (one_failure w.parts) k w.parts
