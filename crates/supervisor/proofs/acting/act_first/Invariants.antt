use Rattle.std.proofs.Common.{◌≡◌, length}
use Rattle.components.specs.Flags.{at_moment}
use Rattle.components.specs.Whole.{work}
use Rattle.supervisor.proofs.Deeds.{Turns}
use Rattle.supervisor.proofs.acting.act_first.Given as goal

abbrev pub invariant-turns : goal.invariant-turns
invariant-turns l = record {
  many : length l.flags ≡ length l.slots;
  so_far : Turns (at_moment l.fn.slots l.moment l.steady) (at_moment l.slots l.moment l.steady);
}

abbrev pub decreases-turns : goal.decreases-turns
decreases-turns l = work l.slots
