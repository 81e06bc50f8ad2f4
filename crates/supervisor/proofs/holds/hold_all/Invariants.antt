use Rattle.std.proofs.Common.{◌≡◌, length}
use Rattle.components.specs.Flags.{free}
use Rattle.supervisor.specs.Holds.{AreHeld}
use Rattle.supervisor.proofs.holds.hold_all.Given as goal

abbrev pub invariant-rounds : goal.invariant-rounds
invariant-rounds l = record {
  many : length l.flags ≡ length l.fn.flags;
  held : AreHeld l.slots l.flags;
}

abbrev pub decreases-rounds : goal.decreases-rounds
decreases-rounds l = free l.flags
