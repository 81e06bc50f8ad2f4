use Rattle.supervisor.specs.Holds.{AreFlagsAdded, AreHeld}
use Rattle.supervisor.proofs.holds.hold_rest.Given as goal

abbrev pub invariant-loop-turn : goal.invariant-loop-turn
invariant-loop-turn l = record {
  adds : AreFlagsAdded l.fn.flags l.flags;
  held : AreHeld l.slots l.fn.flags → AreHeld l.slots l.flags;
}
