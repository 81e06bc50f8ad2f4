use Rattle.supervisor.proofs.Held.{AskedSoFar}
use Rattle.supervisor.proofs.holds.any_asks_alone.Given as goal

abbrev pub invariant-loop-slot : goal.invariant-loop-slot
invariant-loop-slot l = AskedSoFar l.slots l.slot-index
