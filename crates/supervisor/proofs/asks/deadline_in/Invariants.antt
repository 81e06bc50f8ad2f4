use Rattle.std.proofs.Common.{◌≡◌, drop}
use Rattle.components.specs.Deadlines.{earlier, least_of}
use Rattle.supervisor.proofs.asks.deadline_in.Given as goal

abbrev pub invariant-loop-slot : goal.invariant-loop-slot
invariant-loop-slot l = least_of l.slots ≡ earlier l.least (least_of (drop l.slot-index l.slots))
