use Rattle.components.specs.Flags.{free, HasSpread}
use Rattle.supervisor.proofs.marks.spread.Given as goal

abbrev pub invariant-rounds : goal.invariant-rounds
invariant-rounds l = HasSpread l.slots l.fn.flags l.flags

abbrev pub decreases-rounds : goal.decreases-rounds
decreases-rounds l = free l.flags
