use Rattle.supervisor.proofs.Flags.{Passes}
use Rattle.supervisor.proofs.marks.spread_once.Given as goal

abbrev pub invariant-loop-at : goal.invariant-loop-at
invariant-loop-at l = Passes l.slots l.fn.flags l.flags l.grew l.at
