use Rattle.std.specs.Prelude.{is_some}
use Rattle.supervisor.proofs.Held.{Passed}
use Rattle.supervisor.proofs.holds.hold_once.Given as goal

abbrev pub invariant-loop-at : goal.invariant-loop-at
invariant-loop-at l = Passed l.slots l.fn.flags l.flags (is_some l.first) l.at
