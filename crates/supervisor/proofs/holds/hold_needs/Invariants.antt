use Rattle.std.proofs.Common.{take}
use Rattle.std.specs.Prelude.{is_some}
use Rattle.supervisor.proofs.Held.{Needs}
use Rattle.supervisor.proofs.holds.hold_needs.Given as goal

abbrev pub invariant-loop-need : goal.invariant-loop-need
invariant-loop-need l = Needs l.slots l.fn.flags l.flags (is_some l.fn.first) (is_some l.last) (take l.need-index l.needs)
