use Rattle.std.proofs.Common.{◌≡◌, drop}
use Rattle.components.specs.Marks.{needs_flagged}
use Rattle.components.specs.Flags.{with_flags}
use Rattle.supervisor.proofs.marks.needs_flagged.Given as goal

abbrev pub invariant-loop-need : goal.invariant-loop-need
invariant-loop-need l = needs_flagged l.needs (with_flags l.slots l.flags) ≡ needs_flagged (drop l.need-index l.needs) (with_flags l.slots l.flags)
