use Rattle.std.proofs.Common.{◌≡◌, drop}
use Rattle.components.specs.Marks.{is_flagged}
use Rattle.components.specs.Flags.{with_flags}
use Rattle.supervisor.proofs.marks.is_flagged.Given as goal

abbrev pub invariant-loop-at : goal.invariant-loop-at
invariant-loop-at l = is_flagged l.name (with_flags l.slots l.flags) ≡ is_flagged l.name (with_flags (drop l.at l.slots) (drop l.at l.flags))
