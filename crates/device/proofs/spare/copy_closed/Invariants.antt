use Rattle.std.proofs.Common.{◌≡◌, take}
use Rattle.device.proofs.spare.copy_closed.Given as goal

abbrev pub invariant-loop-entry : goal.invariant-loop-entry
invariant-loop-entry l = l.copy ≡ take l.entry-index l.entries
