use Rattle.std.proofs.Common.{◌≡◌, take}
use Rattle.device.proofs.spare.copy_groups.Given as goal

abbrev pub invariant-loop-at : goal.invariant-loop-at
invariant-loop-at l = l.copy.list ≡ take l.at l.groups.list
