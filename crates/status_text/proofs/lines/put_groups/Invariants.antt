use Rattle.std.proofs.Common.{◌≡◌, ◌++◌, take}
use Rattle.std.specs.List.{flat_map}
use Rattle.status_text.specs.Status.{group_lines}
use Rattle.status_text.proofs.lines.put_groups.Given as goal

abbrev pub invariant-loop-at : goal.invariant-loop-at
invariant-loop-at l = l.out ≡ l.fn.out ++ flat_map group_lines (take l.at l.groups.list)
