use Rattle.std.proofs.Common.{◌≡◌, ◌++◌, take}
use Rattle.std.specs.List.{flat_map}
use Rattle.refusal_lines.specs.Lines.{boot_line}
use Rattle.refusal_lines.proofs.plans.put_boots.Given as goal

abbrev pub invariant-loop-name : goal.invariant-loop-name
invariant-loop-name l = l.out ≡ l.fn.out ++ flat_map boot_line (take l.name-index l.boots)
