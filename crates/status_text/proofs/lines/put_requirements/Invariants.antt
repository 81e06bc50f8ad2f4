use Rattle.std.proofs.Common.{◌≡◌, ◌++◌, take}
use Rattle.std.specs.List.{flat_map}
use Rattle.status_text.specs.Status.{requirement_line}
use Rattle.status_text.proofs.lines.put_requirements.Given as goal

abbrev pub invariant-loop-requirement : goal.invariant-loop-requirement
invariant-loop-requirement l = l.out ≡ l.fn.out ++ flat_map requirement_line (take l.requirement-index l.requirements)
