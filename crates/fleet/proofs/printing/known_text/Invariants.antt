use Rattle.std.proofs.Common.{◌≡◌, take, codes}
use Rattle.std.specs.List.{flat_map}
use Rattle.fleet.specs.Course.{revision_line}
use Rattle.fleet.proofs.printing.known_text.Given as goal

abbrev pub invariant-loop-group : goal.invariant-loop-group
invariant-loop-group l = l.text ≡ flat_map (λ e. revision_line (codes "known") l.device e.0 e.1) (take l.group-index l.list)
