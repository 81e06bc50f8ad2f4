use Rattle.std.proofs.Common.{◌≡◌, drop}
use Rattle.std.specs.List.{list_any}
use Rattle.std.specs.Str.{bytes_eq}
use Rattle.config_cmd.proofs.document.requires_name.Given as goal

abbrev pub invariant-loop-requirement : goal.invariant-loop-requirement
invariant-loop-requirement l =
    list_any (λ r. bytes_eq l.name r.name) l.group.requirements ≡ list_any (λ r. bytes_eq l.name r.name) (drop l.requirement-index l.group.requirements)
