use Rattle.std.proofs.Common.{◌≡◌, drop}
use Rattle.config_cmd.specs.Documents.{group_for}
use Rattle.config_cmd.proofs.document.group_for.Given as goal

abbrev pub invariant-loop-at : goal.invariant-loop-at
invariant-loop-at l = group_for l.name l.groups.list ≡ group_for l.name (drop l.at l.groups.list)
