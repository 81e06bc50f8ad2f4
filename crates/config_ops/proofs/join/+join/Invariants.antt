use Rattle.std.proofs.Common.{◌≡◌, drop}
use Rattle.tree_core.specs.View.{fields_view}
use Rattle.tree_core.specs.Regular.{MembersAreOrderly}
use Rattle.config_ops.specs.Join.{joined_members, kept_by}
use Rattle.config_ops.proofs.Joining.{behind}
use Rattle.config_ops.proofs.join.+join.Given as goal

abbrev pub invariant-join_fields-loop-name : goal.invariant-join_fields-loop-name
invariant-join_fields-loop-name l =
    (joined_members (kept_by l.rule) (fields_view l.initial.rest.items) (fields_view l.name-items)
    ≡ behind (fields_view l.joined.items) (joined_members (kept_by l.rule) (fields_view l.rest.items) (fields_view (drop l.name-index l.name-items))))
    × MembersAreOrderly (fields_view l.rest.items)
    × MembersAreOrderly (fields_view (drop l.name-index l.name-items))
