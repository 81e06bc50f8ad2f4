use Rattle.std.proofs.Common.{◌≡◌, ◌++◌, length}
use Rattle.config_ops.specs.Places.{fields_before, fields_from}
use Rattle.config_ops.proofs.fields.move_before.Given as goal

abbrev pub invariant-moving : goal.invariant-moving
invariant-moving l =
    (l.done.items ++ fields_before l.name l.rest.items ≡ l.initial.done.items ++ fields_before l.name l.initial.rest.items)
    × (fields_from l.name l.rest.items ≡ fields_from l.name l.initial.rest.items)

abbrev pub decreases-moving : goal.decreases-moving
decreases-moving l = length l.rest.items
