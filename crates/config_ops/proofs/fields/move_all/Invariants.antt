use Rattle.std.proofs.Common.{◌≡◌, ◌++◌}
use Rattle.std.specs.Vec.Iter.{into_iter_items}
use Rattle.config_ops.proofs.fields.move_all.Given as goal

abbrev pub invariant-loop-field : goal.invariant-loop-field
invariant-loop-field l = l.done.items ++ into_iter_items l.field-iterator ≡ l.initial.done.items ++ l.fn.rest.items
