use Rattle.std.proofs.Common.{◌≡◌, drop}
use Rattle.tree_core.specs.View.{fields_view}
use Rattle.recipe_reader.specs.Keys.{has_two}
use Rattle.recipe_reader.proofs.keys.has_two.Given as goal

abbrev pub invariant-loop-i : goal.invariant-loop-i
invariant-loop-i l = has_two l.key (fields_view l.fields) ≡ has_two l.key (fields_view (drop l.i l.fields))
