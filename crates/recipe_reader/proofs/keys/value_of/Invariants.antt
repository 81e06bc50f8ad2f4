use Rattle.std.proofs.Common.{◌≡◌, drop}
use Rattle.tree_core.specs.View.{fields_view}
use Rattle.recipe_reader.specs.Keys.{value_of}
use Rattle.recipe_reader.proofs.keys.value_of.Given as goal

abbrev pub invariant-loop-name : goal.invariant-loop-name
invariant-loop-name l = value_of l.key (fields_view l.name-items) ≡ value_of l.key (fields_view (drop l.name-index l.name-items))
