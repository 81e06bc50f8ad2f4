use Rattle.std.proofs.Common.{◌≡◌, drop}
use Rattle.tree_core.specs.View.{fields_view}
use Rattle.recipe_reader.specs.Keys.{has_key}
use Rattle.recipe_reader.proofs.keys.has_key.Given as goal

abbrev pub invariant-loop-name : goal.invariant-loop-name
invariant-loop-name l = has_key l.key (fields_view l.fields) ≡ has_key l.key (fields_view (drop l.name-index l.fields))
