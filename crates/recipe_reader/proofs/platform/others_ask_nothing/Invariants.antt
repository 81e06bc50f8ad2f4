use Rattle.std.proofs.Common.{◌≡◌, drop, map}
use Rattle.std.specs.List.{list_all}
use Rattle.tree_core.specs.View.{field_view}
use Rattle.recipe_reader.specs.Platforms.{asks_nothing}
use Rattle.recipe_reader.proofs.platform.others_ask_nothing.Given as goal

abbrev pub invariant-loop-name : goal.invariant-loop-name
invariant-loop-name l = list_all asks_nothing (map field_view l.name-items) ≡ list_all asks_nothing (map field_view (drop l.name-index l.name-items))
