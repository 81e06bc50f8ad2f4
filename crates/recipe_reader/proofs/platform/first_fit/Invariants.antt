use Rattle.std.proofs.Common.{map, drop}
use Rattle.tree_core.specs.View.{view}
use Rattle.recipe_reader.proofs.Walks.{Walks}
use Rattle.recipe_reader.proofs.platform.first_fit.Given as goal

abbrev pub invariant-loop-manifest : goal.invariant-loop-manifest
invariant-loop-manifest l = Walks l.platform (map view l.manifest-items) (map view (drop l.manifest-index l.manifest-items))
