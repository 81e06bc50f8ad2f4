use Rattle.std.proofs.Common.{map, drop}
use Rattle.tree_core.specs.View.{view}
use Rattle.recipe_reader.proofs.Listing.{Lists}
use Rattle.recipe_reader.proofs.artifact.artifacts_among.Given as goal

abbrev pub invariant-loop-value : goal.invariant-loop-value
invariant-loop-value l = Lists (map view l.value-items) (map view (drop l.value-index l.value-items)) l.artifacts.items
