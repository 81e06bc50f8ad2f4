use Rattle.std.proofs.Common.{map, drop}
use Rattle.tree_core.specs.View.{field_view}
use Rattle.nuc_base.specs.Tables.{IsPass}
use Rattle.recipe_reader.specs.Dependencies.{dependency_lines}
use Rattle.recipe_reader.specs.Dependencies.{IsDependency}
use Rattle.recipe_reader.proofs.dependency.dependencies_among.Given as goal

abbrev pub invariant-loop-name : goal.invariant-loop-name
invariant-loop-name l = IsPass dependency_lines IsDependency (map field_view l.name-items) (map field_view (drop l.name-index l.name-items))
    l.dependencies.items
