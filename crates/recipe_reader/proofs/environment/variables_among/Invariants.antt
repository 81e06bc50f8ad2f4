use Rattle.std.proofs.Common.{map, drop}
use Rattle.tree_core.specs.View.{field_view}
use Rattle.nuc_base.specs.Tables.{IsPass}
use Rattle.recipe_reader.specs.Environment.{variable_lines, IsVariable}
use Rattle.recipe_reader.proofs.environment.variables_among.Given as goal

abbrev pub invariant-loop-name : goal.invariant-loop-name
invariant-loop-name l = IsPass variable_lines IsVariable (map field_view l.name-items) (map field_view (drop l.name-index l.name-items)) l.variables.items
