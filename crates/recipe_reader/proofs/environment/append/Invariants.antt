use Rattle.std.proofs.Common.{◌≡◌, ◌++◌, take}
use Rattle.recipe_reader.proofs.environment.append.Given as goal

abbrev pub invariant-loop-variable : goal.invariant-loop-variable
invariant-loop-variable l = l.into.items ≡ l.initial.into.items ++ take l.variable-index l.variables
