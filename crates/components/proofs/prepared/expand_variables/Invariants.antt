use Rattle.std.proofs.Common.{take}
use Rattle.std.specs.List.{AllZip}
use Rattle.components.specs.Made.{IsVariable}
use Rattle.components.proofs.prepared.expand_variables.Given as goal

abbrev pub invariant-loop-variable : goal.invariant-loop-variable
invariant-loop-variable l = AllZip (IsVariable l.scope) (take l.variable-index l.variables) l.made.items
