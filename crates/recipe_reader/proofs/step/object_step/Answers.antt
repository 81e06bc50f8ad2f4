use Rattle.tree_core.specs.View.{view}
use Rattle.nuc_base.specs.Tables.{on}
use Rattle.nuc_base.proofs.Tables.{handed_on}
use Rattle.recipe_reader.specs.Spelled.{spelled}
use Rattle.recipe_reader.specs.Keys.{keyed}
use Rattle.recipe_reader.specs.Environment.{environment_lines}
use Rattle.recipe_reader.specs.Steps.{double_lines, script_lines, skip_lines, timeout_lines, object_lines, IsStepDef}
use Rattle.recipe_reader.specs.declared.fault.RecipeFault.TheVariants.{NoMemory}
use Rattle.recipe_reader.specs.declared.fault.Key.TheVariants.{Skipif, Timeout, Setenv}
use Rattle.recipe_reader.proofs.Chains.{fault_4_of_5}
use Rattle.recipe_reader.proofs.step.object_step.Goals as goal

pub returns-in_err-limit_ms : goal.returns-in_err-limit_ms
returns-in_err-limit_ms c =
    let v = view c.args.value.now in
    let f = c.in_err-limit_ms.field-0.0 in
    handed_on NoMemory (object_lines v) (IsStepDef c.args.step c.args.outer.now v) _ f c.from_residual-in_err-limit_ms.ensures.1
    (fault_4_of_5 NoMemory (double_lines v) (script_lines v) (on (keyed (spelled Skipif) v) skip_lines) (on (keyed (spelled Timeout) v) timeout_lines)
    (on (keyed (spelled Setenv) v) environment_lines) f
    c.in_ok-no_doubles.ensures.0 c.in_ok-script.ensures.0 c.in_ok-skip.ensures.0 c.in_err-limit_ms.ensures)
