use Rattle.std.specs.Prelude.{Some}
use Rattle.tree_core.specs.View.{view}
use Rattle.tree_core.specs.Parts.{optional}
use Rattle.nuc_base.proofs.Tables.{handed_on}
use Rattle.recipe_reader.specs.Spelled.{spelled}
use Rattle.recipe_reader.specs.Lifecycles.{lifecycle_lines}
use Rattle.recipe_reader.specs.Artifacts.{artifacts_lines}
use Rattle.recipe_reader.specs.Recipes.{chosen_lines}
use Rattle.recipe_reader.specs.Gathered.{IsChosen}
use Rattle.recipe_reader.specs.declared.fault.RecipeFault.TheVariants.{NoMemory}
use Rattle.recipe_reader.specs.declared.fault.Key.TheVariants.{Lifecycle, Artifacts}
use Rattle.recipe_reader.proofs.Chains.{all_2, fault_1_of_2, fault_2_of_2}
use Rattle.recipe_reader.proofs.manifest.chosen_in.Goals as goal

pub returns-in_err-steps : goal.returns-in_err-steps
returns-in_err-steps c =
    let v = view c.args.manifest.now in
    let f = c.in_err-steps.field-0.0 in
    handed_on NoMemory (chosen_lines v) (IsChosen (Some v)) _ f c.from_residual.ensures.1
    (fault_1_of_2 NoMemory (optional (spelled Lifecycle) v lifecycle_lines) (optional (spelled Artifacts) v artifacts_lines) f c.in_err-steps.ensures)

pub returns-in-Err : goal.returns-in-Err
returns-in-Err c =
    let v = view c.args.manifest.now in
    fault_2_of_2 NoMemory (optional (spelled Lifecycle) v lifecycle_lines) (optional (spelled Artifacts) v artifacts_lines) c.in-Err.fault c.in_ok-steps.ensures.0
    c.in-Err.ensures

pub returns-in-Ok : goal.returns-in-Ok
returns-in-Ok c =
    let v = view c.args.manifest.now in (
      all_2 (optional (spelled Lifecycle) v lifecycle_lines) (optional (spelled Artifacts) v artifacts_lines) c.in_ok-steps.ensures.0
          c.in-Ok.ensures.0,
      record { steps = c.in_ok-steps.ensures.1; boot_back = c.back_of.ensures; artifacts = c.in-Ok.ensures.1 },
    )
