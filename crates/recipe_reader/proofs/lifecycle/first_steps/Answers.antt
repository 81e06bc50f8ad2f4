use Rattle.tree_core.specs.View.{view}
use Rattle.nuc_base.proofs.Tables.{handed_on}
use Rattle.nuc_base.specs.declared.kinds.Step.TheVariants.{Install, Run, Startup}
use Rattle.recipe_reader.specs.Lifecycles.{one_step, first_steps}
use Rattle.recipe_reader.specs.Made.{AreFirst}
use Rattle.recipe_reader.specs.declared.fault.RecipeFault.TheVariants.{NoMemory}
use Rattle.recipe_reader.proofs.Chains.{all_3, fault_1_of_3, fault_2_of_3, fault_3_of_3}
use Rattle.recipe_reader.proofs.lifecycle.first_steps.Goals as goal

pub returns-in_err-install : goal.returns-in_err-install
returns-in_err-install c =
    let v = view c.args.lifecycle.now in
    let f = c.in_err-install.field-0.0 in
    handed_on NoMemory (first_steps v) (AreFirst c.args.outer.now v) _ f c.from_residual.ensures.1
    (fault_1_of_3 NoMemory (one_step Install v) (one_step Run v) (one_step Startup v) f c.in_err-install.ensures)

pub returns-in_err-run : goal.returns-in_err-run
returns-in_err-run c =
    let v = view c.args.lifecycle.now in
    let f = c.in_err-run.field-0.0 in
    handed_on NoMemory (first_steps v) (AreFirst c.args.outer.now v) _ f c.from_residual-in_err-run.ensures.1
    (fault_2_of_3 NoMemory (one_step Install v) (one_step Run v) (one_step Startup v) f c.in_ok-install.ensures.0 c.in_err-run.ensures)

pub returns-in_err-startup : goal.returns-in_err-startup
returns-in_err-startup c =
    let v = view c.args.lifecycle.now in
    let f = c.in_err-startup.field-0.0 in
    handed_on NoMemory (first_steps v) (AreFirst c.args.outer.now v) _ f c.from_residual-in_err-startup.ensures.1
    (fault_3_of_3 NoMemory (one_step Install v) (one_step Run v) (one_step Startup v) f c.in_ok-install.ensures.0 c.in_ok-run.ensures.0
    c.in_err-startup.ensures)

pub returns : goal.returns
returns c =
    let v = view c.args.lifecycle.now in (
      all_3 (one_step Install v) (one_step Run v) (one_step Startup v) c.in_ok-install.ensures.0 c.in_ok-run.ensures.0 c.in_ok-startup.ensures.0,
      record { install = c.in_ok-install.ensures.1; run = c.in_ok-run.ensures.1; startup = c.in_ok-startup.ensures.1 },
    )
