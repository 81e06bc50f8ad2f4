use Rattle.tree_core.specs.View.{view}
use Rattle.nuc_base.proofs.Tables.{handed_on}
use Rattle.nuc_base.specs.declared.kinds.Step.TheVariants.{Shutdown, Recover, Bootstrap}
use Rattle.recipe_reader.specs.Lifecycles.{one_step, last_steps}
use Rattle.recipe_reader.specs.Made.{AreLast}
use Rattle.recipe_reader.specs.declared.fault.RecipeFault.TheVariants.{NoMemory}
use Rattle.recipe_reader.proofs.Chains.{all_3, fault_1_of_3, fault_2_of_3, fault_3_of_3}
use Rattle.recipe_reader.proofs.lifecycle.last_steps.Goals as goal

pub returns-in_err-shutdown : goal.returns-in_err-shutdown
returns-in_err-shutdown c =
    let v = view c.args.lifecycle.now in
    let f = c.in_err-shutdown.field-0.0 in
    handed_on NoMemory (last_steps v) (AreLast c.args.outer.now v) _ f c.from_residual.ensures.1
    (fault_1_of_3 NoMemory (one_step Shutdown v) (one_step Recover v) (one_step Bootstrap v) f c.in_err-shutdown.ensures)

pub returns-in_err-recover : goal.returns-in_err-recover
returns-in_err-recover c =
    let v = view c.args.lifecycle.now in
    let f = c.in_err-recover.field-0.0 in
    handed_on NoMemory (last_steps v) (AreLast c.args.outer.now v) _ f c.from_residual-in_err-recover.ensures.1
    (fault_2_of_3 NoMemory (one_step Shutdown v) (one_step Recover v) (one_step Bootstrap v) f c.in_ok-shutdown.ensures.0 c.in_err-recover.ensures)

pub returns-in_err-bootstrap : goal.returns-in_err-bootstrap
returns-in_err-bootstrap c =
    let v = view c.args.lifecycle.now in
    let f = c.in_err-bootstrap.field-0.0 in
    handed_on NoMemory (last_steps v) (AreLast c.args.outer.now v) _ f c.from_residual-in_err-bootstrap.ensures.1
    (fault_3_of_3 NoMemory (one_step Shutdown v) (one_step Recover v) (one_step Bootstrap v) f c.in_ok-shutdown.ensures.0 c.in_ok-recover.ensures.0
    c.in_err-bootstrap.ensures)

pub returns : goal.returns
returns c =
    let v = view c.args.lifecycle.now in (
      all_3 (one_step Shutdown v) (one_step Recover v) (one_step Bootstrap v) c.in_ok-shutdown.ensures.0 c.in_ok-recover.ensures.0 c.in_ok-bootstrap.ensures.0,
      record { shutdown = c.in_ok-shutdown.ensures.1; recover = c.in_ok-recover.ensures.1; bootstrap = c.in_ok-bootstrap.ensures.1 },
    )
