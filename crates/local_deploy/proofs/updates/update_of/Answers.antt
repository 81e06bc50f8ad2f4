use Rattle.tree_core.specs.View.{view}
use Rattle.deployment_doc.specs.Lines.{update_lines}
use Rattle.deployment_doc.specs.declared.fault.DocFault.TheVariants as doc
use Rattle.local_deploy.specs.Lines.{update_fault}
use Rattle.local_deploy.proofs.Handing.{handed_hold, handed_fault}
use Rattle.local_deploy.proofs.updates.update_of.Goals as goal

pub returns-in-Ok : goal.returns-in-Ok
returns-in-Ok c = (handed_hold update_fault (update_lines c.args.name.now (view c.args.update.now)) c.in-Ok.ensures.0, c.in-Ok.ensures.1)

pub returns-in-Err : goal.returns-in-Err
returns-in-Err c =
    handed_fault update_fault doc.NoMemory (update_lines c.args.name.now (view c.args.update.now)) c.in-Err.fault c.from.result c.from.ensures
    c.in-Err.ensures
