use Rattle.std.proofs.Common.{refl}
use Rattle.disk_model.specs.Memory.{seen_by}
use Rattle.deploy_state.specs.States.{loaded_device}
use Rattle.nucleus_top.proofs.WorkloadEnds.{found_tally}
use Rattle.nucleus_top.proofs.workload_run.line_of.Goals as goal

pub returns-in-Ok : goal.returns-in-Ok
returns-in-Ok c =
    found_tally c.args.seed (seen_by c.args.disk.now) (loaded_device c.in-Ok.state) c.line_stored.result (c.in-Ok.ensures.told refl).1
    c.line_stored.ensures
