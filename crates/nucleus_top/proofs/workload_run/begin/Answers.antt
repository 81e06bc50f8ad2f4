use Rattle.std.proofs.Common.{refl, true}
use Rattle.disk_model.specs.Memory.{faults_by, seen_by}
use Rattle.nucleus_top.specs.Answers.{Store, store_of}
use Rattle.nucleus_top.proofs.WorkloadEnds.{begun_made}
use Rattle.nucleus_top.proofs.workload_run.begin.Goals as goal

pub returns-in-Made : goal.returns-in-Made
returns-in-Made c =
    let store : Store = store_of true seen_by faults_by c.args.disk.now c.init.new.disk in
    begun_made c.in_ok-origin.origin store c.init.result c.in-Made.field-0 c.in-Made.is c.init.ensures.comes refl c.in_ok-origin.ensures
