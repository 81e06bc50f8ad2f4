use Rattle.std.proofs.Common.{Err, ap}
use Rattle.deploy_state.specs.States.{loaded_device}
use Rattle.nucleus_top.specs.Answers.{Store, store_of}
use Rattle.nucleus_top.specs.Components.{ListsStopped}
use Rattle.nucleus_top.proofs.ComponentsEnds.{lists_none}
use Rattle.nucleus_top.proofs.Faults.{refuses, other_fault}
use Rattle.nucleus_top.proofs.Looked.{found_looks, refused_looks}
use Rattle.nucleus_top.proofs.component_lines.list_set.Goals as goal

pub returns-in-Ok-clause-comes : goal.returns-in-Ok-clause-comes
returns-in-Ok-clause-comes g c =
    let store : Store = store_of g.D.Disk.is_modelled g.D.Disk.seen g.D.Disk.faults c.args.disk.now c.open.new.disk in
    found_looks ListsStopped store (lists_none store) (loaded_device c.in-Ok.state) c.list_stored.result c.open.ensures.seen c.in-Ok.ensures.told
    c.list_stored.ensures

pub returns-in-Ok-clause-moments : goal.returns-in-Ok-clause-moments
returns-in-Ok-clause-moments g c = c.open.ensures.moments

pub returns-in-Ok-clause-seen : goal.returns-in-Ok-clause-seen
returns-in-Ok-clause-seen g c = c.open.ensures.seen

pub returns-in-Ok-clause-quiet : goal.returns-in-Ok-clause-quiet
returns-in-Ok-clause-quiet g c = λ other. c.in-Ok.ensures.quiet (λ is. cc)

pub returns-in-Ok-clause-later : goal.returns-in-Ok-clause-later
returns-in-Ok-clause-later g c = c.open.ensures.later

pub returns-in-Err-clause-comes : goal.returns-in-Err-clause-comes
returns-in-Err-clause-comes g c =
    let store : Store = store_of g.D.Disk.is_modelled g.D.Disk.seen g.D.Disk.faults c.args.disk.now c.open.new.disk in
    refused_looks ListsStopped store c.refused.result (refuses store c.in-Err.fault c.refused.result c.refused.ensures c.open.ensures.seen
    c.in-Err.ensures.told (λ is. c.in-Err.ensures.cause (ap Err is)))

pub returns-in-Err-clause-moments : goal.returns-in-Err-clause-moments
returns-in-Err-clause-moments g c = c.open.ensures.moments

pub returns-in-Err-clause-seen : goal.returns-in-Err-clause-seen
returns-in-Err-clause-seen g c = c.open.ensures.seen

pub returns-in-Err-clause-quiet : goal.returns-in-Err-clause-quiet
returns-in-Err-clause-quiet g c = λ other. c.in-Err.ensures.quiet (λ is. other_fault c.in-Err.fault c.refused.result c.refused.ensures other (cc))

pub returns-in-Err-clause-later : goal.returns-in-Err-clause-later
returns-in-Err-clause-later g c = c.open.ensures.later
