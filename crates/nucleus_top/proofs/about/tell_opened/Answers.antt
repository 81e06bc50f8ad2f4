use Rattle.std.proofs.Common.{Err, ap}
use Rattle.deploy_state.specs.States.{loaded_device}
use Rattle.nucleus_top.specs.Answers.{Store, store_of}
use Rattle.nucleus_top.proofs.AboutEnds.{done_unfailed, fault_told, found_told, other_told}
use Rattle.nucleus_top.proofs.about.tell_opened.Goals as goal

pub tell_stored-requires : goal.tell_stored-requires
tell_stored-requires g c = record { ready = c.in-Ok.ensures.ready }

pub returns-in-Ok-clause-comes : goal.returns-in-Ok-clause-comes
returns-in-Ok-clause-comes g c =
    let store : Store = store_of g.D.Disk.is_modelled g.D.Disk.seen g.D.Disk.faults c.args.disk.now c.open.new.disk in
    found_told c.args.version.now store c.args.counted.now c.open.ensures.seen c.requires.counted (loaded_device c.in-Ok.state) c.tell_stored.result
    c.tell_stored.ensures c.in-Ok.ensures.told

pub returns-in-Ok-clause-moments : goal.returns-in-Ok-clause-moments
returns-in-Ok-clause-moments g c = c.open.ensures.moments

pub returns-in-Ok-clause-keeps : goal.returns-in-Ok-clause-keeps
returns-in-Ok-clause-keeps g c = λ done. c.in-Ok.ensures.settled (λ is. cc)

pub returns-in-Ok-clause-seen : goal.returns-in-Ok-clause-seen
returns-in-Ok-clause-seen g c = c.open.ensures.seen

pub returns-in-Ok-clause-quiet : goal.returns-in-Ok-clause-quiet
returns-in-Ok-clause-quiet g c = λ other. c.in-Ok.ensures.quiet (λ is. cc)

pub returns-in-Ok-clause-later : goal.returns-in-Ok-clause-later
returns-in-Ok-clause-later g c = c.open.ensures.later

pub returns-in-Err-clause-comes : goal.returns-in-Err-clause-comes
returns-in-Err-clause-comes g c =
    let store : Store = store_of g.D.Disk.is_modelled g.D.Disk.seen g.D.Disk.faults c.args.disk.now c.open.new.disk in
    fault_told c.args.version.now store c.args.counted.now c.open.ensures.seen c.requires.counted c.in-Err.fault c.tell_fault.result c.tell_fault.ensures
    c.in-Err.ensures.told (λ is. c.in-Err.ensures.cause (ap Err is))

pub returns-in-Err-clause-moments : goal.returns-in-Err-clause-moments
returns-in-Err-clause-moments g c = c.open.ensures.moments

-- what is told is no fault of the disk where it is done
pub returns-in-Err-clause-keeps : goal.returns-in-Err-clause-keeps
returns-in-Err-clause-keeps g c = λ done.
    c.in-Err.ensures.settled (λ is. other_told c.args.version.now c.args.counted.now.unknown c.in-Err.fault c.tell_fault.result c.tell_fault.ensures
    (done_unfailed c.tell_fault.result done) (cc))

pub returns-in-Err-clause-seen : goal.returns-in-Err-clause-seen
returns-in-Err-clause-seen g c = c.open.ensures.seen

pub returns-in-Err-clause-quiet : goal.returns-in-Err-clause-quiet
returns-in-Err-clause-quiet g c = λ other.
    c.in-Err.ensures.quiet (λ is. other_told c.args.version.now c.args.counted.now.unknown c.in-Err.fault c.tell_fault.result c.tell_fault.ensures other (cc))

pub returns-in-Err-clause-later : goal.returns-in-Err-clause-later
returns-in-Err-clause-later g c = c.open.ensures.later
