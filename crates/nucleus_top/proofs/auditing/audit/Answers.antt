use Rattle.std.proofs.Common.{◌∙◌, arith, subst, Err, ap}
use Rattle.command_words.specs.declared.order.Order.TheVariants as order
use Rattle.deploy_state.specs.States.{loaded_device}
use Rattle.checkpoint_log.specs.Slots.{slots_files}
use Rattle.disk_model.specs.Disk.{Image}
use Rattle.disk_model.specs.Moments.{then_same}
use Rattle.nuc_base.specs.Faults.{Rose}
use Rattle.nucleus_top.specs.Answers.{Store, store_of}
use Rattle.nucleus_top.specs.Audits.{ComparisonAnswer}
use Rattle.nucleus_top.proofs.AuditEnds.{found_audits}
use Rattle.nucleus_top.proofs.Faults.{refuses, refused_audits, refused_keeps, other_fault}
use Rattle.nucleus_top.proofs.Images.{settled_on}
use Rattle.nucleus_top.proofs.auditing.audit.Goals as goal

pub returns-in-Ok-clause-comes : goal.returns-in-Ok-clause-comes
returns-in-Ok-clause-comes g c =
    let store : Store = store_of g.D.Disk.is_modelled g.D.Disk.seen g.D.Disk.faults c.args.disk.now c.compare_stored.new.disk in
    let d = loaded_device c.in-Ok.state in
    found_audits store d c.compare_stored.result (subst (λ (s : Image). ComparisonAnswer g.D.Disk.is_modelled s d c.compare_stored.result) c.open.ensures.seen
    c.compare_stored.ensures.comes)
    (c.compare_stored.ensures.seen ∙ c.open.ensures.seen)
    (λ is. let rose : Rose (g.D.Disk.faults c.args.disk.now) (g.D.Disk.faults c.compare_stored.new.disk) =
    omega (arith, c.compare_stored.ensures.cause is, c.open.ensures.later) in rose)
    c.in-Ok.ensures.told

pub returns-in-Ok-clause-moments : goal.returns-in-Ok-clause-moments
returns-in-Ok-clause-moments g c =
    then_same g.met.D.Disk.laws c.args.disk.now c.open.new.disk c.compare_stored.new.disk (g.D.Disk.may_leave c.args.disk.now) c.open.ensures.moments
    c.compare_stored.ensures.moments

pub returns-in-Ok-clause-keeps : goal.returns-in-Ok-clause-keeps
returns-in-Ok-clause-keeps g c = λ done.
    settled_on g.met.D.Disk.laws slots_files c.open.new.disk c.compare_stored.new.disk c.compare_stored.ensures.moments c.compare_stored.ensures.seen
    (c.in-Ok.ensures.settled (λ is. cc))

pub returns-in-Ok-clause-seen : goal.returns-in-Ok-clause-seen
returns-in-Ok-clause-seen g c = c.compare_stored.ensures.seen ∙ c.open.ensures.seen

pub returns-in-Ok-clause-quiet : goal.returns-in-Ok-clause-quiet
returns-in-Ok-clause-quiet g c = λ other. c.compare_stored.ensures.quiet other ∙ c.in-Ok.ensures.quiet (λ is. cc)

pub returns-in-Ok-clause-later : goal.returns-in-Ok-clause-later
returns-in-Ok-clause-later g c = omega (arith, c.open.ensures.later, c.compare_stored.ensures.later)

pub returns-in-Err-clause-comes : goal.returns-in-Err-clause-comes
returns-in-Err-clause-comes g c =
    let store : Store = store_of g.D.Disk.is_modelled g.D.Disk.seen g.D.Disk.faults c.args.disk.now c.open.new.disk in
    refused_audits store c.refused.result (refuses store c.in-Err.fault c.refused.result c.refused.ensures c.open.ensures.seen c.in-Err.ensures.told
    (λ is. c.in-Err.ensures.cause (ap Err is)))

pub returns-in-Err-clause-moments : goal.returns-in-Err-clause-moments
returns-in-Err-clause-moments g c = c.open.ensures.moments

pub returns-in-Err-clause-keeps : goal.returns-in-Err-clause-keeps
returns-in-Err-clause-keeps g c =
    refused_keeps order.Audit (g.D.Disk.may_leave c.open.new.disk) (g.D.Disk.seen c.open.new.disk) c.in-Err.fault c.refused.result c.refused.ensures

pub returns-in-Err-clause-seen : goal.returns-in-Err-clause-seen
returns-in-Err-clause-seen g c = c.open.ensures.seen

pub returns-in-Err-clause-quiet : goal.returns-in-Err-clause-quiet
returns-in-Err-clause-quiet g c = λ other. c.in-Err.ensures.quiet (λ is. other_fault c.in-Err.fault c.refused.result c.refused.ensures other (cc))

pub returns-in-Err-clause-later : goal.returns-in-Err-clause-later
returns-in-Err-clause-later g c = c.open.ensures.later
