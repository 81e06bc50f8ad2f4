use Rattle.std.proofs.Common.{◌∙◌, arith}
use Rattle.disk_model.specs.Moments.{then_same}
use Rattle.nucleus_top.proofs.AboutEnds.{counted_first}
use Rattle.nucleus_top.proofs.about.about.Goals as goal

pub tell_opened-requires : goal.tell_opened-requires
tell_opened-requires g c = record { counted = λ told. rw c.count_records.ensures.seen (c.in-Ok.ensures.told told) }

pub returns-in-Ok-clause-comes : goal.returns-in-Ok-clause-comes
returns-in-Ok-clause-comes g c =
    counted_first c.args.version.now g.D.Disk.is_modelled (g.D.Disk.seen c.args.disk.now) (g.D.Disk.seen c.count_records.new.disk) _
    (g.D.Disk.faults c.args.disk.now) (g.D.Disk.faults c.count_records.new.disk) _ c.tell_opened.result c.count_records.ensures.seen
    (c.in-Ok.ensures.quiet (λ is. cc)) c.tell_opened.ensures.comes

pub returns-in-Ok-clause-moments : goal.returns-in-Ok-clause-moments
returns-in-Ok-clause-moments g c =
    then_same g.met.D.Disk.laws c.args.disk.now c.count_records.new.disk c.tell_opened.new.disk (g.D.Disk.may_leave c.args.disk.now)
    c.count_records.ensures.moments c.tell_opened.ensures.moments

pub returns-in-Ok-clause-seen : goal.returns-in-Ok-clause-seen
returns-in-Ok-clause-seen g c = c.tell_opened.ensures.seen ∙ c.count_records.ensures.seen

pub returns-in-Ok-clause-quiet : goal.returns-in-Ok-clause-quiet
returns-in-Ok-clause-quiet g c = λ other. c.tell_opened.ensures.quiet other ∙ c.in-Ok.ensures.quiet (λ is. cc)

pub returns-in-Ok-clause-later : goal.returns-in-Ok-clause-later
returns-in-Ok-clause-later g c = omega (arith, c.count_records.ensures.later, c.tell_opened.ensures.later)
