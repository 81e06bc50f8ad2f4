use Rattle.std.proofs.Common.{subst}
use Rattle.device.specs.Devices.{Device}
use Rattle.nucleus_top.specs.Audits.{ComparisonAnswer}
use Rattle.nucleus_top.proofs.auditing.compare_stored.Goals as goal

pub returns-clause-comes : goal.returns-clause-comes
returns-clause-comes g c = subst (λ (d : Device). ComparisonAnswer g.D.Disk.is_modelled (g.D.Disk.seen c.args.disk.now) d c.compare.result) c.stored.ensures
    c.compare.ensures.comes

pub returns-clause-seen : goal.returns-clause-seen
returns-clause-seen g c = c.compare.ensures.seen

pub returns-clause-moments : goal.returns-clause-moments
returns-clause-moments g c = c.compare.ensures.moments

pub returns-clause-cause : goal.returns-clause-cause
returns-clause-cause g c = c.compare.ensures.cause

pub returns-clause-quiet : goal.returns-clause-quiet
returns-clause-quiet g c = c.compare.ensures.quiet

pub returns-clause-later : goal.returns-clause-later
returns-clause-later g c = c.compare.ensures.later
