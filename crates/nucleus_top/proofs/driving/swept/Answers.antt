use Rattle.std.proofs.Common.{ap, subst}
use Rattle.std.specs.Prelude.{Err}
use Rattle.disk_model.specs.Disk.{HasLeft}
use Rattle.disk_model.specs.Listing.{artifacts, IsBelow}
use Rattle.device.specs.Devices.{Device, device_view}
use Rattle.artifact_store.specs.Holding.{AllHoldDevice, HoldsDevice}
use Rattle.artifact_store.specs.Swept.{items_of, IsStray, IsSwept}
use Rattle.artifact_store.proofs.Walking.{wider_spares}
use Rattle.nucleus_top.proofs.Driven.{disk_swept, swept_disk, swept_unswept}
use Rattle.nucleus_top.proofs.driving.swept.Goals as goal

pub returns-in-Ok-clause-spared : goal.returns-in-Ok-clause-spared
returns-in-Ok-clause-spared g c =
    wider_spares g.met.D.Disk.laws (IsStray (items_of (device_view c.stored.result.now))) (IsBelow artifacts) c.args.disk.now c.sweep.new.disk
    (λ name is. is.0) c.sweep.ensures.moments

pub returns-in-Ok-clause-safe : goal.returns-in-Ok-clause-safe
returns-in-Ok-clause-safe g c =
    subst (λ (d : Device). AllHoldDevice (g.D.Disk.may_leave c.args.disk.now) d → HasLeft g.D.Disk.moment g.D.Disk.left_since c.args.disk.now c.sweep.new.disk
    (λ i. HoldsDevice i d)) c.stored.ensures c.sweep.ensures.safe

pub returns-in-Ok-clause-others : goal.returns-in-Ok-clause-others
returns-in-Ok-clause-others g c = λ told name apart outside. c.sweep.ensures.others told name (λ is. outside is.0)

pub returns-in-Ok-clause-clean : goal.returns-in-Ok-clause-clean
returns-in-Ok-clause-clean g c = λ told. subst (λ (d : Device). IsSwept (items_of d) (g.D.Disk.seen c.sweep.new.disk)) c.stored.ensures
    (c.in-Ok.ensures.swept told)

pub returns-in-Ok-clause-quiet : goal.returns-in-Ok-clause-quiet
returns-in-Ok-clause-quiet g c = λ other. c.in-Ok.ensures.quiet (λ is. cc)

pub returns-in-Err-clause-spared : goal.returns-in-Err-clause-spared
returns-in-Err-clause-spared g c =
    wider_spares g.met.D.Disk.laws (IsStray (items_of (device_view c.stored.result.now))) (IsBelow artifacts) c.args.disk.now c.sweep.new.disk
    (λ name is. is.0) c.sweep.ensures.moments

pub returns-in-Err-clause-safe : goal.returns-in-Err-clause-safe
returns-in-Err-clause-safe g c =
    subst (λ (d : Device). AllHoldDevice (g.D.Disk.may_leave c.args.disk.now) d → HasLeft g.D.Disk.moment g.D.Disk.left_since c.args.disk.now c.sweep.new.disk
    (λ i. HoldsDevice i d)) c.stored.ensures c.sweep.ensures.safe

pub returns-in-Err-clause-others : goal.returns-in-Err-clause-others
returns-in-Err-clause-others g c = λ told name apart outside. c.sweep.ensures.others told name (λ is. outside is.0)

pub returns-in-Err-clause-disk : goal.returns-in-Err-clause-disk
returns-in-Err-clause-disk g c = λ is. c.in-Err.ensures.cause (ap Err (swept_disk c.in-Err.fault c.unswept.result c.unswept.ensures (cc)))

pub returns-in-Err-clause-quiet : goal.returns-in-Err-clause-quiet
returns-in-Err-clause-quiet g c = λ other. c.in-Err.ensures.quiet (λ is. other (ap Err (disk_swept c.in-Err.fault c.unswept.result c.unswept.ensures (cc))))

pub returns-in-Err-clause-answers : goal.returns-in-Err-clause-answers
returns-in-Err-clause-answers g c = swept_unswept c.in-Err.fault c.unswept.result c.unswept.ensures
