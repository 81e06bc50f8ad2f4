use Rattle.std.specs.Prelude.{Err}
use Rattle.std.proofs.Common.{ap, refl, subst}
use Rattle.disk_model.specs.Disk.{HasLeft}
use Rattle.disk_model.specs.Listing.{artifacts, IsBelow}
use Rattle.device.specs.Devices.{Device, device_view}
use Rattle.deploy_state.specs.States.{idle_device}
use Rattle.artifact_store.specs.Holding.{AllHoldDevice, HoldsDevice}
use Rattle.artifact_store.specs.Swept.{IsStray, items_of}
use Rattle.artifact_store.proofs.Sparing.{still_safe}
use Rattle.artifact_store.proofs.Walking.{start_spares, wider_spares}
use Rattle.session_serving.proofs.sweeping.sweep_owed.Goals as goal

-- ---- nothing is owed

pub returns-in-Nothing-clause-spared : goal.returns-in-Nothing-clause-spared
returns-in-Nothing-clause-spared g c = start_spares g.met.D.Disk.laws (IsBelow artifacts) c.args.disk.now

pub returns-in-Nothing-clause-safe : goal.returns-in-Nothing-clause-safe
returns-in-Nothing-clause-safe g c = still_safe g.met.D.Disk.laws (idle_device c.args.idle.now) c.args.disk.now

pub returns-in-Nothing-clause-others : goal.returns-in-Nothing-clause-others
returns-in-Nothing-clause-others g c = λ told name spared. refl

-- ---- they are swept

pub returns-in-Ok-clause-spared : goal.returns-in-Ok-clause-spared
returns-in-Ok-clause-spared g c = wider_spares g.met.D.Disk.laws (IsStray (items_of (device_view c.device.result.now))) (IsBelow artifacts) c.args.disk.now
    c.sweep.new.disk (λ name stray. stray.0) c.sweep.ensures.moments

pub returns-in-Ok-clause-safe : goal.returns-in-Ok-clause-safe
returns-in-Ok-clause-safe g c =
    subst (λ (d : Device). AllHoldDevice (g.D.Disk.may_leave c.args.disk.now) d → HasLeft g.D.Disk.moment g.D.Disk.left_since c.args.disk.now c.sweep.new.disk
    (λ i. HoldsDevice i d)) c.device.ensures c.sweep.ensures.safe

pub returns-in-Ok-clause-others : goal.returns-in-Ok-clause-others
returns-in-Ok-clause-others g c = λ told name spared. c.sweep.ensures.others told name (λ stray. spared stray.0)

-- ---- there was no memory

pub returns-in-Err-NoMemory-clause-spared : goal.returns-in-Err-NoMemory-clause-spared
returns-in-Err-NoMemory-clause-spared g c = wider_spares g.met.D.Disk.laws (IsStray (items_of (device_view c.device.result.now))) (IsBelow artifacts) c.args.disk.now
    c.sweep.new.disk (λ name stray. stray.0) c.sweep.ensures.moments

pub returns-in-Err-NoMemory-clause-safe : goal.returns-in-Err-NoMemory-clause-safe
returns-in-Err-NoMemory-clause-safe g c =
    subst (λ (d : Device). AllHoldDevice (g.D.Disk.may_leave c.args.disk.now) d → HasLeft g.D.Disk.moment g.D.Disk.left_since c.args.disk.now c.sweep.new.disk
    (λ i. HoldsDevice i d)) c.device.ensures c.sweep.ensures.safe

pub returns-in-Err-NoMemory-clause-others : goal.returns-in-Err-NoMemory-clause-others
returns-in-Err-NoMemory-clause-others g c = λ told name spared. c.sweep.ensures.others told name (λ stray. spared stray.0)

-- ---- the disk failed

pub returns-in-Err-Disk-clause-spared : goal.returns-in-Err-Disk-clause-spared
returns-in-Err-Disk-clause-spared g c = wider_spares g.met.D.Disk.laws (IsStray (items_of (device_view c.device.result.now))) (IsBelow artifacts) c.args.disk.now
    c.sweep.new.disk (λ name stray. stray.0) c.sweep.ensures.moments

pub returns-in-Err-Disk-clause-safe : goal.returns-in-Err-Disk-clause-safe
returns-in-Err-Disk-clause-safe g c =
    subst (λ (d : Device). AllHoldDevice (g.D.Disk.may_leave c.args.disk.now) d → HasLeft g.D.Disk.moment g.D.Disk.left_since c.args.disk.now c.sweep.new.disk
    (λ i. HoldsDevice i d)) c.device.ensures c.sweep.ensures.safe

pub returns-in-Err-Disk-clause-others : goal.returns-in-Err-Disk-clause-others
returns-in-Err-Disk-clause-others g c = λ told name spared. c.sweep.ensures.others told name (λ stray. spared stray.0)

pub returns-in-Err-Disk-clause-cause : goal.returns-in-Err-Disk-clause-cause
returns-in-Err-Disk-clause-cause g c = c.in-Err-Disk.ensures.cause (ap Err c.in-Err-Disk.field-0-is)
