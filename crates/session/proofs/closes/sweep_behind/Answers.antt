use Rattle.std.specs.Prelude.{Err}
use Rattle.std.proofs.Common.{◌∙◌, ap, inl, inr, refl, sym, subst}
use Rattle.disk_model.specs.Disk.{HasLeft}
use Rattle.disk_model.specs.Listing.{artifacts, IsBelow}
use Rattle.nuc_base.specs.declared.status.Status.TheVariants as statuses
use Rattle.device.specs.Devices.{Device, device_view}
use Rattle.artifact_store.specs.Holding.{AllHoldDevice, HoldsDevice}
use Rattle.artifact_store.specs.Swept.{IsStray, IsSwept, items_of}
use Rattle.artifact_store.proofs.Walking.{wider_spares}
use Rattle.session.specs.Endings.{ByClose, ByDiskFault, WantAfter}
use Rattle.session.proofs.Printing.{says_none}
use Rattle.session.proofs.Statuses.{no_outcome}
use Rattle.session.proofs.Sweeping.{no_close}
use Rattle.session.proofs.closes.sweep_behind.Goals as goal

-- ---- stray files are swept

pub returns-in-Ok-clause-spared : goal.returns-in-Ok-clause-spared
returns-in-Ok-clause-spared g c = wider_spares g.met.D.Disk.laws (IsStray (items_of (device_view c.device.result.now))) (IsBelow artifacts) c.args.disk.now
    c.sweep.new.disk (λ name stray. stray.0) c.sweep.ensures.moments

pub returns-in-Ok-clause-safe : goal.returns-in-Ok-clause-safe
returns-in-Ok-clause-safe g c =
    subst (λ (d : Device). AllHoldDevice (g.D.Disk.may_leave c.args.disk.now) d → HasLeft g.D.Disk.moment g.D.Disk.left_since c.args.disk.now c.sweep.new.disk
    (λ i. HoldsDevice i d)) c.device.ensures c.sweep.ensures.safe

pub returns-in-Ok-clause-others : goal.returns-in-Ok-clause-others
returns-in-Ok-clause-others g c = λ told name spared. c.sweep.ensures.others told name (λ stray. spared stray.0)

pub returns-in-Ok-clause-ends : goal.returns-in-Ok-clause-ends
returns-in-Ok-clause-ends g c = (
  ByClose c.args.outcome,
  (inl refl, λ fails. absurd cc),
  says_none (g.K.Sink.held c.args.sink.now) (g.K.Sink.held c.args.sink.now) c.outcome_status.result refl,
  inl c.outcome_status.ensures,
)

pub returns-in-Ok-clause-answers : goal.returns-in-Ok-clause-answers
returns-in-Ok-clause-answers g c = inl c.outcome_status.ensures

pub returns-in-Ok-clause-disk : goal.returns-in-Ok-clause-disk
returns-in-Ok-clause-disk g c = λ is. absurd (no_outcome c.args.outcome statuses.Disk refl (sym c.outcome_status.ensures ∙ is))

pub returns-in-Ok-clause-edge : goal.returns-in-Ok-clause-edge
returns-in-Ok-clause-edge g c = λ is. absurd (no_outcome c.args.outcome statuses.Edge refl (sym c.outcome_status.ensures ∙ is))

-- ---- the disk failed

pub returns-in-Err-Disk-clause-spared : goal.returns-in-Err-Disk-clause-spared
returns-in-Err-Disk-clause-spared g c = wider_spares g.met.D.Disk.laws (IsStray (items_of (device_view c.device.result.now))) (IsBelow artifacts)
    c.args.disk.now c.sweep.new.disk (λ name stray. stray.0) c.sweep.ensures.moments

pub returns-in-Err-Disk-clause-safe : goal.returns-in-Err-Disk-clause-safe
returns-in-Err-Disk-clause-safe g c =
    subst (λ (d : Device). AllHoldDevice (g.D.Disk.may_leave c.args.disk.now) d → HasLeft g.D.Disk.moment g.D.Disk.left_since c.args.disk.now c.sweep.new.disk
    (λ i. HoldsDevice i d)) c.device.ensures c.sweep.ensures.safe

pub returns-in-Err-Disk-clause-others : goal.returns-in-Err-Disk-clause-others
returns-in-Err-Disk-clause-others g c = λ told name spared. c.sweep.ensures.others told name (λ stray. spared stray.0)

pub returns-in-Err-Disk-clause-ends : goal.returns-in-Err-Disk-clause-ends
returns-in-Err-Disk-clause-ends g c = (
  ByDiskFault,
  (inr (inr refl), λ fails. c.in-Err-Disk.ensures.cause (ap Err c.in-Err-Disk.field-0-is)),
  c.say_disk.ensures.says,
  c.say_disk.ensures.answers,
)

-- ---- there was no memory

pub returns-in-Err-NoMemory-clause-spared : goal.returns-in-Err-NoMemory-clause-spared
returns-in-Err-NoMemory-clause-spared g c = wider_spares g.met.D.Disk.laws (IsStray (items_of (device_view c.device.result.now))) (IsBelow artifacts)
    c.args.disk.now c.sweep.new.disk (λ name stray. stray.0) c.sweep.ensures.moments

pub returns-in-Err-NoMemory-clause-safe : goal.returns-in-Err-NoMemory-clause-safe
returns-in-Err-NoMemory-clause-safe g c =
    subst (λ (d : Device). AllHoldDevice (g.D.Disk.may_leave c.args.disk.now) d → HasLeft g.D.Disk.moment g.D.Disk.left_since c.args.disk.now c.sweep.new.disk
    (λ i. HoldsDevice i d)) c.device.ensures c.sweep.ensures.safe

pub returns-in-Err-NoMemory-clause-others : goal.returns-in-Err-NoMemory-clause-others
returns-in-Err-NoMemory-clause-others g c = λ told name spared. c.sweep.ensures.others told name (λ stray. spared stray.0)

pub returns-in-Err-NoMemory-clause-ends : goal.returns-in-Err-NoMemory-clause-ends
returns-in-Err-NoMemory-clause-ends g c =
    (WantAfter, (inr (inl refl), λ fails. absurd cc), says_none (g.K.Sink.held c.args.sink.now) (g.K.Sink.held c.args.sink.now) statuses.Memory refl, inl refl)

-- ---- no stray file is left

pub returns-in-Ok-clause-swept : goal.returns-in-Ok-clause-swept
returns-in-Ok-clause-swept g c = λ told is. subst (λ (d : Device). IsSwept (items_of d) (g.D.Disk.seen c.sweep.new.disk)) c.device.ensures
    (c.in-Ok.ensures.swept told)

pub returns-in-Err-Disk-clause-swept : goal.returns-in-Err-Disk-clause-swept
returns-in-Err-Disk-clause-swept g c = λ told is. absurd (no_close c.args.outcome c.say_disk.result statuses.Disk refl c.say_disk.ensures.answers is)

pub returns-in-Err-NoMemory-clause-swept : goal.returns-in-Err-NoMemory-clause-swept
returns-in-Err-NoMemory-clause-swept g c = λ told is. absurd (no_outcome c.args.outcome statuses.Memory refl (sym is))
