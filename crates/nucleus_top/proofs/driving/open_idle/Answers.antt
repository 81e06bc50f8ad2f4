use Rattle.std.proofs.Common.{◌≡◌, ap}
use Rattle.std.specs.Prelude.{Err}
use Rattle.artifact_store.specs.Swept.{IsSwept, items_of}
use Rattle.checkpoint_log.specs.Slots.{slots_stands}
use Rattle.checkpoint_log.specs.declared.slots.Slots.{Slots}
use Rattle.deploy_state.specs.States.{OwnsLoaded, idle_device, loaded_device}
use Rattle.deploy_state.specs.declared.state.Idle.{Idle}
use Rattle.deploy_state.specs.declared.state.Loaded.{Loaded}
use Rattle.deploy_state.specs.declared.state.Loaded.TheVariants as loaded
use Rattle.nucleus_top.specs.Answers.{Store, store_of}
use Rattle.nucleus_top.specs.Drives.{StartsFrom, slots_start}
use Rattle.nucleus_top.specs.Opening.{HasEntry, IsImageOf}
use Rattle.nucleus_top.specs.declared.answer.Answer.TheVariants.{DiskFailed}
use Rattle.nucleus_top.proofs.Driven.{idle_ok, ok_by, pending_no_disk, pending_withholds, withholds_idle}
use Rattle.nucleus_top.proofs.driving.open_idle.Goals as goal

pub returns-in-Ok-clause-opened : goal.returns-in-Ok-clause-opened
returns-in-Ok-clause-opened g c = λ told.
    idle_ok (λ (s : Loaded Slots). HasEntry (g.D.Disk.seen c.args.disk.now) × IsImageOf (g.D.Disk.seen c.args.disk.now) (loaded_device s))
    (λ (s : Idle Slots). loaded.Idle s) c.in-Ok.state c.idle_of.result c.idle_of.ensures.idle (c.in-Ok.ensures.opened told)

pub returns-in-Ok-clause-start : goal.returns-in-Ok-clause-start
returns-in-Ok-clause-start g c = λ told.
    ok_by (λ (s : Idle Slots). c.in-Ok.state ≡ loaded.Idle s) (λ (s : Idle Slots). StartsFrom (g.D.Disk.seen c.args.disk.now) (idle_device s)
    (slots_start s.log (idle_device s))) c.idle_of.result
    c.idle_of.ensures.idle (λ s is. c.in-Ok.ensures.start told s is)

pub returns-in-Ok-clause-held : goal.returns-in-Ok-clause-held
returns-in-Ok-clause-held g c =
    idle_ok (λ (s : Loaded Slots). OwnsLoaded g.D.Disk.is_modelled g.D.Disk.may_leave slots_stands (λ (log : Slots). log.live.end) s c.open_swept.new.disk)
    (λ (s : Idle Slots). loaded.Idle s) c.in-Ok.state c.idle_of.result
    c.idle_of.ensures.idle c.in-Ok.ensures.held

pub returns-in-Ok-clause-images : goal.returns-in-Ok-clause-images
returns-in-Ok-clause-images g c = c.open_swept.ensures.images

pub returns-in-Ok-clause-whole : goal.returns-in-Ok-clause-whole
returns-in-Ok-clause-whole g c = c.open_swept.ensures.whole

pub returns-in-Ok-clause-ends : goal.returns-in-Ok-clause-ends
returns-in-Ok-clause-ends g c = λ other. c.in-Ok.ensures.ends (λ is. cc)

pub returns-in-Ok-clause-reads : goal.returns-in-Ok-clause-reads
returns-in-Ok-clause-reads g c = c.open_swept.ensures.reads

pub returns-in-Ok-clause-spared : goal.returns-in-Ok-clause-spared
returns-in-Ok-clause-spared g c = c.open_swept.ensures.spared

pub returns-in-Ok-clause-others : goal.returns-in-Ok-clause-others
returns-in-Ok-clause-others g c = c.open_swept.ensures.others

pub returns-in-Ok-clause-clean : goal.returns-in-Ok-clause-clean
returns-in-Ok-clause-clean g c = λ told.
    idle_ok (λ (s : Loaded Slots). IsSwept (items_of (loaded_device s)) (g.D.Disk.seen c.open_swept.new.disk)) (λ (s : Idle Slots). loaded.Idle s)
    c.in-Ok.state c.idle_of.result c.idle_of.ensures.idle (c.in-Ok.ensures.clean told)

pub returns-in-Ok-clause-disk : goal.returns-in-Ok-clause-disk
returns-in-Ok-clause-disk g c = λ is. absurd (pending_no_disk (loaded_device c.in-Ok.state) c.idle_of.result c.idle_of.ensures.answers is)

pub returns-in-Ok-clause-quiet : goal.returns-in-Ok-clause-quiet
returns-in-Ok-clause-quiet g c = λ other. c.in-Ok.ensures.quiet (λ is. cc)

pub returns-in-Ok-clause-answers : goal.returns-in-Ok-clause-answers
returns-in-Ok-clause-answers g c =
    let store : Store = store_of g.D.Disk.is_modelled g.D.Disk.seen g.D.Disk.faults c.args.disk.now c.open_swept.new.disk in
    pending_withholds store (loaded_device c.in-Ok.state) c.in-Ok.ensures.opened c.idle_of.result c.idle_of.ensures.answers
    c.in-Ok.ensures.clean

pub returns-in-Err-clause-images : goal.returns-in-Err-clause-images
returns-in-Err-clause-images g c = c.open_swept.ensures.images

pub returns-in-Err-clause-whole : goal.returns-in-Err-clause-whole
returns-in-Err-clause-whole g c = c.open_swept.ensures.whole

pub returns-in-Err-clause-ends : goal.returns-in-Err-clause-ends
returns-in-Err-clause-ends g c = λ other. c.in-Err.ensures.ends (λ is. other (ap Err (let same : c.in-Err.answer ≡ DiskFailed = cc in same)))

pub returns-in-Err-clause-reads : goal.returns-in-Err-clause-reads
returns-in-Err-clause-reads g c = c.open_swept.ensures.reads

pub returns-in-Err-clause-spared : goal.returns-in-Err-clause-spared
returns-in-Err-clause-spared g c = c.open_swept.ensures.spared

pub returns-in-Err-clause-others : goal.returns-in-Err-clause-others
returns-in-Err-clause-others g c = c.open_swept.ensures.others

pub returns-in-Err-clause-disk : goal.returns-in-Err-clause-disk
returns-in-Err-clause-disk g c = λ is. c.in-Err.ensures.disk (ap Err (let same : c.in-Err.answer ≡ DiskFailed = cc in same))

pub returns-in-Err-clause-quiet : goal.returns-in-Err-clause-quiet
returns-in-Err-clause-quiet g c = λ other. c.in-Err.ensures.quiet (λ is. other (ap Err (let same : c.in-Err.answer ≡ DiskFailed = cc in same)))

pub returns-in-Err-clause-answers : goal.returns-in-Err-clause-answers
returns-in-Err-clause-answers g c =
    withholds_idle (store_of g.D.Disk.is_modelled g.D.Disk.seen g.D.Disk.faults c.args.disk.now c.open_swept.new.disk) c.in-Err.answer c.in-Err.ensures.answers
