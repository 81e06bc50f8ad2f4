use Rattle.std.proofs.Common.{◌≡◌, ◌∙◌, inl, inr, ap, arith, subst, sym}
use Rattle.std.specs.Prelude.{Err}
use Rattle.nuc_base.specs.Faults.{Rose}
use Rattle.disk_model.specs.Disk.{Image}
use Rattle.checkpoint_log.specs.Laws.{slots_laws}
use Rattle.checkpoint_log.specs.Slots.{slots_stands}
use Rattle.checkpoint_log.specs.declared.slots.Slots.{Slots}
use Rattle.deploy_state.specs.States.{OwnsLoaded, idle_device, loaded_device}
use Rattle.deploy_state.specs.declared.state.Idle.{Idle}
use Rattle.deploy_state.specs.declared.state.Loaded.{Loaded}
use Rattle.deploy_state.specs.declared.state.Loaded.TheVariants as loaded
use Rattle.nucleus_top.specs.Answers.{Store, store_of}
use Rattle.nucleus_top.specs.Drives.{StartsFrom, slots_start}
use Rattle.nucleus_top.specs.Opening.{HasEntry, IsImageOf}
use Rattle.nucleus_top.proofs.Crashes.{opened_same, opened_says, same_left}
use Rattle.nucleus_top.proofs.Driven.{disk_of, kept_ok, loaded_stays, refused_withholds, same_spared, slots_elsewhere, start_spared, starts_from, then_spared}
use Rattle.nucleus_top.proofs.Driven.{unswept_withholds}
use Rattle.nucleus_top.proofs.Faults.{other_fault, refuses}
use Rattle.nucleus_top.proofs.Whole.{opened_whole, same_kept}
use Rattle.nucleus_top.proofs.driving.open_swept.Goals as goal

pub returns-in-Ok-clause-opened : goal.returns-in-Ok-clause-opened
returns-in-Ok-clause-opened g c = λ told.
    kept_ok (λ (s : Loaded Slots). HasEntry (g.D.Disk.seen c.args.disk.now) × IsImageOf (g.D.Disk.seen c.args.disk.now) (loaded_device s)) c.in-Ok.state
    c.swept.result c.swept.ensures.kept (c.in-Ok.ensures.told told)

pub returns-in-Ok-clause-start : goal.returns-in-Ok-clause-start
returns-in-Ok-clause-start g c = λ told.
    kept_ok (λ (s : Loaded Slots). (idle : Idle Slots) → s ≡ loaded.Idle idle → StartsFrom (g.D.Disk.seen c.args.disk.now) (idle_device idle)
    (slots_start idle.log (idle_device idle))) c.in-Ok.state c.swept.result c.swept.ensures.kept
    (λ idle is. subst (λ (image : Image). StartsFrom image (idle_device idle) (slots_start idle.log (idle_device idle))) c.open.ensures.seen
    (starts_from idle c.open.new.disk (g.D.Disk.seen c.open.new.disk)
    (subst (λ (s : Loaded Slots). OwnsLoaded g.D.Disk.is_modelled g.D.Disk.may_leave slots_stands (λ (log : Slots). log.live.end) s c.open.new.disk) is
    c.in-Ok.ensures.held)
    (g.met.D.Disk.laws.reads c.open.new.disk told)
    (subst HasEntry (sym c.open.ensures.seen) (c.in-Ok.ensures.told told).0)))

pub returns-in-Ok-clause-held : goal.returns-in-Ok-clause-held
returns-in-Ok-clause-held g c =
    kept_ok (λ (s : Loaded Slots). OwnsLoaded g.D.Disk.is_modelled g.D.Disk.may_leave slots_stands (λ (log : Slots). log.live.end) s c.swept.new.disk)
    c.in-Ok.state c.swept.result c.swept.ensures.kept
    (loaded_stays g.met.D.Disk.laws slots_laws (slots_elsewhere c.needed_files_stay.ensures.journals) c.in-Ok.state c.open.new.disk c.swept.new.disk
    c.swept.ensures.spared c.in-Ok.ensures.held)

pub returns-in-Ok-clause-images : goal.returns-in-Ok-clause-images
returns-in-Ok-clause-images g c =
    opened_same g.met.D.Disk.laws (slots_elsewhere c.needed_files_stay.ensures.journals) c.args.disk.now c.open.new.disk c.swept.new.disk c.in-Ok.state
    c.open.ensures.moments (λ told. (c.in-Ok.ensures.told told).1) c.in-Ok.ensures.held c.swept.ensures.spared

pub returns-in-Ok-clause-whole : goal.returns-in-Ok-clause-whole
returns-in-Ok-clause-whole g c =
    opened_whole g.met.D.Disk.laws (slots_elsewhere c.needed_files_stay.ensures.journals) c.args.disk.now c.open.new.disk c.swept.new.disk c.in-Ok.state
    c.open.ensures.moments (λ told. (c.in-Ok.ensures.told told).1) c.in-Ok.ensures.held c.swept.ensures.spared c.swept.ensures.safe

pub returns-in-Ok-clause-ends : goal.returns-in-Ok-clause-ends
returns-in-Ok-clause-ends g c = λ other.
    opened_says g.met.D.Disk.laws (slots_elsewhere c.needed_files_stay.ensures.journals) c.args.disk.now c.open.new.disk c.swept.new.disk
    c.open.ensures.seen (c.in-Ok.ensures.settled (λ is. cc)) c.swept.ensures.spared

pub returns-in-Ok-clause-reads : goal.returns-in-Ok-clause-reads
returns-in-Ok-clause-reads g c =
    inl (opened_says g.met.D.Disk.laws (slots_elsewhere c.needed_files_stay.ensures.journals) c.args.disk.now c.open.new.disk c.swept.new.disk
    c.open.ensures.seen (c.in-Ok.ensures.settled (λ is. cc)) c.swept.ensures.spared)

pub returns-in-Ok-clause-spared : goal.returns-in-Ok-clause-spared
returns-in-Ok-clause-spared g c =
    then_spared g.met.D.Disk.laws c.args.disk.now c.open.new.disk c.swept.new.disk
    (same_spared g.met.D.Disk.laws c.args.disk.now c.open.new.disk c.open.ensures.moments) c.swept.ensures.spared

pub returns-in-Ok-clause-others : goal.returns-in-Ok-clause-others
returns-in-Ok-clause-others g c = λ told name apart outside. c.swept.ensures.others told name apart outside ∙ ap (λ (i : Image). i name) c.open.ensures.seen

pub returns-in-Ok-clause-clean : goal.returns-in-Ok-clause-clean
returns-in-Ok-clause-clean g c = c.swept.ensures.clean

pub returns-in-Ok-clause-disk : goal.returns-in-Ok-clause-disk
returns-in-Ok-clause-disk g c = λ is.
    let rose : Rose (g.D.Disk.faults c.args.disk.now) (g.D.Disk.faults c.swept.new.disk) = omega (arith, c.swept.ensures.disk is, c.open.ensures.later) in rose

pub returns-in-Ok-clause-quiet : goal.returns-in-Ok-clause-quiet
returns-in-Ok-clause-quiet g c = λ other. c.swept.ensures.quiet other ∙ c.in-Ok.ensures.quiet (λ is. cc)

pub returns-in-Err-clause-images : goal.returns-in-Err-clause-images
returns-in-Err-clause-images g c = same_left g.met.D.Disk.laws c.args.disk.now c.open.new.disk c.open.ensures.moments

pub returns-in-Err-clause-whole : goal.returns-in-Err-clause-whole
returns-in-Err-clause-whole g c = same_kept g.met.D.Disk.laws c.args.disk.now c.open.new.disk c.open.ensures.moments

pub returns-in-Err-clause-ends : goal.returns-in-Err-clause-ends
returns-in-Err-clause-ends g c = λ other.
    opened_says g.met.D.Disk.laws (slots_elsewhere c.needed_files_stay.ensures.journals) c.args.disk.now c.open.new.disk c.open.new.disk
    c.open.ensures.seen (c.in-Err.ensures.settled (λ is. other_fault c.in-Err.fault c.refused.result c.refused.ensures (λ same. other (ap Err same)) (cc)))
    (start_spared g.met.D.Disk.laws c.open.new.disk)

pub returns-in-Err-clause-reads : goal.returns-in-Err-clause-reads
returns-in-Err-clause-reads g c = inr c.open.ensures.seen

pub returns-in-Err-clause-spared : goal.returns-in-Err-clause-spared
returns-in-Err-clause-spared g c = same_spared g.met.D.Disk.laws c.args.disk.now c.open.new.disk c.open.ensures.moments

pub returns-in-Err-clause-others : goal.returns-in-Err-clause-others
returns-in-Err-clause-others g c = λ told name apart outside. ap (λ (i : Image). i name) c.open.ensures.seen

pub returns-in-Err-clause-disk : goal.returns-in-Err-clause-disk
returns-in-Err-clause-disk g c = λ is. c.in-Err.ensures.cause (ap Err (disk_of c.in-Err.fault c.refused.result c.refused.ensures (cc)))

pub returns-in-Err-clause-quiet : goal.returns-in-Err-clause-quiet
returns-in-Err-clause-quiet g c = λ other. c.in-Err.ensures.quiet
    (λ is. other_fault c.in-Err.fault c.refused.result c.refused.ensures (λ same. other (ap Err same)) (cc))

pub returns-in-Ok-clause-answers : goal.returns-in-Ok-clause-answers
returns-in-Ok-clause-answers g c =
    let store : Store = store_of g.D.Disk.is_modelled g.D.Disk.seen g.D.Disk.faults c.args.disk.now c.swept.new.disk in
    unswept_withholds store (loaded_device c.in-Ok.state) c.in-Ok.ensures.told c.swept.result c.swept.ensures.answers
    (λ is. let rose : Rose (g.D.Disk.faults c.args.disk.now) (g.D.Disk.faults c.swept.new.disk) = omega (arith, c.swept.ensures.disk is, c.open.ensures.later)
    in rose)

pub returns-in-Err-clause-answers : goal.returns-in-Err-clause-answers
returns-in-Err-clause-answers g c =
    let store : Store = store_of g.D.Disk.is_modelled g.D.Disk.seen g.D.Disk.faults c.args.disk.now c.open.new.disk in
    refused_withholds store c.refused.result
    (refuses store c.in-Err.fault c.refused.result c.refused.ensures c.open.ensures.seen c.in-Err.ensures.told (λ is. c.in-Err.ensures.cause (ap Err is)))
