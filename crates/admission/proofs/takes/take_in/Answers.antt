use Rattle.std.proofs.Common.{ℕ, map, refl, sym, ap, subst, ◌∙◌, arith}
use Rattle.std.specs.Prelude.{Ok, Err, IsSome}
use Rattle.nuc_base.specs.Faults.{Rose}
use Rattle.disk_model.specs.Listing.{artifacts, IsBelow}
use Rattle.records.specs.Stored.{draft_view, item_view, plan_view, Accepted}
use Rattle.device.specs.Devices.{Device, IsRegularDevice, device_view}
use Rattle.device.specs.Lawful.{Allowed}
use Rattle.device.specs.Sound.{IsSound}
use Rattle.library_core.specs.Library.{Content}
use Rattle.library_core.proofs.Telling.{stays_still}
use Rattle.artifact_store.specs.Holding.{HoldsItems}
use Rattle.artifact_store.specs.Staged.{IsStaged}
use Rattle.artifact_store.proofs.Walking.{start_spares, wider_spares}
use Rattle.artifact_store.proofs.Sparing.{still_safe}
use Rattle.deploy_state.specs.States.{idle_device}
use Rattle.admission.specs.Takes.{TakesIn}
use Rattle.admission.proofs.Staying.{hand_stays}
use Rattle.admission.proofs.Taking.{refused, unstaged, unstaged_passes, taken, none_pending, refused_disk, refused_library, library_refused, unstaged_disk}
use Rattle.admission.proofs.Taking.{disk_unstaged, unstaged_library, library_unstaged}
use Rattle.admission.proofs.takes.take_in.Goals as goal

-- ---- what the checks ask of the device

pub draft_for-requires-clause-origin : goal.draft_for-requires-clause-origin
draft_for-requires-clause-origin g c = subst (λ (d : Device). IsSome d.origin) (sym c.device-device.ensures) c.requires.held.0.origin

pub draft_for-requires-clause-idle : goal.draft_for-requires-clause-idle
draft_for-requires-clause-idle g c = none_pending c.device-device.result.now.pending
    (ap (λ (d : Device). d.pending) c.device-device.ensures ∙ c.requires.held.1)

pub draft_for-requires-clause-sound : goal.draft_for-requires-clause-sound
draft_for-requires-clause-sound g c = subst IsSound (sym c.device-device.ensures) c.requires.held.0.sound

pub draft_for-requires-clause-regular : goal.draft_for-requires-clause-regular
draft_for-requires-clause-regular g c = subst IsRegularDevice (sym c.device-device.ensures) c.requires.held.0.regular

-- ---- a check failed

pub returns-in_err-draft-clause-takes : goal.returns-in_err-draft-clause-takes
returns-in_err-draft-clause-takes g c = λ o is.
    let content = g.L.Library.content c.draft_for.new.library in
    let before = g.L.Library.faults c.args.library.now in
    let after = g.L.Library.faults c.draft_for.new.library in
    subst (λ (d : Device). TakesIn d o content before after c.args.document.now c.from_residual.result) c.device-device.ensures
    (refused (device_view c.device-device.result.now) o content before after after c.args.document.now c.in_err-draft.field-0.0 c.from_residual.result
    c.from_residual.ensures.1
    (c.in_err-draft.ensures.proposes o (ap (λ (d : Device). d.origin) c.device-device.ensures ∙ is)))

pub returns-in_err-draft-clause-moments : goal.returns-in_err-draft-clause-moments
returns-in_err-draft-clause-moments g c = start_spares g.met.D.Disk.laws (IsBelow artifacts) c.args.disk.now

pub returns-in_err-draft-clause-safe : goal.returns-in_err-draft-clause-safe
returns-in_err-draft-clause-safe g c = λ holds. still_safe g.met.D.Disk.laws (idle_device c.args.idle.now) c.args.disk.now holds

pub returns-in_err-draft-clause-disk_cause : goal.returns-in_err-draft-clause-disk_cause
returns-in_err-draft-clause-disk_cause g c = λ failed. absurd (refused_disk c.from_residual.result c.in_err-draft.field-0.0 c.from_residual.ensures.1 failed)

pub returns-in_err-draft-clause-library_cause : goal.returns-in_err-draft-clause-library_cause
returns-in_err-draft-clause-library_cause g c = λ failed. c.in_err-draft.ensures.cause
    (ap Err (refused_library c.from_residual.result c.in_err-draft.field-0.0 c.from_residual.ensures.1 failed))

pub returns-in_err-draft-clause-library_quiet : goal.returns-in_err-draft-clause-library_quiet
returns-in_err-draft-clause-library_quiet g c = λ other. c.in_err-draft.ensures.quiet
    (λ is. other (library_refused c.from_residual.result c.in_err-draft.field-0.0 c.from_residual.ensures.1 (cc is)))

-- ---- what taking in the files asks of the draft

pub stage-requires-clause-named : goal.stage-requires-clause-named
stage-requires-clause-named g c = c.in_ok-draft.ensures.stages.named

pub stage-requires-clause-drafted : goal.stage-requires-clause-drafted
stage-requires-clause-drafted g c = c.in_ok-draft.ensures.stages.drafted

pub stage-requires-clause-rise : goal.stage-requires-clause-rise
stage-requires-clause-rise g c = c.in_ok-draft.ensures.stages.rise

pub stage-requires-clause-differ : goal.stage-requires-clause-differ
stage-requires-clause-differ g c = c.in_ok-draft.ensures.stages.differ

pub stage-requires-clause-keeps : goal.stage-requires-clause-keeps
stage-requires-clause-keeps g c = c.in_ok-draft.ensures.stages.keeps

-- ---- a file was not taken in

pub returns-in_err-plan-clause-takes : goal.returns-in_err-plan-clause-takes
returns-in_err-plan-clause-takes g c = λ o is.
    let content = g.L.Library.content c.draft_for.new.library in
    let before = g.L.Library.faults c.args.library.now in
    let mid = g.L.Library.faults c.draft_for.new.library in
    let after = g.L.Library.faults c.stage.new.library in
    subst (λ (x : Content). TakesIn (idle_device c.args.idle.now) o x before after c.args.document.now c.from_residual-in_err-plan.result)
    (sym c.stage.ensures.kept.0)
    (subst (λ (d : Device). TakesIn d o content before after c.args.document.now c.from_residual-in_err-plan.result) c.device-device.ensures
    (unstaged (device_view c.device-device.result.now) o content before mid after c.args.document.now c.in_ok-draft.draft
    (map item_view c.device-device.result.now.set) c.in_err-plan.field-0.0
    c.from_residual-in_err-plan.result c.from_residual-in_err-plan.ensures.1 refl
    (c.in_ok-draft.ensures.proposes o (ap (λ (d : Device). d.origin) c.device-device.ensures ∙ is))
    (λ l told. c.in_err-plan.ensures.staged l told)))

pub returns-in_err-plan-clause-moments : goal.returns-in_err-plan-clause-moments
returns-in_err-plan-clause-moments g c =
    wider_spares g.met.D.Disk.laws (IsStaged (map item_view c.device-device.result.now.set) (draft_view c.in_ok-draft.draft)) (IsBelow artifacts)
    c.args.disk.now c.stage.new.disk
    (λ name is. (c.needed_files_stay.ensures.below (map item_view c.device-device.result.now.set) (draft_view c.in_ok-draft.draft)
    (map item_view c.device-device.result.now.set) name).0 is) c.stage.ensures.moments

pub returns-in_err-plan-clause-held : goal.returns-in_err-plan-clause-held
returns-in_err-plan-clause-held g c = (
  hand_stays g.met.D.Disk.laws g.met.J.Journal.laws c.requires.apart c.args.idle.now.log (idle_device c.args.idle.now) c.args.disk.now c.stage.new.disk
      (wider_spares g.met.D.Disk.laws (IsStaged (map item_view c.device-device.result.now.set) (draft_view c.in_ok-draft.draft)) (IsBelow artifacts)
      c.args.disk.now c.stage.new.disk
      (λ name is. (c.needed_files_stay.ensures.below (map item_view c.device-device.result.now.set) (draft_view c.in_ok-draft.draft)
      (map item_view c.device-device.result.now.set) name).0 is) c.stage.ensures.moments)
      c.requires.held.0,
  c.requires.held.1,
)

pub returns-in_err-plan-clause-others : goal.returns-in_err-plan-clause-others
returns-in_err-plan-clause-others g c = λ told name spared.
    c.stage.ensures.others told name (λ is. spared ((c.needed_files_stay.ensures.below (map item_view c.device-device.result.now.set)
    (draft_view c.in_ok-draft.draft) (map item_view c.device-device.result.now.set) name).0 is))

pub returns-in_err-plan-clause-untouched : goal.returns-in_err-plan-clause-untouched
returns-in_err-plan-clause-untouched g c = λ is. absurd (unstaged_passes c.from_residual-in_err-plan.result c.in_err-plan.field-0.0
    c.from_residual-in_err-plan.ensures.1 is)

pub returns-in_err-plan-clause-safe : goal.returns-in_err-plan-clause-safe
returns-in_err-plan-clause-safe g c = λ holds.
    c.stage.ensures.safe (idle_device c.args.idle.now) (sym (ap (λ (d : Device). d.set) c.device-device.ensures)) c.requires.held.1 holds

pub returns-in_err-plan-clause-kept : goal.returns-in_err-plan-clause-kept
returns-in_err-plan-clause-kept g c = stays_still c.draft_for.ensures.kept c.stage.ensures.kept.0 c.stage.ensures.kept.1

pub returns-in_err-plan-clause-disk_cause : goal.returns-in_err-plan-clause-disk_cause
returns-in_err-plan-clause-disk_cause g c = λ failed.
    c.in_err-plan.ensures.counts.disk_cause (ap Err (unstaged_disk c.from_residual-in_err-plan.result c.in_err-plan.field-0.0
    c.from_residual-in_err-plan.ensures.1 failed))

pub returns-in_err-plan-clause-disk_quiet : goal.returns-in_err-plan-clause-disk_quiet
returns-in_err-plan-clause-disk_quiet g c = λ other.
    c.in_err-plan.ensures.counts.disk_quiet (λ is. other (disk_unstaged c.from_residual-in_err-plan.result c.in_err-plan.field-0.0
    c.from_residual-in_err-plan.ensures.1 (cc is)))

pub returns-in_err-plan-clause-disk_later : goal.returns-in_err-plan-clause-disk_later
returns-in_err-plan-clause-disk_later g c = c.in_err-plan.ensures.counts.disk_later

pub returns-in_err-plan-clause-library_cause : goal.returns-in_err-plan-clause-library_cause
returns-in_err-plan-clause-library_cause g c = λ failed.
    subst (λ (n : ℕ). Rose n (g.L.Library.faults c.stage.new.library)) (c.in_ok-draft.ensures.quiet (λ is. cc is))
    (c.in_err-plan.ensures.counts.library_cause (ap Err (unstaged_library c.from_residual-in_err-plan.result c.in_err-plan.field-0.0
    c.from_residual-in_err-plan.ensures.1 failed)))

pub returns-in_err-plan-clause-library_quiet : goal.returns-in_err-plan-clause-library_quiet
returns-in_err-plan-clause-library_quiet g c = λ other.
    c.in_err-plan.ensures.counts.library_quiet (λ is. other (library_unstaged c.from_residual-in_err-plan.result c.in_err-plan.field-0.0
    c.from_residual-in_err-plan.ensures.1 (cc is)))
    ∙ c.in_ok-draft.ensures.quiet (λ is. cc is)

pub returns-in_err-plan-clause-library_later : goal.returns-in_err-plan-clause-library_later
returns-in_err-plan-clause-library_later g c =
    let first = c.draft_for.ensures.later in
    let second = c.in_err-plan.ensures.counts.library_later in
    omega (arith, first, second)

-- ---- the plan and its files are there

pub returns-clause-takes : goal.returns-clause-takes
returns-clause-takes g c = λ o is.
    let content = g.L.Library.content c.draft_for.new.library in
    let before = g.L.Library.faults c.args.library.now in
    let mid = g.L.Library.faults c.draft_for.new.library in
    let after = g.L.Library.faults c.stage.new.library in
    subst (λ (x : Content). TakesIn (idle_device c.args.idle.now) o x before after c.args.document.now (Ok c.in_ok-plan.plan)) (sym c.stage.ensures.kept.0)
    (subst (λ (d : Device). TakesIn d o content before after c.args.document.now (Ok c.in_ok-plan.plan)) c.device-device.ensures
    (taken (device_view c.device-device.result.now) o content before mid after c.args.document.now c.in_ok-draft.draft
    (map item_view c.device-device.result.now.set) c.in_ok-plan.plan refl
    (c.in_ok-draft.ensures.proposes o (ap (λ (d : Device). d.origin) c.device-device.ensures ∙ is))
    (record { fills = c.in_ok-plan.ensures.fills; told = λ l told. c.in_ok-plan.ensures.staged l told })))

pub returns-clause-lawful : goal.returns-clause-lawful
returns-clause-lawful g c = subst (λ (d : Device). Allowed d (Accepted (plan_view c.in_ok-plan.plan))) c.device-device.ensures
    (c.in_ok-draft.ensures.takes (plan_view c.in_ok-plan.plan) c.in_ok-plan.ensures.fills).allowed

pub returns-clause-regular : goal.returns-clause-regular
returns-clause-regular g c = (c.in_ok-draft.ensures.takes (plan_view c.in_ok-plan.plan) c.in_ok-plan.ensures.fills).regular

pub returns-clause-moments : goal.returns-clause-moments
returns-clause-moments g c =
    wider_spares g.met.D.Disk.laws (IsStaged (map item_view c.device-device.result.now.set) (draft_view c.in_ok-draft.draft)) (IsBelow artifacts)
    c.args.disk.now c.stage.new.disk
    (λ name is. (c.needed_files_stay.ensures.below (map item_view c.device-device.result.now.set) (draft_view c.in_ok-draft.draft)
    (map item_view c.device-device.result.now.set) name).0 is) c.stage.ensures.moments

pub returns-clause-held : goal.returns-clause-held
returns-clause-held g c = (
  hand_stays g.met.D.Disk.laws g.met.J.Journal.laws c.requires.apart c.args.idle.now.log (idle_device c.args.idle.now) c.args.disk.now c.stage.new.disk
      (wider_spares g.met.D.Disk.laws (IsStaged (map item_view c.device-device.result.now.set) (draft_view c.in_ok-draft.draft)) (IsBelow artifacts)
      c.args.disk.now c.stage.new.disk
      (λ name is. (c.needed_files_stay.ensures.below (map item_view c.device-device.result.now.set) (draft_view c.in_ok-draft.draft)
      (map item_view c.device-device.result.now.set) name).0 is) c.stage.ensures.moments)
      c.requires.held.0,
  c.requires.held.1,
)

pub returns-clause-others : goal.returns-clause-others
returns-clause-others g c = λ told name spared.
    c.stage.ensures.others told name (λ is. spared ((c.needed_files_stay.ensures.below (map item_view c.device-device.result.now.set)
    (draft_view c.in_ok-draft.draft) (map item_view c.device-device.result.now.set) name).0 is))

pub returns-clause-safe : goal.returns-clause-safe
returns-clause-safe g c = λ holds.
    c.stage.ensures.safe (idle_device c.args.idle.now) (sym (ap (λ (d : Device). d.set) c.device-device.ensures)) c.requires.held.1 holds

pub returns-clause-files : goal.returns-clause-files
returns-clause-files g c = λ holds.
    c.in_ok-plan.ensures.held (λ image left. subst (HoldsItems image) (sym (ap (λ (d : Device). d.set) c.device-device.ensures)) (holds image left).set)

pub returns-clause-kept : goal.returns-clause-kept
returns-clause-kept g c = stays_still c.draft_for.ensures.kept c.stage.ensures.kept.0 c.stage.ensures.kept.1

pub returns-clause-disk_quiet : goal.returns-clause-disk_quiet
returns-clause-disk_quiet g c = λ other. c.in_ok-plan.ensures.counts.disk_quiet (λ is. cc is)

pub returns-clause-disk_later : goal.returns-clause-disk_later
returns-clause-disk_later g c = c.in_ok-plan.ensures.counts.disk_later

pub returns-clause-library_quiet : goal.returns-clause-library_quiet
returns-clause-library_quiet g c = λ other. c.in_ok-plan.ensures.counts.library_quiet (λ is. cc is) ∙ c.in_ok-draft.ensures.quiet (λ is. cc is)

pub returns-clause-library_later : goal.returns-clause-library_later
returns-clause-library_later g c =
    let first = c.draft_for.ensures.later in
    let second = c.in_ok-plan.ensures.counts.library_later in
    omega (arith, first, second)
