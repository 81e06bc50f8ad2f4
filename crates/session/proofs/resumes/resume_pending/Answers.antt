use Rattle.std.specs.Prelude.{IsErrOf}
use Rattle.std.proofs.Common.{◌≡◌, ◌⊎◌, false, ℕ, List, [], inl, inr, refl, sym, ap, subst, ◌∙◌, arith}
use Rattle.std.specs.Io.KnownBytes.{Appends}
use Rattle.edges.specs.Pieces.{AppendsPrefix}
use Rattle.disk_model.specs.Listing.{artifacts, IsBelow}
use Rattle.nuc_base.specs.Faults.{Rose}
use Rattle.nuc_base.specs.declared.status.Status.TheVariants as statuses
use Rattle.device.specs.Devices.{Device, IsRegularDevice}
use Rattle.session_admission.specs.Readied.{AreReadiedFor}
use Rattle.device.specs.Sound.{IsSound}
use Rattle.artifact_store.proofs.Walking.{start_spares}
use Rattle.deploy_state.specs.States.{loaded_device}
use Rattle.step_runner.specs.Entries.{Listed}
use Rattle.histories.specs.TraceEvents.{records_of}
use Rattle.histories.specs.Courses.{IsEnd, is_restart}
use Rattle.law_termination.specs.Drives.{AreDriven}
use Rattle.session_boots.proofs.Acting.{acts_none}
use Rattle.session_boots.proofs.Between.{no_living}
use Rattle.session_boots.specs.declared.ends.SessionFault.TheVariants as over
use Rattle.session.specs.Parts.{status_of_ran}
use Rattle.session.proofs.Distinct.{differs, starves_fails}
use Rattle.session.proofs.Ending.{nothing_parted, parted, placed_at, still_files}
use Rattle.session.proofs.Returning.{back_driven, once_pending}
use Rattle.session.proofs.Faults.{rose_by, rose_on, stays_by, stays_later, stays_on}
use Rattle.session.proofs.Holding.{none_before}
use Rattle.session.proofs.States.{stage_shut, shut_ends}
use Rattle.session.specs.Endings.{BySinkFault, ByDiskFault, IsBegun, WantBefore, is_failing}
use Rattle.session.proofs.Printing.{opening_at, starved_prints, unopened_prints}
use Rattle.session.proofs.Results.{answers_disk, answers_edge, answers_own}
use Rattle.session.proofs.Resuming.{loaded_hand, loaded_stands, resumes_some, some_is}
use Rattle.session.proofs.Statuses.{done_no_edge, not_done, two_never}
use Rattle.session.proofs.Sweeping.{driven_sweeps, never_closes, none_closes}
use Rattle.session.proofs.resumes.resume_pending.Goals as goal

pub ready_again-requires-clause-sound : goal.ready_again-requires-clause-sound
ready_again-requires-clause-sound g c =
    subst IsSound (sym c.device.ensures) (loaded_hand g.D.Disk.is_modelled g.D.Disk.may_leave g.J.Journal.stands g.J.Journal.end c.args.state c.args.disk.now
    c.requires.held).1.sound

pub ready_again-requires-clause-regular : goal.ready_again-requires-clause-regular
ready_again-requires-clause-regular g c =
    subst IsRegularDevice (sym c.device.ensures) (loaded_hand g.D.Disk.is_modelled g.D.Disk.may_leave g.J.Journal.stands g.J.Journal.end c.args.state
    c.args.disk.now c.requires.held).1.regular

pub returns-in-Err-clause-call : goal.returns-in-Err-clause-call
returns-in-Err-clause-call g c = λ p at_stage taking.
    let d = loaded_device c.args.state in
    let stands = loaded_stands g.met.D.Disk.laws g.met.J.Journal.laws c.args.state c.args.disk.now c.requires.held p.device at_stage.between.stands.device_is in
    let told = Listed g.R.Runner.list g.R.Runner.told g.R.Runner.asked c.args.runner.now in
    let shut = stage_shut p d (g.S.Supervise.world c.args.supervisor.now) told (g.R.Runner.living c.args.runner.now) at_stage in
    let held = g.K.Sink.held c.args.sink.now in
    let call = nothing_parted g.J.Journal.entries g.J.Journal.files g.met.D.Disk.laws c.args.disk.now c.args.disk.now told.list told.list held held p
    statuses.Memory
    statuses.Memory refl (λ ending q. IsEnd q statuses.Memory (is_failing ending)) WantBefore []
    (start_spares g.met.D.Disk.laws (IsBelow artifacts) c.args.disk.now)
    stands (acts_none p told.list told.list refl) (tt, λ stopped. refl)
    (inl refl)
    (starved_prints _ held held p.device statuses.Memory stands refl)
    (tt, λ stopped. refl)
    (shut_ends p statuses.Memory false shut refl) in (
      call.0,
      resumes_some d call.0.ending c.requires.pending (inr call.1),
      (λ holds. still_files g.J.Journal.entries g.J.Journal.files g.met.D.Disk.laws c.args.disk.now p (records_of call.0.history) call.2 stands holds),
      (λ fails. absurd (differs call.0.ending WantBefore ByDiskFault call.1 starves_fails fails)),
    )

pub returns-in-Err-clause-none : goal.returns-in-Err-clause-none
returns-in-Err-clause-none g c = λ over.
    let q = c.requires.from_state in
    let told = Listed g.R.Runner.list g.R.Runner.told g.R.Runner.asked c.args.runner.now in
    no_living q.0 (loaded_device c.args.state) (g.S.Supervise.world c.args.supervisor.now) told (g.R.Runner.living c.args.runner.now) q.1

pub returns-in-Err-clause-later : goal.returns-in-Err-clause-later
returns-in-Err-clause-later g c = (
  stays_later (g.D.Disk.faults c.args.disk.now) (g.D.Disk.faults c.args.disk.now) (omega arith),
  stays_later (g.K.Sink.faults c.args.sink.now) (g.K.Sink.faults c.args.sink.now) (omega arith),
)

pub returns-in-Err-clause-swept : goal.returns-in-Err-clause-swept
returns-in-Err-clause-swept g c = λ clean. never_closes g.D.Disk.is_modelled g.J.Journal.entries statuses.Memory statuses.Memory
    (g.D.Disk.seen c.args.disk.now) refl (inl refl)

pub resume_ready-requires-clause-ready : goal.resume_ready-requires-clause-ready
resume_ready-requires-clause-ready g c = subst (λ (d : Device). AreReadiedFor d c.in-Ok.ready.boots c.in-Ok.ready.backs
    (g.S.Supervise.coming c.in-Ok.ready.items)
    (g.S.Supervise.coming c.in-Ok.ready.earlier)) c.device.ensures c.in-Ok.ensures
