use Rattle.std.specs.Prelude.{IsErrOf}
use Rattle.std.proofs.Common.{◌≡◌, ◌⊎◌, false, ℕ, List, [], inl, inr, refl, sym, ap, subst, ◌∙◌, arith}
use Rattle.std.specs.Io.KnownBytes.{Appends}
use Rattle.edges.specs.Pieces.{AppendsPrefix}
use Rattle.disk_model.specs.Listing.{artifacts, IsBelow}
use Rattle.nuc_base.specs.Faults.{Rose}
use Rattle.nuc_base.specs.declared.status.Status.TheVariants as statuses
use Rattle.device.specs.Devices.{IsRegularDevice}
use Rattle.device.specs.Sound.{IsSound}
use Rattle.artifact_store.proofs.Walking.{start_spares}
use Rattle.deploy_state.specs.States.{loaded_device}
use Rattle.step_runner.specs.Entries.{Listed}
use Rattle.histories.specs.TraceEvents.{records_of}
use Rattle.histories.specs.Courses.{IsEnd, gives_up, is_restart}
use Rattle.law_termination.specs.Drives.{AreDriven}
use Rattle.session_boots.proofs.Acting.{acts_none}
use Rattle.session_boots.proofs.Between.{no_living}
use Rattle.session_boots.specs.declared.ends.SessionFault.TheVariants as over
use Rattle.session.specs.Parts.{status_of_ran}
use Rattle.session.proofs.Distinct.{breaks_fails, differs}
use Rattle.session.proofs.Ending.{nothing_parted, parted, placed_at, still_files}
use Rattle.session.proofs.Returning.{back_driven, once_pending}
use Rattle.session.proofs.Faults.{rose_by, rose_on, stays_by, stays_later, stays_on}
use Rattle.session.proofs.Holding.{none_before}
use Rattle.session.proofs.States.{stage_shut, shut_ends}
use Rattle.session.specs.Endings.{BySinkFault, ByDiskFault, IsBegun, WantBefore, is_failing}
use Rattle.session.proofs.Printing.{opening_at, starved_prints, unopened_prints}
use Rattle.session.proofs.Results.{answers_disk, answers_edge, answers_own}
use Rattle.session.proofs.Resuming.{loaded_hand, loaded_stands, resumes_some, some_is}
use Rattle.session.proofs.Statuses.{done_no_edge, not_done, two_never}
use Rattle.session.proofs.Sweeping.{driven_sweeps, never_closes, none_closes}
use Rattle.session.proofs.resumes.resume_ready.Goals as goal

pub returns-in_default-clause-call : goal.returns-in_default-clause-call
returns-in_default-clause-call g c = λ p at_stage taking.
    let d = loaded_device c.args.state in
    let stands = loaded_stands g.met.D.Disk.laws g.met.J.Journal.laws c.args.state c.args.disk.now c.requires.held p.device at_stage.between.stands.device_is in
    let told = Listed g.R.Runner.list g.R.Runner.told g.R.Runner.asked c.args.runner.now in
    let opening = opening_at p.device d at_stage.between.stands.device_is c.requires.pending in
    let edge = not_done c.say_resumed.result c.say_resumed.ensures.answers c.in_default.not-Done in
    let shut = stage_shut p d (g.S.Supervise.world c.args.supervisor.now) told (g.R.Runner.living c.args.runner.now) at_stage in
    let held = g.K.Sink.held c.args.sink.now in
    let last = g.K.Sink.held c.say_resumed.new.sink in
    let call = nothing_parted g.J.Journal.entries g.J.Journal.files g.met.D.Disk.laws c.args.disk.now c.args.disk.now told.list told.list held last p
    c.say_resumed.result c.say_resumed.result refl (λ ending q. IsEnd q c.say_resumed.result (is_failing ending)) BySinkFault []
    (start_spares g.met.D.Disk.laws (IsBelow artifacts) c.args.disk.now)
    stands (acts_none p told.list told.list refl) (tt, λ stopped. refl)
    (inr edge)
    (unopened_prints _ held last p.device c.say_resumed.result stands
    (subst (λ (l : List ℕ). AppendsPrefix held last l) opening c.say_resumed.ensures.says.0) edge)
    tt
    (shut_ends p c.say_resumed.result false shut (ap is_restart edge)) in (
      call.0,
      resumes_some d call.0.ending c.requires.pending (inl (subst IsBegun (sym call.1) tt)),
      (λ holds. still_files g.J.Journal.entries g.J.Journal.files g.met.D.Disk.laws c.args.disk.now p (records_of call.0.history) call.2 stands holds),
      (λ fails. absurd (differs call.0.ending BySinkFault ByDiskFault call.1 breaks_fails fails)),
    )

pub returns-in_default-clause-own : goal.returns-in_default-clause-own
returns-in_default-clause-own g c = two_never c.say_resumed.result statuses.Done statuses.Edge statuses.Library c.say_resumed.ensures.answers
    (λ e. cc) (λ e. cc)

pub returns-in_default-clause-none : goal.returns-in_default-clause-none
returns-in_default-clause-none g c = λ over.
    let q = c.requires.from_state in
    let told = Listed g.R.Runner.list g.R.Runner.told g.R.Runner.asked c.args.runner.now in
    no_living q.0 (loaded_device c.args.state) (g.S.Supervise.world c.args.supervisor.now) told (g.R.Runner.living c.args.runner.now) q.1

pub returns-in_default-clause-disk : goal.returns-in_default-clause-disk
returns-in_default-clause-disk g c = λ is. absurd
    (two_never c.say_resumed.result statuses.Done statuses.Edge statuses.Disk c.say_resumed.ensures.answers (λ e. cc) (λ e. cc) is)

pub returns-in_default-clause-later : goal.returns-in_default-clause-later
returns-in_default-clause-later g c = (
  stays_later (g.D.Disk.faults c.args.disk.now) (g.D.Disk.faults c.args.disk.now) (omega arith),
  stays_later (g.K.Sink.faults c.args.sink.now) (g.K.Sink.faults c.say_resumed.new.sink) c.say_resumed.ensures.later,
)

pub returns-in_default-clause-swept : goal.returns-in_default-clause-swept
returns-in_default-clause-swept g c =
    none_closes g.met.D.Disk.laws g.met.J.Journal.laws c.args.disk.now (loaded_device c.args.state) c.say_resumed.result
    (loaded_stands g.met.D.Disk.laws g.met.J.Journal.laws c.args.state c.args.disk.now c.requires.held (loaded_device c.args.state) refl)

pub end_call-requires-clause-from_state : goal.end_call-requires-clause-from_state
end_call-requires-clause-from_state g c =
    let q = c.requires.from_state in
    let told = Listed g.R.Runner.list g.R.Runner.told g.R.Runner.asked c.args.runner.now in
    let last = Listed g.R.Runner.list g.R.Runner.told g.R.Runner.asked c.drive-driven.new.runner in
    placed_at g.met.D.Disk.laws g.met.J.Journal.laws c.requires.apart (g.S.Supervise.world c.drive-driven.new.supervisor) last
    (g.R.Runner.living c.drive-driven.new.runner) c.args.disk.now c.drive-driven.new.disk told.list last.list
    (g.K.Sink.held c.say_resumed.new.sink) (g.K.Sink.held c.drive-driven.new.sink) q.0 c.drive-driven.result (c.drive-driven.ensures.course q.0 q.1)

pub returns-in-Done-clause-call : goal.returns-in-Done-clause-call
returns-in-Done-clause-call g c = λ p at_stage taking.
    let d = loaded_device c.args.state in
    let told = Listed g.R.Runner.list g.R.Runner.told g.R.Runner.asked c.args.runner.now in
    let last = Listed g.R.Runner.list g.R.Runner.told g.R.Runner.asked c.drive-driven.new.runner in
    let end = Listed g.R.Runner.list g.R.Runner.told g.R.Runner.asked c.end_call.new.runner in
    let next = g.S.Supervise.world c.drive-driven.new.supervisor in
    let opening = opening_at p.device d at_stage.between.stands.device_is c.requires.pending in
    let held = g.K.Sink.held c.args.sink.now in
    let mid = g.K.Sink.held c.say_resumed.new.sink in
    let course = c.drive-driven.ensures.course p at_stage in
    let call = parted g.met.D.Disk.laws g.met.J.Journal.laws c.requires.apart next last
    (g.R.Runner.living c.drive-driven.new.runner)
    c.args.disk.now c.drive-driven.new.disk c.end_call.new.disk told.list last.list end.list
    held mid (g.K.Sink.held c.drive-driven.new.sink) (g.K.Sink.held c.end_call.new.sink) p c.drive-driven.result c.end_call.result
    next end (g.R.Runner.living c.end_call.new.runner)
    (λ e. e ≡ ByDiskFault → (IsErrOf c.drive-driven.result over.Disk) ⊎ Rose (g.D.Disk.faults c.drive-driven.new.disk) (g.D.Disk.faults c.end_call.new.disk))
    (subst (λ (l : List ℕ). Appends held mid l) opening (c.say_resumed.ensures.says.1 (done_no_edge c.say_resumed.result c.in-Done.is)))
    course
    at_stage.over c.drive-driven.ensures.held c.end_call.ensures.trace c.end_call.ensures.over c.end_call.ensures.still c.end_call.ensures.spared
    c.end_call.ensures.safe c.end_call.ensures.unswept c.end_call.ensures.ends c.end_call.ensures.silent c.end_call.ensures.answers in
    let once = once_pending p course.history taking (some_is p.device d at_stage.between.stands.device_is c.requires.pending) course.trace.proper in (
      call.0,
      resumes_some d call.0.ending c.requires.pending (inl call.1),
      (λ holds. call.3 (none_before (g.D.Disk.may_leave c.args.disk.now) p.device (records_of course.history) once holds)),
      (λ fails.
          rose_by c.drive-driven.result over.Disk (g.D.Disk.faults c.args.disk.now) (g.D.Disk.faults c.drive-driven.new.disk)
          (g.D.Disk.faults c.end_call.new.disk) c.drive-driven.ensures.disk c.drive-driven.ensures.quiet_disk c.end_call.ensures.later.0 (call.4 fails)),
    )

pub returns-in-Done-clause-drives : goal.returns-in-Done-clause-drives
returns-in-Done-clause-drives g c = λ back. back_driven (AreDriven (g.S.Supervise.world c.drive-driven.new.supervisor)) c.drive-driven.result
    c.end_call.result c.drive-driven.ensures.drives c.end_call.ensures.over back

pub returns-in-Done-clause-own : goal.returns-in-Done-clause-own
returns-in-Done-clause-own g c = answers_own (status_of_ran c.end_call.result) c.drive-driven.result c.end_call.ensures.answers

pub returns-in-Done-clause-others : goal.returns-in-Done-clause-others
returns-in-Done-clause-others g c = λ told name apart below. c.end_call.ensures.others told name below ∙ c.drive-driven.ensures.others told name apart

pub returns-in-Done-clause-disk : goal.returns-in-Done-clause-disk
returns-in-Done-clause-disk g c = λ is.
    rose_by c.drive-driven.result over.Disk (g.D.Disk.faults c.args.disk.now) (g.D.Disk.faults c.drive-driven.new.disk) (g.D.Disk.faults c.end_call.new.disk)
    c.drive-driven.ensures.disk c.drive-driven.ensures.quiet_disk c.end_call.ensures.later.0 (c.end_call.ensures.disk is)

pub returns-in-Done-clause-edge : goal.returns-in-Done-clause-edge
returns-in-Done-clause-edge g c = λ is.
    rose_on (g.K.Sink.faults c.args.sink.now) (g.K.Sink.faults c.say_resumed.new.sink) (g.K.Sink.faults c.end_call.new.sink) c.say_resumed.ensures.later
    (rose_by c.drive-driven.result over.Output (g.K.Sink.faults c.say_resumed.new.sink) (g.K.Sink.faults c.drive-driven.new.sink)
    (g.K.Sink.faults c.end_call.new.sink) c.drive-driven.ensures.edge c.drive-driven.ensures.quiet_sink c.end_call.ensures.later.1
    (c.end_call.ensures.edge is))

pub returns-in-Done-clause-quiet_disk : goal.returns-in-Done-clause-quiet_disk
returns-in-Done-clause-quiet_disk g c = λ disk edge.
    c.end_call.ensures.quiet_disk disk edge ∙ c.drive-driven.ensures.quiet_disk
    (answers_disk (status_of_ran c.end_call.result) c.drive-driven.result c.end_call.ensures.answers disk edge)

pub returns-in-Done-clause-quiet_sink : goal.returns-in-Done-clause-quiet_sink
returns-in-Done-clause-quiet_sink g c = λ edge.
    c.end_call.ensures.quiet_sink edge ∙ c.drive-driven.ensures.quiet_sink
    (answers_edge (status_of_ran c.end_call.result) c.drive-driven.result c.end_call.ensures.answers edge) ∙ c.say_resumed.ensures.quiet
    (done_no_edge c.say_resumed.result c.in-Done.is)

pub returns-in-Done-clause-later : goal.returns-in-Done-clause-later
returns-in-Done-clause-later g c = (
  stays_on (g.D.Disk.faults c.args.disk.now) (g.D.Disk.faults c.args.disk.now) (g.D.Disk.faults c.drive-driven.new.disk) (g.D.Disk.faults c.end_call.new.disk)
      (omega arith)
      (stays_by c.drive-driven.result over.Disk (g.D.Disk.faults c.args.disk.now) (g.D.Disk.faults c.drive-driven.new.disk) c.drive-driven.ensures.disk
      c.drive-driven.ensures.quiet_disk) c.end_call.ensures.later.0,
  stays_on (g.K.Sink.faults c.args.sink.now) (g.K.Sink.faults c.say_resumed.new.sink) (g.K.Sink.faults c.drive-driven.new.sink)
      (g.K.Sink.faults c.end_call.new.sink) c.say_resumed.ensures.later
      (stays_by c.drive-driven.result over.Output (g.K.Sink.faults c.say_resumed.new.sink) (g.K.Sink.faults c.drive-driven.new.sink) c.drive-driven.ensures.edge
      c.drive-driven.ensures.quiet_sink) c.end_call.ensures.later.1,
)

pub returns-in-Done-clause-swept : goal.returns-in-Done-clause-swept
returns-in-Done-clause-swept g c = λ clean.
    driven_sweeps g.met.D.Disk.laws g.met.J.Journal.laws c.requires.apart c.drive-driven.result c.drive-driven.new.disk c.end_call.new.disk
    (status_of_ran c.end_call.result)
    c.drive-driven.ensures.held c.end_call.ensures.spared c.end_call.ensures.answers c.end_call.ensures.swept

-- ---- with which status the call ends

pub returns-in_default-clause-ends_call : goal.returns-in_default-clause-ends_call
returns-in_default-clause-ends_call g c = inl (ap gives_up (not_done c.say_resumed.result c.say_resumed.ensures.answers c.in_default.not-Done))
