use Rattle.std.specs.Prelude.{Option, is_some}
use Rattle.std.proofs.Common.{◌≡◌, ◌∙◌, false, inl, inr, refl, sym, ap, subst, arith}
use Rattle.std.proofs.lemmas.Bool.{false≢true}
use Rattle.disk_model.specs.Listing.{artifacts, IsBelow}
use Rattle.nuc_base.specs.declared.status.Status.{Status}
use Rattle.nuc_base.specs.declared.status.Status.TheVariants as statuses
use Rattle.device.specs.Devices.{Device, Pending}
use Rattle.artifact_store.proofs.Walking.{start_spares}
use Rattle.deploy_state.specs.States.{OwnsLoaded, idle_device, loaded_device}
use Rattle.deploy_state.specs.declared.state.Loaded.{Loaded}
use Rattle.step_runner.specs.Entries.{Listed}
use Rattle.histories.specs.States.{SessionState}
use Rattle.histories.specs.TraceEvents.{records_of}
use Rattle.session_boots.specs.Stands.{IsAtBootStage}
use Rattle.session.specs.Parts.{RanLeft, status_of_ran}
use Rattle.session.specs.declared.ran.Standing.TheVariants as standings
use Rattle.session.specs.Endings.{Ending, ByDiskFault, Idle, is_failing}
use Rattle.session.proofs.Distinct.{differs, idle_fails, idle_starves}
use Rattle.session.proofs.Ending.{nothing_parted, still_files}
use Rattle.session.proofs.Faults.{stays_later}
use Rattle.session.proofs.States.{stage_returned}
use Rattle.session.proofs.Printing.{said_prints}
use Rattle.session.proofs.Resuming.{loaded_idle, loaded_pending, loaded_stands, resumes_none}
use Rattle.session.proofs.Returning.{came_ends, came_held, status_came}
use Rattle.session.proofs.Statuses.{no_restart, two_never}
use Rattle.session.proofs.Sweeping.{none_closes}
use Rattle.session.proofs.resumes.resume.Goals as goal

-- ---- none is pending

pub back_or_over-requires-clause-other : goal.back_or_over-requires-clause-other
back_or_over-requires-clause-other g c = no_restart c.say-status.result statuses.Done c.say-status.ensures.answers refl

pub back_or_over-requires-clause-from_state : goal.back_or_over-requires-clause-from_state
back_or_over-requires-clause-from_state g c =
    let q = c.requires.from_state in
    let told = Listed g.R.Runner.list g.R.Runner.told g.R.Runner.asked c.args.runner.now in
    let world = g.S.Supervise.world c.args.supervisor.now in
    let living = g.R.Runner.living c.args.runner.now in
    let at_stage = subst (λ (s : Loaded _). IsAtBootStage q.0 (loaded_device s) world told living) c.in-Idle.is q.1 in
    let held = subst (λ (s : Loaded _). OwnsLoaded g.D.Disk.is_modelled g.D.Disk.may_leave g.J.Journal.stands g.J.Journal.end s c.args.disk.now) c.in-Idle.is
    c.requires.held in
    (q.0, stage_returned q.0 (idle_device c.in-Idle.idle) world told living at_stage c.requires.orderly held.1)

pub returns-in-Idle-clause-call : goal.returns-in-Idle-clause-call
returns-in-Idle-clause-call g c = λ p at_stage taking.
    let d = loaded_device c.args.state in
    let stands = loaded_stands g.met.D.Disk.laws g.met.J.Journal.laws c.args.state c.args.disk.now c.requires.held p.device at_stage.between.stands.device_is in
    let told = Listed g.R.Runner.list g.R.Runner.told g.R.Runner.asked c.args.runner.now in
    let world = g.S.Supervise.world c.args.supervisor.now in
    let living = g.R.Runner.living c.args.runner.now in
    let end = Listed g.R.Runner.list g.R.Runner.told g.R.Runner.asked c.back_or_over.new.runner in
    let ran = c.back_or_over.result in
    let leaves : Ending → SessionState → Type 0 = λ ending q. RanLeft p.generation ran (is_failing ending) q world end
    (g.R.Runner.living c.back_or_over.new.runner) in
    let none = loaded_idle g.D.Disk.is_modelled g.D.Disk.may_leave g.J.Journal.stands g.J.Journal.end c.args.state _ c.args.disk.now c.in-Idle.is
    c.requires.held in
    let before = ap (λ (e : Device). e.pending) at_stage.between.stands.device_is ∙ none in
    let at = subst (λ (s : Loaded _). IsAtBootStage p (loaded_device s) world told living) c.in-Idle.is at_stage in
    let own = subst (λ (s : Loaded _). OwnsLoaded g.D.Disk.is_modelled g.D.Disk.may_leave g.J.Journal.stands g.J.Journal.end s c.args.disk.now) c.in-Idle.is
    c.requires.held in
    let k = c.back_or_over.ensures.trace p p.generation (stage_returned p (idle_device c.in-Idle.idle) world told living at c.requires.orderly own.1) refl in
    let held = g.K.Sink.held c.args.sink.now in
    let call = nothing_parted g.J.Journal.entries g.J.Journal.files g.met.D.Disk.laws c.args.disk.now c.args.disk.now told.list end.list held
    (g.K.Sink.held c.say-status.new.sink) p (status_of_ran ran) c.say-status.result
    (status_came c.in-Idle.idle c.say-status.result standings.AsBefore c.back_or_over.result c.back_or_over.ensures.exact) leaves Idle k.0
    (start_spares g.met.D.Disk.laws (IsBelow artifacts) c.args.disk.now)
    stands k.1 k.2
    c.say-status.ensures.answers
    (said_prints _ held (g.K.Sink.held c.say-status.new.sink) p.device Idle c.say-status.result stands idle_starves before c.say-status.ensures.says)
    (k.2, ap (λ (e : Device). e.pending) k.1.device ∙ before)
    (k.3 false) in (
      call.0,
      resumes_none d call.0.ending none call.1,
      (λ holds. still_files g.J.Journal.entries g.J.Journal.files g.met.D.Disk.laws c.args.disk.now p (records_of call.0.history) call.2 stands holds),
      (λ fails. absurd (differs call.0.ending Idle ByDiskFault call.1 idle_fails fails)),
    )

pub returns-in-Idle-clause-own : goal.returns-in-Idle-clause-own
returns-in-Idle-clause-own g c = λ is. two_never c.say-status.result statuses.Done statuses.Edge statuses.Library c.say-status.ensures.answers
    (λ e. cc) (λ e. cc) (sym (status_came c.in-Idle.idle c.say-status.result standings.AsBefore c.back_or_over.result c.back_or_over.ensures.exact) ∙ is)

pub returns-in-Idle-clause-held : goal.returns-in-Idle-clause-held
returns-in-Idle-clause-held g c =
    came_held c.in-Idle.idle c.say-status.result standings.AsBefore g.D.Disk.is_modelled g.D.Disk.may_leave g.J.Journal.stands g.J.Journal.end c.args.disk.now
    c.back_or_over.result c.back_or_over.ensures.exact
    (subst (λ (s : Loaded _). OwnsLoaded g.D.Disk.is_modelled g.D.Disk.may_leave g.J.Journal.stands g.J.Journal.end s c.args.disk.now) c.in-Idle.is
    c.requires.held)

pub returns-in-Idle-clause-disk : goal.returns-in-Idle-clause-disk
returns-in-Idle-clause-disk g c = λ is. absurd (two_never c.say-status.result statuses.Done statuses.Edge statuses.Disk c.say-status.ensures.answers
    (λ e. cc) (λ e. cc) (sym (status_came c.in-Idle.idle c.say-status.result standings.AsBefore c.back_or_over.result c.back_or_over.ensures.exact) ∙ is))

pub returns-in-Idle-clause-edge : goal.returns-in-Idle-clause-edge
returns-in-Idle-clause-edge g c = λ is. c.say-status.ensures.edge (sym (status_came c.in-Idle.idle c.say-status.result standings.AsBefore
    c.back_or_over.result c.back_or_over.ensures.exact) ∙ is)

pub returns-in-Idle-clause-quiet_sink : goal.returns-in-Idle-clause-quiet_sink
returns-in-Idle-clause-quiet_sink g c =
    λ edge. c.say-status.ensures.quiet (λ e. edge ((status_came c.in-Idle.idle c.say-status.result standings.AsBefore c.back_or_over.result
    c.back_or_over.ensures.exact) ∙ e))

pub returns-in-Idle-clause-later : goal.returns-in-Idle-clause-later
returns-in-Idle-clause-later g c = (
  stays_later (g.D.Disk.faults c.args.disk.now) (g.D.Disk.faults c.args.disk.now) (omega arith),
  stays_later (g.K.Sink.faults c.args.sink.now) (g.K.Sink.faults c.say-status.new.sink) c.say-status.ensures.later,
)

pub returns-in-Idle-clause-swept : goal.returns-in-Idle-clause-swept
returns-in-Idle-clause-swept g c =
    none_closes g.met.D.Disk.laws g.met.J.Journal.laws c.args.disk.now (loaded_device c.args.state) (status_of_ran c.back_or_over.result)
    (loaded_stands g.met.D.Disk.laws g.met.J.Journal.laws c.args.state c.args.disk.now c.requires.held (loaded_device c.args.state) refl)

-- ---- one is

pub resume_pending-requires-clause-pending : goal.resume_pending-requires-clause-pending
resume_pending-requires-clause-pending g c =
    loaded_pending g.D.Disk.is_modelled g.D.Disk.may_leave g.J.Journal.stands g.J.Journal.end c.args.state c.args.disk.now c.requires.held c.in_default.not-Idle

-- ---- with which status the call ends

pub returns-in-Idle-clause-ends_call : goal.returns-in-Idle-clause-ends_call
returns-in-Idle-clause-ends_call g c =
    came_ends c.in-Idle.idle c.say-status.result standings.AsBefore c.back_or_over.result c.back_or_over.ensures.exact

pub returns-in-Idle-clause-anew : goal.returns-in-Idle-clause-anew
returns-in-Idle-clause-anew g c = λ some.
    let none = loaded_idle g.D.Disk.is_modelled g.D.Disk.may_leave g.J.Journal.stands g.J.Journal.end c.args.state _ c.args.disk.now c.in-Idle.is
    c.requires.held in
    absurd (false≢true (sym (ap (λ (o : Option Pending). is_some o) none) ∙ some))

pub returns-in_default-clause-anew : goal.returns-in_default-clause-anew
returns-in_default-clause-anew g c = λ some. c.resume_pending.ensures.anew
