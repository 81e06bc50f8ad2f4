use Rattle.std.proofs.Common.{◌≡◌, ◌⊎◌, List, false, inl, inr, refl, sym, ap, subst, ◌∙◌, arith}
use Rattle.std.specs.Prelude.{Result, Ok, Err}
use Rattle.nuc_base.specs.declared.status.Status.{Status}
use Rattle.histories.specs.States.{SessionState, state_after}
use Rattle.disk_model.specs.Disk.{Image}
use Rattle.records.specs.Stored.{Record, plan_view}
use Rattle.records.specs.declared.record.Plan as code
use Rattle.nuc_base.specs.declared.status.Status.TheVariants as statuses
use Rattle.device.specs.Devices.{Device}
use Rattle.device.specs.Standing.{StandsFor}
use Rattle.deploy_state.proofs.Steps.{in_hand_stands}
use Rattle.deploy_state.specs.Accepting.{idle_log}
use Rattle.deploy_state.specs.States.{idle_device}
use Rattle.deploy_state.specs.Turning.{start_of}
use Rattle.step_runner.specs.Entries.{Listed}
use Rattle.histories.specs.TraceEvents.{records_of}
use Rattle.admission.specs.Takes.{TakesIn}
use Rattle.admission.specs.declared.fault.Declined.{Declined}
use Rattle.session.specs.Documents.{IsPutOff}
use Rattle.session.specs.Endings.{Ending, ByDiskFault, WantBefore, is_failing}
use Rattle.session.specs.Declines.{status_of_declined}
use Rattle.session.specs.Parts.{CameBy, RanLeft, status_of_ran}
use Rattle.session.specs.declared.ran.Standing.TheVariants as standings
use Rattle.session.proofs.Distinct.{differs, memory_disk, memory_edge, memory_library, starves_fails}
use Rattle.session.proofs.Ending.{declined_parted, nothing_parted, taken_behind}
use Rattle.session.proofs.Returning.{came_ends, came_held, came_unbegun, came_no_memory, status_came}
use Rattle.session.proofs.Faults.{rose_on, stays_later, stays_on}
use Rattle.session.proofs.Holding.{taken_both, taken_whole}
use Rattle.session.proofs.States.{open_returned}
use Rattle.session.proofs.Printing.{starved_prints}
use Rattle.session.proofs.Statuses.{told_no_restart, declined_no_restart, declined_disk, declined_library, disk_declined, library_declined, told_is, told_said}
use Rattle.session.proofs.Sweeping.{declined_sweeps, never_closes}
use Rattle.session.proofs.runs.run_deployment.Goals as goal

-- ---- the document is not taken

pub back_or_over-requires-clause-other : goal.back_or_over-requires-clause-other
back_or_over-requires-clause-other g c =
    told_no_restart c.say_declined-status.result (status_of_declined c.in-Err.declined) c.say_declined-status.ensures.answers
    (declined_no_restart c.in-Err.declined)

pub back_or_over-requires-clause-from_state : goal.back_or_over-requires-clause-from_state
back_or_over-requires-clause-from_state g c =
    let q = c.requires.from_state in
    let told = Listed g.R.Runner.list g.R.Runner.told g.R.Runner.asked c.args.runner.now in (
      q.0,
      open_returned q.0 (idle_device c.args.idle) (g.S.Supervise.world c.args.supervisor.now) told (g.R.Runner.living c.args.runner.now) q.1
          c.requires.orderly c.requires.held.1,
    )

pub returns-in-Err-clause-call : goal.returns-in-Err-clause-call
returns-in-Err-clause-call g c = λ p opens taking.
    let d = idle_device c.args.idle in
    let world = g.S.Supervise.world c.args.supervisor.now in
    let told = Listed g.R.Runner.list g.R.Runner.told g.R.Runner.asked c.args.runner.now in
    let living = g.R.Runner.living c.args.runner.now in
    let end = Listed g.R.Runner.list g.R.Runner.told g.R.Runner.asked c.back_or_over.new.runner in
    let lives = g.R.Runner.living c.back_or_over.new.runner in
    let ran = c.back_or_over.result in
    let leaves : Ending → SessionState → Type 0 = λ ending q. RanLeft p.generation ran (is_failing ending) q world end lives in
    let k = c.back_or_over.ensures.trace p p.generation (open_returned p d world told living opens c.requires.orderly c.requires.held.1) refl in
    let t = declined_parted g.J.Journal.entries g.J.Journal.files g.met.D.Disk.laws c.args.disk.now c.take_in.new.disk told.list end.list
    (g.K.Sink.held c.args.sink.now) (g.K.Sink.held c.say_declined-status.new.sink) p (status_of_ran ran) c.say_declined-status.result
    (status_came c.args.idle c.say_declined-status.result standings.AsBefore c.back_or_over.result c.back_or_over.ensures.exact) leaves
    (start_of g.J.Journal.end g.J.Journal.number g.J.Journal.turns (idle_log c.args.idle) (idle_device c.args.idle)) c.in-Err.declined k.0
    c.take_in.ensures.moments
    (λ i left. subst (λ (e : Device). StandsFor g.J.Journal.entries i e) (sym opens.stands.device_is)
    (in_hand_stands g.met.D.Disk.laws g.met.J.Journal.laws c.args.idle.log c.take_in.new.disk d c.take_in.ensures.held.0 i left))
    k.1 k.2
    (ap (λ (e : Device). e.pending) opens.stands.device_is ∙ c.requires.held.1)
    c.say_declined-status.ensures.says (λ ending. k.3 (is_failing ending)) in (
      Err c.in-Err.declined,
      (λ o is. subst (λ (r : Result code.Plan Declined). TakesIn d o (g.L.Library.content c.take_in.new.library) (g.L.Library.faults c.args.library.now)
          (g.L.Library.faults c.take_in.new.library) c.args.document.now r) c.in-Err.is (c.take_in.ensures.takes o is)),
      (
        t.0,
        t.1,
        came_unbegun c.args.idle c.say_declined-status.result (records_of t.0.history) ran c.back_or_over.ensures.exact t.2,
      ),
      (λ holds. taken_whole g.met.D.Disk.laws g.J.Journal.files g.J.Journal.entries c.requires.apart g.met.J.Journal.laws c.args.idle.log c.args.disk.now
          c.take_in.new.disk d p opens.stands.device_is c.requires.held.0 c.take_in.ensures.moments c.take_in.ensures.safe holds (records_of t.0.history)),
      (λ fails. absurd (t.3 fails)),
      c.in-Err.ensures.disk_cause,
      c.in-Err.ensures.library_cause,
      tt,
    )

pub returns-in-Err-clause-held : goal.returns-in-Err-clause-held
returns-in-Err-clause-held g c =
    came_held c.args.idle c.say_declined-status.result standings.AsBefore g.D.Disk.is_modelled g.D.Disk.may_leave g.J.Journal.stands g.J.Journal.end
    c.take_in.new.disk c.back_or_over.result c.back_or_over.ensures.exact c.take_in.ensures.held

pub returns-in-Err-clause-others : goal.returns-in-Err-clause-others
returns-in-Err-clause-others g c = λ told name apart below. c.take_in.ensures.others told name below

pub returns-in-Err-clause-disk : goal.returns-in-Err-clause-disk
returns-in-Err-clause-disk g c = λ is.
    c.in-Err.ensures.disk_cause (declined_disk c.in-Err.declined (told_is c.say_declined-status.result _ statuses.Disk c.say_declined-status.ensures.answers
    (λ e. cc) (λ e. cc) (sym (status_came c.args.idle c.say_declined-status.result standings.AsBefore c.back_or_over.result c.back_or_over.ensures.exact) ∙
    is)))

pub returns-in-Err-clause-library : goal.returns-in-Err-clause-library
returns-in-Err-clause-library g c = λ is.
    c.in-Err.ensures.library_cause (declined_library c.in-Err.declined
    (told_is c.say_declined-status.result _ statuses.Library c.say_declined-status.ensures.answers (λ e. cc) (λ e. cc)
    (sym (status_came c.args.idle c.say_declined-status.result standings.AsBefore c.back_or_over.result c.back_or_over.ensures.exact) ∙ is)))

pub returns-in-Err-clause-edge : goal.returns-in-Err-clause-edge
returns-in-Err-clause-edge g c =
    λ is. c.say_declined-status.ensures.edge (sym (status_came c.args.idle c.say_declined-status.result standings.AsBefore c.back_or_over.result
    c.back_or_over.ensures.exact) ∙ is)

pub returns-in-Err-clause-quiet_sink : goal.returns-in-Err-clause-quiet_sink
returns-in-Err-clause-quiet_sink g c =
    λ edge. c.say_declined-status.ensures.quiet (λ e. edge ((status_came c.args.idle c.say_declined-status.result standings.AsBefore c.back_or_over.result
    c.back_or_over.ensures.exact) ∙ e))

pub returns-in-Err-clause-quiet_disk : goal.returns-in-Err-clause-quiet_disk
returns-in-Err-clause-quiet_disk g c = λ disk edge.
    c.in-Err.ensures.disk_quiet (λ failed.
    let is = disk_declined c.in-Err.declined failed in
    told_said c.say_declined-status.result _ statuses.Disk c.say_declined-status.ensures.answers is (c.say_declined-status.ensures.outside (inl is))
    (λ e. disk ((status_came c.args.idle c.say_declined-status.result standings.AsBefore c.back_or_over.result c.back_or_over.ensures.exact) ∙ e))
    (λ e. edge ((status_came c.args.idle c.say_declined-status.result standings.AsBefore c.back_or_over.result c.back_or_over.ensures.exact) ∙ e)))

pub returns-in-Err-clause-library_quiet : goal.returns-in-Err-clause-library_quiet
returns-in-Err-clause-library_quiet g c = λ library edge.
    c.in-Err.ensures.library_quiet (λ failed.
    let is = library_declined c.in-Err.declined failed in
    told_said c.say_declined-status.result _ statuses.Library c.say_declined-status.ensures.answers is (c.say_declined-status.ensures.outside (inr is))
    (λ e. library ((status_came c.args.idle c.say_declined-status.result standings.AsBefore c.back_or_over.result c.back_or_over.ensures.exact) ∙ e))
    (λ e. edge ((status_came c.args.idle c.say_declined-status.result standings.AsBefore c.back_or_over.result c.back_or_over.ensures.exact) ∙ e)))

pub returns-in-Err-clause-later : goal.returns-in-Err-clause-later
returns-in-Err-clause-later g c = (
  stays_later (g.D.Disk.faults c.args.disk.now) (g.D.Disk.faults c.take_in.new.disk) c.take_in.ensures.disk_later,
  stays_later (g.K.Sink.faults c.args.sink.now) (g.K.Sink.faults c.say_declined-status.new.sink) c.say_declined-status.ensures.later,
)

-- ---- what making ready asks

pub ready_for-requires-clause-sound : goal.ready_for-requires-clause-sound
ready_for-requires-clause-sound g c = c.take_in.ensures.held.0.sound

pub ready_for-requires-clause-regular_device : goal.ready_for-requires-clause-regular_device
ready_for-requires-clause-regular_device g c = c.take_in.ensures.held.0.regular

pub run_plan-requires-clause-ready : goal.run_plan-requires-clause-ready
run_plan-requires-clause-ready g c = c.in-Ok-ready_for.ensures.ready

pub run_plan-requires-clause-room : goal.run_plan-requires-clause-room
run_plan-requires-clause-room g c = c.in-Ok-ready_for.ensures.room

-- ---- it is deployed

pub returns-in-Ok-ready_for-clause-call : goal.returns-in-Ok-ready_for-clause-call
returns-in-Ok-ready_for-clause-call g c = λ p opens taking.
    let ran = c.run_plan.result in
    let end = Listed g.R.Runner.list g.R.Runner.told g.R.Runner.asked c.run_plan.new.runner in
    let world = g.S.Supervise.world c.run_plan.new.supervisor in
    let leaves : Ending → SessionState → Type 0 =
    λ ending q. RanLeft p.generation ran (is_failing ending) q world end (g.R.Runner.living c.run_plan.new.runner) in
    let t = taken_behind g.J.Journal.entries g.J.Journal.files g.met.D.Disk.laws (λ (records : List Record). CameBy ran records)
    (start_of g.J.Journal.end g.J.Journal.number g.J.Journal.turns (idle_log c.args.idle) (idle_device c.args.idle)) c.args.disk.now c.take_in.new.disk
    c.run_plan.new.disk (g.R.Runner.list c.args.runner.now) (g.R.Runner.list c.run_plan.new.runner)
    (g.K.Sink.held c.args.sink.now) (g.K.Sink.held c.run_plan.new.sink) p (status_of_ran ran) leaves (idle_device c.args.idle) c.in-Ok.plan
    c.take_in.ensures.moments
    (λ holds records. taken_whole g.met.D.Disk.laws g.J.Journal.files g.J.Journal.entries c.requires.apart g.met.J.Journal.laws c.args.idle.log
    c.args.disk.now c.take_in.new.disk (idle_device c.args.idle) p opens.stands.device_is c.requires.held.0 c.take_in.ensures.moments
    c.take_in.ensures.safe holds records)
    (λ holds. taken_both g.met.D.Disk.laws c.args.disk.now c.take_in.new.disk (idle_device c.args.idle) p (plan_view c.in-Ok.plan).items
    opens.stands.device_is c.take_in.ensures.safe c.in-Ok.ensures.files holds)
    (c.run_plan.ensures.call p opens taking)
    (rose_on (g.D.Disk.faults c.args.disk.now) (g.D.Disk.faults c.take_in.new.disk) (g.D.Disk.faults c.run_plan.new.disk) c.take_in.ensures.disk_later) in (
      Ok c.in-Ok.plan,
      (λ o is. subst (λ (r : Result code.Plan Declined). TakesIn (idle_device c.args.idle) o (g.L.Library.content c.take_in.new.library)
          (g.L.Library.faults c.args.library.now) (g.L.Library.faults c.take_in.new.library) c.args.document.now r) c.in-Ok.is (c.take_in.ensures.takes o is)),
      t.0,
      t.1,
      t.2,
      (λ failed. absurd failed),
      (λ failed. absurd failed),
      t.3,
    )

pub returns-in-Ok-ready_for-clause-others : goal.returns-in-Ok-ready_for-clause-others
returns-in-Ok-ready_for-clause-others g c = λ told name apart below. c.run_plan.ensures.others told name apart below ∙ c.take_in.ensures.others told name below

pub returns-in-Ok-ready_for-clause-disk : goal.returns-in-Ok-ready_for-clause-disk
returns-in-Ok-ready_for-clause-disk g c = λ is.
    rose_on (g.D.Disk.faults c.args.disk.now) (g.D.Disk.faults c.take_in.new.disk) (g.D.Disk.faults c.run_plan.new.disk) c.take_in.ensures.disk_later
    (c.run_plan.ensures.disk is)

pub returns-in-Ok-ready_for-clause-quiet_disk : goal.returns-in-Ok-ready_for-clause-quiet_disk
returns-in-Ok-ready_for-clause-quiet_disk g c = λ disk edge. c.run_plan.ensures.quiet_disk disk edge ∙ c.in-Ok.ensures.disk_quiet (λ failed. failed)

pub returns-in-Ok-ready_for-clause-library : goal.returns-in-Ok-ready_for-clause-library
returns-in-Ok-ready_for-clause-library g c = λ is. absurd (c.run_plan.ensures.own is)

pub returns-in-Ok-ready_for-clause-library_quiet : goal.returns-in-Ok-ready_for-clause-library_quiet
returns-in-Ok-ready_for-clause-library_quiet g c = λ library edge. c.in-Ok.ensures.library_quiet (λ failed. failed)

pub returns-in-Ok-ready_for-clause-later : goal.returns-in-Ok-ready_for-clause-later
returns-in-Ok-ready_for-clause-later g c = (
  stays_on (g.D.Disk.faults c.args.disk.now) (g.D.Disk.faults c.take_in.new.disk) (g.D.Disk.faults c.run_plan.new.disk) (g.D.Disk.faults c.run_plan.new.disk)
      c.take_in.ensures.disk_later c.run_plan.ensures.later.0 (omega arith),
  c.run_plan.ensures.later.1,
)

-- ---- there is no memory for it

pub back_or_over-requires-in-Err-ready_for-clause-other : goal.back_or_over-requires-in-Err-ready_for-clause-other
back_or_over-requires-in-Err-ready_for-clause-other g c = refl

pub back_or_over-requires-in-Err-ready_for-clause-from_state : goal.back_or_over-requires-in-Err-ready_for-clause-from_state
back_or_over-requires-in-Err-ready_for-clause-from_state g c =
    let q = c.requires.from_state in
    let told = Listed g.R.Runner.list g.R.Runner.told g.R.Runner.asked c.args.runner.now in (
      q.0,
      open_returned q.0 (idle_device c.args.idle) (g.S.Supervise.world c.args.supervisor.now) told (g.R.Runner.living c.args.runner.now) q.1
          c.requires.orderly c.requires.held.1,
    )

pub returns-in-Err-ready_for-clause-call : goal.returns-in-Err-ready_for-clause-call
returns-in-Err-ready_for-clause-call g c = λ p opens taking.
    let d = idle_device c.args.idle in
    let world = g.S.Supervise.world c.args.supervisor.now in
    let told = Listed g.R.Runner.list g.R.Runner.told g.R.Runner.asked c.args.runner.now in
    let living = g.R.Runner.living c.args.runner.now in
    let end = Listed g.R.Runner.list g.R.Runner.told g.R.Runner.asked c.back_or_over-in-Err-ready_for.new.runner in
    let lives = g.R.Runner.living c.back_or_over-in-Err-ready_for.new.runner in
    let ran = c.back_or_over-in-Err-ready_for.result in
    let exact = c.back_or_over-in-Err-ready_for.ensures.exact in
    let leaves : Ending → SessionState → Type 0 = λ ending q. RanLeft p.generation ran (is_failing ending) q world end lives in
    let k = c.back_or_over-in-Err-ready_for.ensures.trace p p.generation (open_returned p d world told living opens c.requires.orderly c.requires.held.1) refl in
    let stands : (i : Image) → g.D.Disk.may_leave c.take_in.new.disk i → StandsFor g.J.Journal.entries i p.device =
    λ i left. subst (λ (e : Device). StandsFor g.J.Journal.entries i e) (sym opens.stands.device_is)
    (in_hand_stands g.met.D.Disk.laws g.met.J.Journal.laws c.args.idle.log c.take_in.new.disk d c.take_in.ensures.held.0 i left) in
    let held = g.K.Sink.held c.args.sink.now in
    let start = start_of g.J.Journal.end g.J.Journal.number g.J.Journal.turns (idle_log c.args.idle) (idle_device c.args.idle) in
    let call = nothing_parted g.J.Journal.entries g.J.Journal.files g.met.D.Disk.laws c.args.disk.now c.take_in.new.disk told.list end.list held held p
    (status_of_ran ran) statuses.Memory (status_came c.args.idle statuses.Memory standings.AsBefore ran exact) leaves WantBefore k.0
    c.take_in.ensures.moments
    stands k.1 k.2
    (inl refl)
    (starved_prints _ held held p.device statuses.Memory stands refl)
    k.2
    (k.3 false) in (
      Ok c.in-Ok.plan,
      (λ o is. subst (λ (r : Result code.Plan Declined). TakesIn d o (g.L.Library.content c.take_in.new.library) (g.L.Library.faults c.args.library.now)
          (g.L.Library.faults c.take_in.new.library) c.args.document.now r) c.in-Ok.is (c.take_in.ensures.takes o is)),
      (
        call.0,
        inl (subst (λ (e : Ending). IsPutOff start (plan_view c.in-Ok.plan) e) (sym call.1) tt, call.2),
        came_unbegun c.args.idle statuses.Memory (records_of call.0.history) ran exact call.2,
      ),
      (λ holds. taken_whole g.met.D.Disk.laws g.J.Journal.files g.J.Journal.entries c.requires.apart g.met.J.Journal.laws c.args.idle.log c.args.disk.now
          c.take_in.new.disk d p opens.stands.device_is c.requires.held.0 c.take_in.ensures.moments c.take_in.ensures.safe holds (records_of call.0.history)),
      (λ fails. absurd (differs call.0.ending WantBefore ByDiskFault call.1 starves_fails fails)),
      (λ failed. absurd failed),
      (λ failed. absurd failed),
      inl call.2,
    )

pub returns-in-Err-ready_for-clause-held : goal.returns-in-Err-ready_for-clause-held
returns-in-Err-ready_for-clause-held g c =
    came_held c.args.idle statuses.Memory standings.AsBefore g.D.Disk.is_modelled g.D.Disk.may_leave g.J.Journal.stands g.J.Journal.end
    c.take_in.new.disk c.back_or_over-in-Err-ready_for.result c.back_or_over-in-Err-ready_for.ensures.exact c.take_in.ensures.held

pub returns-in-Err-ready_for-clause-disk : goal.returns-in-Err-ready_for-clause-disk
returns-in-Err-ready_for-clause-disk g c = λ is. absurd (memory_disk (sym (status_came c.args.idle statuses.Memory standings.AsBefore
    c.back_or_over-in-Err-ready_for.result c.back_or_over-in-Err-ready_for.ensures.exact) ∙ is))

pub returns-in-Err-ready_for-clause-edge : goal.returns-in-Err-ready_for-clause-edge
returns-in-Err-ready_for-clause-edge g c = λ is. absurd (memory_edge (sym (status_came c.args.idle statuses.Memory standings.AsBefore
    c.back_or_over-in-Err-ready_for.result c.back_or_over-in-Err-ready_for.ensures.exact) ∙ is))

pub returns-in-Err-ready_for-clause-library : goal.returns-in-Err-ready_for-clause-library
returns-in-Err-ready_for-clause-library g c = λ is. absurd (memory_library (sym (status_came c.args.idle statuses.Memory standings.AsBefore
    c.back_or_over-in-Err-ready_for.result c.back_or_over-in-Err-ready_for.ensures.exact) ∙ is))

pub returns-in-Err-ready_for-clause-others : goal.returns-in-Err-ready_for-clause-others
returns-in-Err-ready_for-clause-others g c = λ told name apart below. c.take_in.ensures.others told name below

pub returns-in-Err-ready_for-clause-quiet_disk : goal.returns-in-Err-ready_for-clause-quiet_disk
returns-in-Err-ready_for-clause-quiet_disk g c = λ disk edge. c.in-Ok.ensures.disk_quiet (λ failed. failed)

pub returns-in-Err-ready_for-clause-library_quiet : goal.returns-in-Err-ready_for-clause-library_quiet
returns-in-Err-ready_for-clause-library_quiet g c = λ library edge. c.in-Ok.ensures.library_quiet (λ failed. failed)

pub returns-in-Err-ready_for-clause-later : goal.returns-in-Err-ready_for-clause-later
returns-in-Err-ready_for-clause-later g c = (
  stays_later (g.D.Disk.faults c.args.disk.now) (g.D.Disk.faults c.take_in.new.disk) c.take_in.ensures.disk_later,
  stays_later (g.K.Sink.faults c.args.sink.now) (g.K.Sink.faults c.args.sink.now) (omega arith),
)

-- ---- no stray file is left behind a close

pub returns-in-Err-clause-swept : goal.returns-in-Err-clause-swept
returns-in-Err-clause-swept g c =
    let d = idle_device c.args.idle in
    declined_sweeps g.met.D.Disk.laws g.met.J.Journal.laws c.args.disk.now c.take_in.new.disk d c.in-Err.declined (status_of_ran c.back_or_over.result)
    (subst (λ (x : Status). (x ≡ status_of_declined c.in-Err.declined) ⊎ (x ≡ statuses.Memory) ⊎ (x ≡ statuses.Edge))
    (sym (status_came c.args.idle c.say_declined-status.result standings.AsBefore c.back_or_over.result c.back_or_over.ensures.exact))
    c.say_declined-status.ensures.answers) c.in-Err.ensures.untouched
    (λ i left. in_hand_stands g.met.D.Disk.laws g.met.J.Journal.laws c.args.idle.log c.take_in.new.disk d c.take_in.ensures.held.0 i left)

pub returns-in-Ok-ready_for-clause-swept : goal.returns-in-Ok-ready_for-clause-swept
returns-in-Ok-ready_for-clause-swept g c = λ clean. c.run_plan.ensures.swept

pub returns-in-Err-ready_for-clause-swept : goal.returns-in-Err-ready_for-clause-swept
returns-in-Err-ready_for-clause-swept g c = λ clean.
    never_closes g.D.Disk.is_modelled g.J.Journal.entries (status_of_ran c.back_or_over-in-Err-ready_for.result) statuses.Memory
    (g.D.Disk.seen c.take_in.new.disk) refl
    (inl (status_came c.args.idle statuses.Memory standings.AsBefore c.back_or_over-in-Err-ready_for.result
    c.back_or_over-in-Err-ready_for.ensures.exact))

-- ---- with which status the call ends

pub returns-in-Err-clause-ends_call : goal.returns-in-Err-clause-ends_call
returns-in-Err-clause-ends_call g c =
    came_ends c.args.idle c.say_declined-status.result standings.AsBefore c.back_or_over.result c.back_or_over.ensures.exact

pub returns-in-Err-ready_for-clause-ends_call : goal.returns-in-Err-ready_for-clause-ends_call
returns-in-Err-ready_for-clause-ends_call g c =
    came_ends c.args.idle statuses.Memory standings.AsBefore c.back_or_over-in-Err-ready_for.result c.back_or_over-in-Err-ready_for.ensures.exact

pub returns-in-Err-clause-no_memory : goal.returns-in-Err-clause-no_memory
returns-in-Err-clause-no_memory g c =
    came_no_memory c.args.idle c.say_declined-status.result standings.AsBefore c.back_or_over.result c.back_or_over.ensures.exact

pub returns-in-Err-ready_for-clause-no_memory : goal.returns-in-Err-ready_for-clause-no_memory
returns-in-Err-ready_for-clause-no_memory g c =
    came_no_memory c.args.idle statuses.Memory standings.AsBefore c.back_or_over-in-Err-ready_for.result c.back_or_over-in-Err-ready_for.ensures.exact
