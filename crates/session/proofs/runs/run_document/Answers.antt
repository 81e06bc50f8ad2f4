use Rattle.std.proofs.Common.{List, ◌≡◌, ◌⊎◌, ◌∙◌, inl, inr, refl, sym, ap, subst, arith}
use Rattle.std.specs.Prelude.{Err}
use Rattle.disk_model.specs.Disk.{Image}
use Rattle.disk_model.specs.Listing.{artifacts, IsBelow}
use Rattle.nuc_base.specs.declared.status.Status.TheVariants as statuses
use Rattle.device.specs.Devices.{Device}
use Rattle.device.specs.Standing.{StandsFor}
use Rattle.library_core.proofs.Telling.{stays_same}
use Rattle.plan_core.specs.declared.fault.Refusal.{Refusal}
use Rattle.plan_core.specs.Checks.{document_refusal}
use Rattle.refusal_lines.specs.Lines.{refusal_line}
use Rattle.refusal_lines.specs.Statuses.{status_of_refusal}
use Rattle.admission.specs.declared.fault.Declined.TheVariants.{Refused}
use Rattle.artifact_store.proofs.Walking.{start_spares}
use Rattle.deploy_state.proofs.Steps.{in_hand_stands}
use Rattle.deploy_state.specs.Accepting.{idle_log}
use Rattle.deploy_state.specs.States.{idle_device}
use Rattle.deploy_state.specs.Turning.{start_of}
use Rattle.step_runner.specs.Entries.{Listed}
use Rattle.histories.specs.TraceEvents.{records_of}
use Rattle.histories.specs.States.{SessionState}
use Rattle.session.specs.Calls.{SaysRefusal}
use Rattle.session.specs.Endings.{Ending, is_failing}
use Rattle.session.specs.Parts.{RanLeft, status_of_ran}
use Rattle.session.specs.declared.ran.Standing.TheVariants as standings
use Rattle.session.proofs.Ending.{declined_parted, still_files}
use Rattle.session.proofs.Returning.{came_ends, came_held, came_unbegun, came_no_memory, status_came}
use Rattle.session.proofs.Taken.{unread_taken}
use Rattle.session.proofs.Faults.{stays_later}
use Rattle.session.proofs.States.{open_returned}
use Rattle.session.proofs.Statuses.{declined_no_restart, told_no_restart, refusal_never, unread_library, unread_never}
use Rattle.session.proofs.Sweeping.{none_closes}
use Rattle.session.proofs.runs.run_document.Goals as goal

pub back_or_over-requires-clause-other : goal.back_or_over-requires-clause-other
back_or_over-requires-clause-other g c = told_no_restart c.say_refusal-status.result (status_of_refusal c.from-refusal.result)
    c.say_refusal-status.ensures.answers (declined_no_restart (Refused c.from-refusal.result))

pub back_or_over-requires-clause-from_state : goal.back_or_over-requires-clause-from_state
back_or_over-requires-clause-from_state g c =
    let q = c.requires.from_state in
    let told = Listed g.R.Runner.list g.R.Runner.told g.R.Runner.asked c.args.runner.now in (
      q.0,
      open_returned q.0 (idle_device c.args.idle) (g.S.Supervise.world c.args.supervisor.now) told (g.R.Runner.living c.args.runner.now) q.1
          c.requires.orderly c.requires.held.1,
    )

pub returns-in-Err-clause-call : goal.returns-in-Err-clause-call
returns-in-Err-clause-call g c = λ p opens taking.
    let d = idle_device c.args.idle in
    let world = g.S.Supervise.world c.args.supervisor.now in
    let told = Listed g.R.Runner.list g.R.Runner.told g.R.Runner.asked c.args.runner.now in
    let living = g.R.Runner.living c.args.runner.now in
    let end = Listed g.R.Runner.list g.R.Runner.told g.R.Runner.asked c.back_or_over.new.runner in
    let lives = g.R.Runner.living c.back_or_over.new.runner in
    let ran = c.back_or_over.result in
    let leaves : Ending → SessionState → Type 0 = λ ending q. RanLeft p.generation ran (is_failing ending) q world end lives in
    let k = c.back_or_over.ensures.trace p p.generation (open_returned p d world told living opens c.requires.orderly c.requires.held.1) refl in
    let stands : (i : Image) → g.D.Disk.may_leave c.args.disk.now i → StandsFor g.J.Journal.entries i p.device =
    λ i left. subst (λ (e : Device). StandsFor g.J.Journal.entries i e) (sym opens.stands.device_is)
    (in_hand_stands g.met.D.Disk.laws g.met.J.Journal.laws c.args.idle.log c.args.disk.now d c.requires.held.0 i left) in
    let declined = Refused (document_refusal c.in-Err.fault) in
    let t = declined_parted g.J.Journal.entries g.J.Journal.files g.met.D.Disk.laws c.args.disk.now c.args.disk.now told.list end.list
    (g.K.Sink.held c.args.sink.now) (g.K.Sink.held c.say_refusal-status.new.sink) p (status_of_ran ran) c.say_refusal-status.result
    (status_came c.args.idle c.say_refusal-status.result standings.AsBefore c.back_or_over.result c.back_or_over.ensures.exact) leaves
    (start_of g.J.Journal.end g.J.Journal.number g.J.Journal.turns (idle_log c.args.idle) (idle_device c.args.idle)) declined k.0
    (start_spares g.met.D.Disk.laws (IsBelow artifacts) c.args.disk.now)
    stands k.1 k.2
    (ap (λ (e : Device). e.pending) opens.stands.device_is ∙ c.requires.held.1)
    (subst (λ (r : Refusal). SaysRefusal (g.K.Sink.held c.args.sink.now) (g.K.Sink.held c.say_refusal-status.new.sink) c.say_refusal-status.result
    (status_of_refusal r) (refusal_line r)) c.from-refusal.ensures c.say_refusal-status.ensures.says) (λ ending. k.3 (is_failing ending)) in (
      Err declined,
      (λ o is. unread_taken d o (g.L.Library.content c.args.library.now) (g.L.Library.faults c.args.library.now) (g.L.Library.faults c.args.library.now)
          c.args.document.now c.in-Err.fault c.in-Err.ensures.exact),
      (
        t.0,
        t.1,
        came_unbegun c.args.idle c.say_refusal-status.result (records_of t.0.history) ran c.back_or_over.ensures.exact t.2,
      ),
      (λ holds. still_files g.J.Journal.entries g.J.Journal.files g.met.D.Disk.laws c.args.disk.now p (records_of t.0.history) t.2 stands holds),
      (λ fails. absurd (t.3 fails)),
      (λ failed. absurd failed),
      (λ failed. absurd (unread_library c.in-Err.fault (ap status_of_refusal failed))),
      tt,
    )

pub returns-in-Err-clause-kept : goal.returns-in-Err-clause-kept
returns-in-Err-clause-kept g c = stays_same g.L.Library.content g.L.Library.coming c.args.library.now

pub returns-in-Err-clause-held : goal.returns-in-Err-clause-held
returns-in-Err-clause-held g c =
    came_held c.args.idle c.say_refusal-status.result standings.AsBefore g.D.Disk.is_modelled g.D.Disk.may_leave g.J.Journal.stands g.J.Journal.end
    c.args.disk.now c.back_or_over.result c.back_or_over.ensures.exact c.requires.held

pub returns-in-Ok-clause-call : goal.returns-in-Ok-clause-call
returns-in-Ok-clause-call g c = λ p opens taking.
    let t = c.run_deployment-ran.ensures.call p opens taking in (
      t.0,
      (λ o is. inr (inr (c.in-Ok.document, c.in-Ok.ensures.exact, t.1 o is))),
      t.2,
      t.3,
      t.4,
      t.5,
      t.6,
      t.7,
    )

pub returns-in-Err-clause-disk : goal.returns-in-Err-clause-disk
returns-in-Err-clause-disk g c = λ is. absurd (refusal_never _ c.say_refusal-status.result statuses.Disk c.say_refusal-status.ensures.answers refl (λ e. cc)
    (sym (status_came c.args.idle c.say_refusal-status.result standings.AsBefore c.back_or_over.result c.back_or_over.ensures.exact) ∙ is))

pub returns-in-Err-clause-edge : goal.returns-in-Err-clause-edge
returns-in-Err-clause-edge g c =
    λ is. c.say_refusal-status.ensures.edge (sym (status_came c.args.idle c.say_refusal-status.result standings.AsBefore c.back_or_over.result
    c.back_or_over.ensures.exact) ∙ is)

pub returns-in-Err-clause-quiet_sink : goal.returns-in-Err-clause-quiet_sink
returns-in-Err-clause-quiet_sink g c =
    λ edge. c.say_refusal-status.ensures.quiet (λ e. edge ((status_came c.args.idle c.say_refusal-status.result standings.AsBefore c.back_or_over.result
    c.back_or_over.ensures.exact) ∙ e))

pub returns-in-Err-clause-library : goal.returns-in-Err-clause-library
returns-in-Err-clause-library g c = λ is.
    absurd (unread_never c.in-Err.fault c.say_refusal-status.result
    (subst (λ (r : Refusal). (c.say_refusal-status.result ≡ status_of_refusal r) ⊎ (c.say_refusal-status.result ≡ statuses.Memory) ⊎
    (c.say_refusal-status.result ≡ statuses.Edge)) c.from-refusal.ensures c.say_refusal-status.ensures.answers)
    (sym (status_came c.args.idle c.say_refusal-status.result standings.AsBefore c.back_or_over.result c.back_or_over.ensures.exact) ∙ is))

pub returns-in-Err-clause-later : goal.returns-in-Err-clause-later
returns-in-Err-clause-later g c = (
  stays_later (g.D.Disk.faults c.args.disk.now) (g.D.Disk.faults c.args.disk.now) (omega arith),
  stays_later (g.K.Sink.faults c.args.sink.now) (g.K.Sink.faults c.say_refusal-status.new.sink) c.say_refusal-status.ensures.later,
)

-- ---- no stray file is left behind a close

pub returns-in-Ok-clause-swept : goal.returns-in-Ok-clause-swept
returns-in-Ok-clause-swept g c = c.run_deployment-ran.ensures.swept

pub returns-in-Err-clause-swept : goal.returns-in-Err-clause-swept
returns-in-Err-clause-swept g c =
    let d = idle_device c.args.idle in
    none_closes g.met.D.Disk.laws g.met.J.Journal.laws c.args.disk.now d (status_of_ran c.back_or_over.result)
    (λ i left. in_hand_stands g.met.D.Disk.laws g.met.J.Journal.laws c.args.idle.log c.args.disk.now d c.requires.held.0 i left)

-- ---- with which status the call ends

pub returns-in-Err-clause-ends_call : goal.returns-in-Err-clause-ends_call
returns-in-Err-clause-ends_call g c =
    came_ends c.args.idle c.say_refusal-status.result standings.AsBefore c.back_or_over.result c.back_or_over.ensures.exact

pub returns-in-Err-clause-no_memory : goal.returns-in-Err-clause-no_memory
returns-in-Err-clause-no_memory g c =
    came_no_memory c.args.idle c.say_refusal-status.result standings.AsBefore c.back_or_over.result c.back_or_over.ensures.exact
