use Rattle.std.proofs.Common.{◌≡◌, ◌⊎◌, ◌∙◌, sym, subst}
use Rattle.nuc_base.specs.Faults.{Rose}
use Rattle.nuc_base.specs.declared.status.Status.{Status}
use Rattle.nuc_base.specs.declared.status.Status.TheVariants as statuses
use Rattle.admission.proofs.Staying.{hand_stays}
use Rattle.refusal_lines.specs.Statuses.{status_of_outcome}
use Rattle.deploy_state.specs.States.{idle_device}
use Rattle.step_runner.specs.Entries.{Listed}
use Rattle.session_rollout.specs.Driven.{generation_left}
use Rattle.session.specs.Calls.{CloseEnding, SaysEnding}
use Rattle.session.specs.Endings.{ByDiskFault}
use Rattle.session.proofs.States.{closed_returned}
use Rattle.session.proofs.Returning.{came_anew, came_ends, came_held, came_no_memory, generation_by, standing_anew, status_came}
use Rattle.session.proofs.Statuses.{closed_no_restart}
use Rattle.session.proofs.closes.end_closed.Goals as goal

pub back_or_over-requires-clause-other : goal.back_or_over-requires-clause-other
back_or_over-requires-clause-other g c = closed_no_restart c.args.outcome c.sweep_behind-status.result c.sweep_behind-status.ensures.answers

pub back_or_over-requires-clause-from_state : goal.back_or_over-requires-clause-from_state
back_or_over-requires-clause-from_state g c =
    let q = c.requires.from_state in
    let d = idle_device c.args.idle in
    let told = Listed g.R.Runner.list g.R.Runner.told g.R.Runner.asked c.args.runner.now in (
      q.0,
      closed_returned q.0 d (g.S.Supervise.world c.args.supervisor.now) told (g.R.Runner.living c.args.runner.now) c.args.outcome
          (generation_left c.args.presence) q.1 q.2 c.requires.held.1,
    )

pub returns-clause-trace : goal.returns-clause-trace
returns-clause-trace g c = λ p h before closed.
    let d = idle_device c.args.idle in
    let told = Listed g.R.Runner.list g.R.Runner.told g.R.Runner.asked c.args.runner.now in
    c.back_or_over.ensures.trace p before
    (closed_returned p d (g.S.Supervise.world c.args.supervisor.now) told (g.R.Runner.living c.args.runner.now) c.args.outcome
    (generation_left c.args.presence) h closed c.requires.held.1)
    (generation_by c.args.presence c.standing_of.result before p.generation c.standing_of.ensures closed.generation_is)

pub returns-clause-held : goal.returns-clause-held
returns-clause-held g c =
    let d = idle_device c.args.idle in
    came_held c.args.idle c.sweep_behind-status.result c.standing_of.result g.D.Disk.is_modelled g.D.Disk.may_leave g.J.Journal.stands g.J.Journal.end
    c.sweep_behind-status.new.disk c.back_or_over.result c.back_or_over.ensures.exact (
      hand_stays g.met.D.Disk.laws g.met.J.Journal.laws c.requires.apart c.args.idle.log d c.args.disk.now c.sweep_behind-status.new.disk
          c.sweep_behind-status.ensures.spared c.requires.held.0,
      c.requires.held.1,
    )

pub returns-clause-ends : goal.returns-clause-ends
returns-clause-ends g c =
    subst (λ (s : Status). SaysEnding (g.K.Sink.held c.args.sink.now) (g.K.Sink.held c.sweep_behind-status.new.sink) s
    (λ e. CloseEnding c.args.outcome e × (e ≡ ByDiskFault → Rose (g.D.Disk.faults c.args.disk.now) (g.D.Disk.faults c.sweep_behind-status.new.disk))))
    (sym (status_came c.args.idle c.sweep_behind-status.result c.standing_of.result c.back_or_over.result c.back_or_over.ensures.exact))
    c.sweep_behind-status.ensures.ends

pub returns-clause-answers : goal.returns-clause-answers
returns-clause-answers g c =
    subst (λ (s : Status). (s ≡ status_of_outcome c.args.outcome) ⊎ (s ≡ statuses.Memory) ⊎ (s ≡ statuses.Disk) ⊎ (s ≡ statuses.Edge))
    (sym (status_came c.args.idle c.sweep_behind-status.result c.standing_of.result c.back_or_over.result c.back_or_over.ensures.exact))
    c.sweep_behind-status.ensures.answers

pub returns-clause-disk : goal.returns-clause-disk
returns-clause-disk g c = λ is. c.sweep_behind-status.ensures.disk
    (sym (status_came c.args.idle c.sweep_behind-status.result c.standing_of.result c.back_or_over.result c.back_or_over.ensures.exact) ∙ is)

pub returns-clause-edge : goal.returns-clause-edge
returns-clause-edge g c = λ is. c.sweep_behind-status.ensures.edge
    (sym (status_came c.args.idle c.sweep_behind-status.result c.standing_of.result c.back_or_over.result c.back_or_over.ensures.exact) ∙ is)

pub returns-clause-quiet_disk : goal.returns-clause-quiet_disk
returns-clause-quiet_disk g c = λ disk edge.
    let same = status_came c.args.idle c.sweep_behind-status.result c.standing_of.result c.back_or_over.result c.back_or_over.ensures.exact in
    c.sweep_behind-status.ensures.quiet_disk (λ is. disk (same ∙ is)) (λ is. edge (same ∙ is))

pub returns-clause-quiet_sink : goal.returns-clause-quiet_sink
returns-clause-quiet_sink g c = λ edge.
    let same = status_came c.args.idle c.sweep_behind-status.result c.standing_of.result c.back_or_over.result c.back_or_over.ensures.exact in
    c.sweep_behind-status.ensures.quiet_sink (λ is. edge (same ∙ is))

pub returns-clause-swept : goal.returns-clause-swept
returns-clause-swept g c = λ told is. c.sweep_behind-status.ensures.swept told
    (sym (status_came c.args.idle c.sweep_behind-status.result c.standing_of.result c.back_or_over.result c.back_or_over.ensures.exact) ∙ is)

-- ---- with which status the call ends

pub returns-clause-ends_call : goal.returns-clause-ends_call
returns-clause-ends_call g c =
    came_ends c.args.idle c.sweep_behind-status.result c.standing_of.result c.back_or_over.result c.back_or_over.ensures.exact

pub returns-clause-anew : goal.returns-clause-anew
returns-clause-anew g c =
    came_anew c.args.idle c.sweep_behind-status.result c.standing_of.result c.back_or_over.result c.back_or_over.ensures.exact
    (standing_anew c.args.presence c.standing_of.result c.standing_of.ensures)

pub returns-clause-no_memory : goal.returns-clause-no_memory
returns-clause-no_memory g c =
    came_no_memory c.args.idle c.sweep_behind-status.result c.standing_of.result c.back_or_over.result c.back_or_over.ensures.exact
