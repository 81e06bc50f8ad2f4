use Rattle.std.proofs.Common.{true, false, inr, sym, subst}
use Rattle.nuc_base.specs.declared.kinds.Outcome.{Outcome}
use Rattle.nuc_base.specs.declared.kinds.Outcome.TheVariants as outcomes
use Rattle.deploy_state.proofs.Steps.{may_roll}
use Rattle.deploy_state.specs.States.{idle_device, rolling_device}
use Rattle.step_runner.specs.Entries.{Listed}
use Rattle.histories.specs.Phases.{draining}
use Rattle.histories.specs.States.{state_after}
use Rattle.session_boots.proofs.Between.{no_living}
use Rattle.session_startup.specs.Ended.{HasClosed}
use Rattle.session_startup.proofs.Closed.{outcome_of}
use Rattle.session_transitions.specs.Fails.{IsFailure}
use Rattle.session_transitions.proofs.Rising.{orderly_at}
use Rattle.session_rollout.specs.Driven.{DrivenLeft}
use Rattle.session_rollout.specs.declared.driven.Driven.TheVariants as driven
use Rattle.session_rollout.specs.declared.driven.Presence.TheVariants as presences
use Rattle.session_rollout.proofs.Counts.{three_of_broken}
use Rattle.session_rollout.proofs.Endings.{ended}
use Rattle.session_rollout.proofs.Joining.{given_up}
use Rattle.session_rollout.proofs.rolling.roll_on.Goals as goal

pub raise_set-requires-clause-few : goal.raise_set-requires-clause-few
raise_set-requires-clause-few g c =
    three_of_broken _ c.broken.result c.is_none.result true (rolling_device c.args.state) c.requires.held.0.0.sound (inr c.requires.held.1) c.broken.ensures
    c.is_none.ensures c.if-is_none.true

pub close_failed-requires-clause-may : goal.close_failed-requires-clause-may
close_failed-requires-clause-may g c = may_roll (rolling_device c.args.state) c.requires.held.1

pub close_failed-requires-clause-failed : goal.close_failed-requires-clause-failed
close_failed-requires-clause-failed g c =
    let three = three_of_broken _ c.broken.result c.is_none.result false (rolling_device c.args.state) c.requires.held.0.0.sound (inr c.requires.held.1)
    c.broken.ensures c.is_none.ensures c.if-is_none.false in
    subst (λ (o : Outcome). IsFailure o) (sym (outcome_of (rolling_device c.args.state) true c.requires.held.1 three)) tt

pub returns-in-Ok-clause-course : goal.returns-in-Ok-clause-course
returns-in-Ok-clause-course g c = λ p at_stage.
    let d = rolling_device c.args.state in
    let world = g.S.Supervise.world c.args.supervisor.now in
    let told = Listed g.R.Runner.list g.R.Runner.told g.R.Runner.asked c.args.runner.now in
    let living = g.R.Runner.living c.args.runner.now in
    let t = c.in-Ok.ensures.trace p told living at_stage (orderly_at p d world told living at_stage.between.stands c.requires.orderly) in
    let now = g.S.Supervise.world c.close_failed.new.supervisor in
    let three = three_of_broken _ c.broken.result c.is_none.result false d c.requires.held.0.0.sound (inr c.requires.held.1) c.broken.ensures c.is_none.ensures
    c.if-is_none.false in
    ended g.J.Journal.entries g.J.Journal.files c.args.disk.now c.close_failed.new.disk told.list told.list
    (g.K.Sink.held c.args.sink.now) (g.K.Sink.held c.close_failed.new.sink) p t.0 (driven.Closed c.in-Ok.idle outcomes.UnableToRollback presences.Absent)
    (λ x h q. DrivenLeft x h q now told living)
    t.1 t.2
    (subst (λ (o : Outcome). HasClosed o draining t.0 (state_after p t.0) (idle_device c.in-Ok.idle) now told living)
    (outcome_of d true c.requires.held.1 three) t.3)

pub returns-in-Err-clause-course : goal.returns-in-Err-clause-course
returns-in-Err-clause-course g c = λ p at_stage.
    let d = rolling_device c.args.state in
    let world = g.S.Supervise.world c.args.supervisor.now in
    let told = Listed g.R.Runner.list g.R.Runner.told g.R.Runner.asked c.args.runner.now in
    let living = g.R.Runner.living c.args.runner.now in
    let t = c.in-Err.ensures.trace p told living at_stage (orderly_at p d world told living at_stage.between.stands c.requires.orderly) in
    given_up g.J.Journal.entries g.J.Journal.files c.args.disk.now c.close_failed.new.disk told.list told.list
    (g.K.Sink.held c.args.sink.now) (g.K.Sink.held c.close_failed.new.sink) p t.0 c.in-Err.over
    (λ x h q. DrivenLeft x h q (g.S.Supervise.world c.close_failed.new.supervisor) told living)
    t.1 t.2 t.3 t.4

pub returns-in-Err-clause-none : goal.returns-in-Err-clause-none
returns-in-Err-clause-none g c =
    let q = c.requires.from_state in
    no_living q.0 (rolling_device c.args.state) (g.S.Supervise.world c.args.supervisor.now)
    (Listed g.R.Runner.list g.R.Runner.told g.R.Runner.asked c.args.runner.now) (g.R.Runner.living c.args.runner.now) q.1
