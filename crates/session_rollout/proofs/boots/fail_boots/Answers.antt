use Rattle.std.proofs.Common.{◌∙◌, sym, ap}
use Rattle.nuc_base.specs.declared.kinds.Outcome.TheVariants as outcomes
use Rattle.deploy_state.specs.States.{booting_device}
use Rattle.step_runner.specs.Entries.{Listed}
use Rattle.session_boots.proofs.Between.{no_living}
use Rattle.session_transitions.specs.Fails.{is_to_roll_back}
use Rattle.session_transitions.proofs.Policies.{keeps_booting}
use Rattle.session_transitions.proofs.Rising.{orderly_at}
use Rattle.session_rollout.specs.declared.driven.Driven.TheVariants as driven
use Rattle.session_rollout.specs.declared.driven.Presence.TheVariants as presences
use Rattle.session_rollout.proofs.Endings.{ended}
use Rattle.session_rollout.proofs.Joining.{given_up}
use Rattle.session_rollout.proofs.boots.fail_boots.Goals as goal

pub break_off-requires-clause-policy : goal.break_off-requires-clause-policy
break_off-requires-clause-policy g c = ap is_to_roll_back (sym c.device.ensures) ∙ sym c.is_to_roll_back.ensures ∙ c.if-is_to_roll_back.true

-- ---- it stays as it is

pub close_failed-requires-clause-may : goal.close_failed-requires-clause-may
close_failed-requires-clause-may g c = keeps_booting (booting_device c.args.state) c.requires.held.1 c.requires.failed
    (ap is_to_roll_back (sym c.device.ensures) ∙ sym c.is_to_roll_back.ensures ∙ c.if-is_to_roll_back.false)

pub returns-in-Ok-clause-course : goal.returns-in-Ok-clause-course
returns-in-Ok-clause-course g c = λ p at_stage.
    let d = booting_device c.args.state in
    let world = g.S.Supervise.world c.args.supervisor.now in
    let told = Listed g.R.Runner.list g.R.Runner.told g.R.Runner.asked c.args.runner.now in
    let living = g.R.Runner.living c.args.runner.now in
    let t = c.in-Ok.ensures.trace p told living at_stage (orderly_at p d world told living at_stage.between.stands c.requires.orderly) in
    ended g.J.Journal.entries g.J.Journal.files c.args.disk.now c.close_failed.new.disk told.list told.list
    (g.K.Sink.held c.args.sink.now) (g.K.Sink.held c.close_failed.new.sink) p t.0
    (driven.Closed c.in-Ok.idle outcomes.RollbackNotRequested presences.Absent) _
    t.1 t.2 t.3

pub returns-in-Err-clause-course : goal.returns-in-Err-clause-course
returns-in-Err-clause-course g c = λ p at_stage.
    let d = booting_device c.args.state in
    let world = g.S.Supervise.world c.args.supervisor.now in
    let told = Listed g.R.Runner.list g.R.Runner.told g.R.Runner.asked c.args.runner.now in
    let living = g.R.Runner.living c.args.runner.now in
    let t = c.in-Err.ensures.trace p told living at_stage (orderly_at p d world told living at_stage.between.stands c.requires.orderly) in
    given_up g.J.Journal.entries g.J.Journal.files c.args.disk.now c.close_failed.new.disk told.list told.list
    (g.K.Sink.held c.args.sink.now) (g.K.Sink.held c.close_failed.new.sink) p t.0 c.in-Err.over _
    t.1 t.2 t.3 t.4

pub returns-in-Err-clause-none : goal.returns-in-Err-clause-none
returns-in-Err-clause-none g c =
    let q = c.requires.from_state in
    no_living q.0 (booting_device c.args.state) (g.S.Supervise.world c.args.supervisor.now)
    (Listed g.R.Runner.list g.R.Runner.told g.R.Runner.asked c.args.runner.now) (g.R.Runner.living c.args.runner.now) q.1
