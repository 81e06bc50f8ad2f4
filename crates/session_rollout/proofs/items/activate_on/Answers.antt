use Rattle.std.proofs.Common.{true, false, inl}
use Rattle.deploy_state.specs.States.{activating_device}
use Rattle.step_runner.specs.Entries.{Listed}
use Rattle.session_boots.proofs.Opened.{opened_at}
use Rattle.session_transitions.proofs.Rising.{room_for_none, run_none, stopped_in}
use Rattle.session_rollout.proofs.Counts.{three_of_broken}
use Rattle.session_rollout.proofs.items.activate_on.Goals as goal

pub raise_plan-requires-clause-few : goal.raise_plan-requires-clause-few
raise_plan-requires-clause-few g c =
    three_of_broken _ c.broken.result c.is_none.result true (activating_device c.args.state) c.requires.held.0.0.sound (inl c.requires.held.1)
    c.broken.ensures c.is_none.ensures c.if-is_none.true

pub fail_again-requires-clause-failed : goal.fail_again-requires-clause-failed
fail_again-requires-clause-failed g c =
    three_of_broken _ c.broken.result c.is_none.result false (activating_device c.args.state) c.requires.held.0.0.sound (inl c.requires.held.1)
    c.broken.ensures c.is_none.ensures c.if-is_none.false

pub raise_plan-requires-clause-room : goal.raise_plan-requires-clause-room
raise_plan-requires-clause-room g c =
    let q = c.requires.from_state in
    let world = g.S.Supervise.world c.args.supervisor.now in
    room_for_none world (g.S.Supervise.room c.args.items) (stopped_in q.0 (activating_device c.args.state) world
    (Listed g.R.Runner.list g.R.Runner.told g.R.Runner.asked c.args.runner.now) (g.R.Runner.living c.args.runner.now) q.1)

pub raise_plan-requires-clause-made : goal.raise_plan-requires-clause-made
raise_plan-requires-clause-made g c =
    let q = c.requires.from_state in
    let world = g.S.Supervise.world c.args.supervisor.now in
    run_none (activating_device c.args.state) world (stopped_in q.0 (activating_device c.args.state) world
    (Listed g.R.Runner.list g.R.Runner.told g.R.Runner.asked c.args.runner.now) (g.R.Runner.living c.args.runner.now) q.1)

pub raise_plan-requires-clause-from_state : goal.raise_plan-requires-clause-from_state
raise_plan-requires-clause-from_state g c =
    let q = c.requires.from_state in (
      q.0,
      opened_at q.0 (activating_device c.args.state) (g.S.Supervise.world c.args.supervisor.now)
          (Listed g.R.Runner.list g.R.Runner.told g.R.Runner.asked c.args.runner.now) (g.R.Runner.living c.args.runner.now) q.1,
    )
