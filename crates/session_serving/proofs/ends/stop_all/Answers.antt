use Rattle.step_runner.specs.Entries.{Listed}
use Rattle.histories.specs.States.{state_after}
use Rattle.session_serving.proofs.States.{stopped_end, stopped_none}
use Rattle.session_serving.proofs.ends.stop_all.Goals as goal

pub stop_components-requires-clause-drives : goal.stop_components-requires-clause-drives
stop_components-requires-clause-drives g c = c.requires.up.1.drives

pub stop_components-requires-clause-from_state : goal.stop_components-requires-clause-from_state
stop_components-requires-clause-from_state g c = c.requires.from_state

pub returns-clause-trace : goal.returns-clause-trace
returns-clause-trace g c = λ p d may.
    let k = c.stop_components.ensures.trace p d may in
    let told = Listed g.R.Runner.list g.R.Runner.told g.R.Runner.asked c.stop_components.new.runner in (
      k.0,
      k.1,
      λ status other. stopped_end (state_after p k.0) d (g.S.Supervise.world c.stop_components.new.supervisor) told
          (g.R.Runner.living c.stop_components.new.runner) status k.2 other,
    )

pub returns-clause-none : goal.returns-clause-none
returns-clause-none g c =
    let q = c.requires.from_state in
    let k = c.stop_components.ensures.trace q.0 q.1 q.2 in
    let told = Listed g.R.Runner.list g.R.Runner.told g.R.Runner.asked c.stop_components.new.runner in
    stopped_none (state_after q.0 k.0) q.1 (g.S.Supervise.world c.stop_components.new.supervisor) told (g.R.Runner.living c.stop_components.new.runner) k.2
