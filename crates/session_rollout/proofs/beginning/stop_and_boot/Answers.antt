use Rattle.device.specs.declared.staged.Stage.TheVariants as stages
use Rattle.deploy_state.specs.States.{booting_device}
use Rattle.step_runner.specs.Entries.{Listed}
use Rattle.histories.specs.States.{state_after}
use Rattle.session_startup.proofs.Turning.{no_lines}
use Rattle.session_rollout.proofs.Hands.{acted_held}
use Rattle.session_rollout.proofs.Joining.{joined}
use Rattle.session_rollout.proofs.Leaving.{driven_on}
use Rattle.session_rollout.proofs.Stopping.{busy_in, opened_stops, stopped_stage, stopped_orderly}
use Rattle.session_rollout.proofs.beginning.stop_and_boot.Goals as goal

pub stop_components-requires-clause-drives : goal.stop_components-requires-clause-drives
stop_components-requires-clause-drives g c = c.requires.drives

pub stop_components-requires-clause-from_state : goal.stop_components-requires-clause-from_state
stop_components-requires-clause-from_state g c =
    let q = c.requires.from_state in
    let d = booting_device c.args.state in
    let told = Listed g.R.Runner.list g.R.Runner.told g.R.Runner.asked c.args.runner.now in (
      q.0,
      d,
      opened_stops q.0 d (g.S.Supervise.world c.args.supervisor.now) told (g.R.Runner.living c.args.runner.now) q.1 c.requires.orderly c.requires.held.1
          c.requires.next,
    )

pub boot-requires-clause-orderly : goal.boot-requires-clause-orderly
boot-requires-clause-orderly g c =
    let q = c.requires.from_state in
    let d = booting_device c.args.state in
    let told = Listed g.R.Runner.list g.R.Runner.told g.R.Runner.asked c.args.runner.now in
    let new = Listed g.R.Runner.list g.R.Runner.told g.R.Runner.asked c.stop_components.new.runner in
    let world = g.S.Supervise.world c.stop_components.new.supervisor in
    let living = g.R.Runner.living c.stop_components.new.runner in
    let t = c.stop_components.ensures.trace q.0 d (opened_stops q.0 d (g.S.Supervise.world c.args.supervisor.now) told
    (g.R.Runner.living c.args.runner.now) q.1 c.requires.orderly c.requires.held.1 c.requires.next) in
    stopped_orderly (state_after q.0 t.0) d world new living t.2

pub boot-requires-clause-from_state : goal.boot-requires-clause-from_state
boot-requires-clause-from_state g c =
    let q = c.requires.from_state in
    let d = booting_device c.args.state in
    let told = Listed g.R.Runner.list g.R.Runner.told g.R.Runner.asked c.args.runner.now in
    let new = Listed g.R.Runner.list g.R.Runner.told g.R.Runner.asked c.stop_components.new.runner in
    let world = g.S.Supervise.world c.stop_components.new.supervisor in
    let living = g.R.Runner.living c.stop_components.new.runner in
    let t = c.stop_components.ensures.trace q.0 d (opened_stops q.0 d (g.S.Supervise.world c.args.supervisor.now) told
    (g.R.Runner.living c.args.runner.now) q.1 c.requires.orderly c.requires.held.1 c.requires.next) in
    (state_after q.0 t.0, stopped_stage (state_after q.0 t.0) d world new living (busy_in stages.Booting d c.requires.held.1) t.2)

pub boot-requires-clause-drives : goal.boot-requires-clause-drives
boot-requires-clause-drives g c = c.stop_components.ensures.drives

pub returns-clause-course : goal.returns-clause-course
returns-clause-course g c = λ p opened.
    let d = booting_device c.args.state in
    let told = Listed g.R.Runner.list g.R.Runner.told g.R.Runner.asked c.args.runner.now in
    let new = Listed g.R.Runner.list g.R.Runner.told g.R.Runner.asked c.stop_components.new.runner in
    let world = g.S.Supervise.world c.stop_components.new.supervisor in
    let living = g.R.Runner.living c.stop_components.new.runner in
    let last = Listed g.R.Runner.list g.R.Runner.told g.R.Runner.asked c.boot.new.runner in
    let t = c.stop_components.ensures.trace p d (opened_stops p d (g.S.Supervise.world c.args.supervisor.now) told (g.R.Runner.living c.args.runner.now)
    opened c.requires.orderly c.requires.held.1 c.requires.next) in
    let at_stage = stopped_stage (state_after p t.0) d world new living (busy_in stages.Booting d c.requires.held.1) t.2 in
    joined g.J.Journal.entries g.J.Journal.files g.met.D.Disk.laws c.args.disk.now c.args.disk.now c.boot.new.disk told.list new.list last.list
    (g.K.Sink.held c.args.sink.now) (g.K.Sink.held c.args.sink.now) (g.K.Sink.held c.boot.new.sink) p t.0 c.boot.result _
    (acted_held g.met.D.Disk.laws g.met.J.Journal.laws _ c.args.disk.now told.list new.list p d t.0 opened.stands.device_is c.requires.held.0.0 t.1)
    (no_lines (g.K.Sink.held c.args.sink.now) p.device t.0 t.1.none)
    (driven_on (g.S.Supervise.world c.boot.new.supervisor) last (g.R.Runner.living c.boot.new.runner) t.0)
    (c.boot.ensures.course (state_after p t.0) at_stage)
