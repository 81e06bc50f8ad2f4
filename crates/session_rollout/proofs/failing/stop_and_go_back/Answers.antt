use Rattle.deploy_state.specs.States.{broken_device}
use Rattle.step_runner.specs.Entries.{Listed}
use Rattle.histories.specs.States.{state_after}
use Rattle.session_startup.proofs.Turning.{no_lines}
use Rattle.session_rollout.proofs.Hands.{acted_held, broken_held}
use Rattle.session_rollout.proofs.Joining.{joined}
use Rattle.session_rollout.proofs.Leaving.{driven_on}
use Rattle.session_rollout.proofs.Stopping.{broken_busy, stopped_stage, stopped_orderly, rollback_stops}
use Rattle.session_rollout.proofs.failing.stop_and_go_back.Goals as goal

pub stop_components-requires-clause-drives : goal.stop_components-requires-clause-drives
stop_components-requires-clause-drives g c = c.requires.drives

pub stop_components-requires-clause-from_state : goal.stop_components-requires-clause-from_state
stop_components-requires-clause-from_state g c =
    let q = c.requires.from_state in
    let d = broken_device c.args.broke in
    let told = Listed g.R.Runner.list g.R.Runner.told g.R.Runner.asked c.args.runner.now in
    (q.0, d, rollback_stops q.0 d (g.S.Supervise.world c.args.supervisor.now) told (g.R.Runner.living c.args.runner.now) q.1)

pub roll_back-requires-clause-orderly : goal.roll_back-requires-clause-orderly
roll_back-requires-clause-orderly g c =
    let q = c.requires.from_state in
    let d = broken_device c.args.broke in
    let told = Listed g.R.Runner.list g.R.Runner.told g.R.Runner.asked c.args.runner.now in
    let new = Listed g.R.Runner.list g.R.Runner.told g.R.Runner.asked c.stop_components.new.runner in
    let world = g.S.Supervise.world c.stop_components.new.supervisor in
    let living = g.R.Runner.living c.stop_components.new.runner in
    let t = c.stop_components.ensures.trace q.0 d (rollback_stops q.0 d (g.S.Supervise.world c.args.supervisor.now) told
    (g.R.Runner.living c.args.runner.now) q.1) in
    stopped_orderly (state_after q.0 t.0) d world new living t.2

pub roll_back-requires-clause-from_state : goal.roll_back-requires-clause-from_state
roll_back-requires-clause-from_state g c =
    let q = c.requires.from_state in
    let d = broken_device c.args.broke in
    let told = Listed g.R.Runner.list g.R.Runner.told g.R.Runner.asked c.args.runner.now in
    let new = Listed g.R.Runner.list g.R.Runner.told g.R.Runner.asked c.stop_components.new.runner in
    let world = g.S.Supervise.world c.stop_components.new.supervisor in
    let living = g.R.Runner.living c.stop_components.new.runner in
    let busy = broken_busy g.D.Disk.is_modelled g.D.Disk.may_leave g.J.Journal.stands g.J.Journal.end c.args.broke c.args.disk.now c.requires.held in
    let t = c.stop_components.ensures.trace q.0 d (rollback_stops q.0 d (g.S.Supervise.world c.args.supervisor.now) told
    (g.R.Runner.living c.args.runner.now) q.1) in
    (state_after q.0 t.0, stopped_stage (state_after q.0 t.0) d world new living busy t.2)

pub returns-clause-course : goal.returns-clause-course
returns-clause-course g c = λ p turned.
    let d = broken_device c.args.broke in
    let told = Listed g.R.Runner.list g.R.Runner.told g.R.Runner.asked c.args.runner.now in
    let new = Listed g.R.Runner.list g.R.Runner.told g.R.Runner.asked c.stop_components.new.runner in
    let world = g.S.Supervise.world c.stop_components.new.supervisor in
    let living = g.R.Runner.living c.stop_components.new.runner in
    let last = Listed g.R.Runner.list g.R.Runner.told g.R.Runner.asked c.roll_back.new.runner in
    let busy = broken_busy g.D.Disk.is_modelled g.D.Disk.may_leave g.J.Journal.stands g.J.Journal.end c.args.broke c.args.disk.now c.requires.held in
    let held = broken_held g.D.Disk.is_modelled g.D.Disk.may_leave g.J.Journal.stands g.J.Journal.end c.args.broke c.args.disk.now c.requires.held in
    let t = c.stop_components.ensures.trace p d (rollback_stops p d (g.S.Supervise.world c.args.supervisor.now) told (g.R.Runner.living c.args.runner.now)
    turned) in
    let at_stage = stopped_stage (state_after p t.0) d world new living busy t.2 in
    joined g.J.Journal.entries g.J.Journal.files g.met.D.Disk.laws c.args.disk.now c.args.disk.now c.roll_back.new.disk told.list new.list last.list
    (g.K.Sink.held c.args.sink.now) (g.K.Sink.held c.args.sink.now) (g.K.Sink.held c.roll_back.new.sink) p t.0 c.roll_back.result _
    (acted_held g.met.D.Disk.laws g.met.J.Journal.laws held.0 c.args.disk.now told.list new.list p d t.0 turned.stands.device_is held.1 t.1)
    (no_lines (g.K.Sink.held c.args.sink.now) p.device t.0 t.1.none)
    (driven_on (g.S.Supervise.world c.roll_back.new.supervisor) last (g.R.Runner.living c.roll_back.new.runner) t.0)
    (c.roll_back.ensures.course (state_after p t.0) at_stage)

pub roll_back-requires-clause-drives : goal.roll_back-requires-clause-drives
roll_back-requires-clause-drives g c = c.stop_components.ensures.drives
