use Rattle.std.proofs.Common.{◌≡◌, ◌∙◌, sym, ap}
use Rattle.device.specs.Devices.{Device}
use Rattle.deploy_state.specs.States.{activating_device, broken_device}
use Rattle.step_runner.specs.Entries.{Listed}
use Rattle.histories.specs.TraceEvents.{records_of}
use Rattle.histories.specs.Phases.{duty_of}
use Rattle.histories.specs.States.{state_after}
use Rattle.histories.specs.Waits.{has_three}
use Rattle.session_boots.specs.Lines.{lines_of}
use Rattle.session_boots.proofs.Told.{none_at, nothing_printed}
use Rattle.session_transitions.proofs.Policies.{breaks_activating}
use Rattle.session_rollout.proofs.Joining.{cut_off, joined}
use Rattle.session_rollout.proofs.Leaving.{driven_on}
use Rattle.session_rollout.proofs.Ways.{way_broken}
use Rattle.session_rollout.proofs.failing.go_back.Goals as goal

pub begin_rollback-requires-clause-may : goal.begin_rollback-requires-clause-may
begin_rollback-requires-clause-may g c =
    let q = c.requires.from_state in
    breaks_activating (activating_device c.args.state) c.requires.held.0.0.sound c.requires.held.1
    (ap (λ (x : Device). has_three (duty_of x).counts) (sym q.1.comes.stands.device_is) ∙ q.1.counts) c.requires.policy

pub stop_and_go_back-requires-clause-ready : goal.stop_and_go_back-requires-clause-ready
stop_and_go_back-requires-clause-ready g c =
    way_broken c.args.backs.now (g.S.Supervise.coming c.args.ready) (activating_device c.args.state) (broken_device c.in-Ok.broke) c.in-Ok.ensures.breaks
    c.requires.ready

pub stop_and_go_back-requires-clause-from_state : goal.stop_and_go_back-requires-clause-from_state
stop_and_go_back-requires-clause-from_state g c =
    let q = c.requires.from_state in
    let told = Listed g.R.Runner.list g.R.Runner.told g.R.Runner.asked c.args.runner.now in
    let t = c.in-Ok.ensures.standing q.0 (g.S.Supervise.world c.args.supervisor.now) told (g.R.Runner.living c.args.runner.now) q.1 in
    (state_after q.0 t.0, t.3)

pub returns-in-Ok-clause-course : goal.returns-in-Ok-clause-course
returns-in-Ok-clause-course g c = λ p from.
    let told = Listed g.R.Runner.list g.R.Runner.told g.R.Runner.asked c.args.runner.now in
    let last = Listed g.R.Runner.list g.R.Runner.told g.R.Runner.asked c.stop_and_go_back.new.runner in
    let t = c.in-Ok.ensures.standing p (g.S.Supervise.world c.args.supervisor.now) told (g.R.Runner.living c.args.runner.now) from in
    joined g.J.Journal.entries g.J.Journal.files g.met.D.Disk.laws c.args.disk.now c.begin_rollback.new.disk c.stop_and_go_back.new.disk
    told.list told.list last.list
    (g.K.Sink.held c.args.sink.now) (g.K.Sink.held c.args.sink.now) (g.K.Sink.held c.stop_and_go_back.new.sink) p t.0 c.stop_and_go_back.result _
    t.1
    (nothing_printed (g.K.Sink.held c.args.sink.now) (lines_of p.device (records_of t.0)) t.2)
    (driven_on (g.S.Supervise.world c.stop_and_go_back.new.supervisor) last (g.R.Runner.living c.stop_and_go_back.new.runner) t.0)
    (c.stop_and_go_back.ensures.course (state_after p t.0) t.3)

pub kill_all-requires : goal.kill_all-requires
kill_all-requires g c =
    let q = c.requires.from_state in
    let told = Listed g.R.Runner.list g.R.Runner.told g.R.Runner.asked c.args.runner.now in
    let t = c.in-Err.ensures.standing q.0 (g.S.Supervise.world c.args.supervisor.now) told (g.R.Runner.living c.args.runner.now) q.1 in
    record { from_state = (state_after q.0 t.0, t.4) }

pub returns-in-Err-clause-course : goal.returns-in-Err-clause-course
returns-in-Err-clause-course g c = λ p from.
    let told = Listed g.R.Runner.list g.R.Runner.told g.R.Runner.asked c.args.runner.now in
    let t = c.in-Err.ensures.standing p (g.S.Supervise.world c.args.supervisor.now) told (g.R.Runner.living c.args.runner.now) from in
    let k = c.kill_all.ensures.trace (state_after p t.0) t.4 in
    cut_off g.J.Journal.entries g.J.Journal.files c.args.disk.now c.begin_rollback.new.disk told.list told.list
    (g.R.Runner.list c.kill_all.new.runner)
    (g.K.Sink.held c.args.sink.now) (g.K.Sink.held c.args.sink.now) p t.0 k.0 c.in-Err.over _
    t.1 (none_at (g.K.Sink.held c.args.sink.now) p.device (records_of t.0) c.in-Err.over t.5) t.3 k.1 k.2 k.3 k.4
