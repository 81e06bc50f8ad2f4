use Rattle.deploy_state.specs.States.{booting_device, broken_device}
use Rattle.step_runner.specs.Entries.{Listed}
use Rattle.histories.specs.TraceEvents.{records_of}
use Rattle.histories.specs.States.{state_after}
use Rattle.session_boots.specs.Lines.{lines_of}
use Rattle.session_boots.proofs.Between.{no_living}
use Rattle.session_boots.proofs.Told.{none_at, nothing_printed}
use Rattle.session_transitions.proofs.Policies.{breaks_booting}
use Rattle.session_rollout.proofs.Joining.{given_up, joined}
use Rattle.session_rollout.proofs.Leaving.{driven_on}
use Rattle.session_rollout.proofs.Ways.{way_broken}
use Rattle.session_rollout.proofs.boots.break_off.Goals as goal

pub begin_rollback-requires-clause-may : goal.begin_rollback-requires-clause-may
begin_rollback-requires-clause-may g c = breaks_booting (booting_device c.args.state) c.requires.held.0.0.sound c.requires.held.1 c.requires.failed
    c.requires.policy

pub roll_back-requires-clause-ready : goal.roll_back-requires-clause-ready
roll_back-requires-clause-ready g c =
    way_broken c.args.backs.now (g.S.Supervise.coming c.args.ready) (booting_device c.args.state) (broken_device c.in-Ok.broke) c.in-Ok.ensures.breaks
    c.requires.ready

pub roll_back-requires-clause-from_state : goal.roll_back-requires-clause-from_state
roll_back-requires-clause-from_state g c =
    let q = c.requires.from_state in
    let told = Listed g.R.Runner.list g.R.Runner.told g.R.Runner.asked c.args.runner.now in
    let t = c.in-Ok.ensures.trace q.0 (g.S.Supervise.world c.args.supervisor.now) told (g.R.Runner.living c.args.runner.now) q.1 in
    (state_after q.0 t.0, t.3)

pub returns-in-Ok-clause-course : goal.returns-in-Ok-clause-course
returns-in-Ok-clause-course g c = λ p at_stage.
    let told = Listed g.R.Runner.list g.R.Runner.told g.R.Runner.asked c.args.runner.now in
    let last = Listed g.R.Runner.list g.R.Runner.told g.R.Runner.asked c.roll_back.new.runner in
    let t = c.in-Ok.ensures.trace p (g.S.Supervise.world c.args.supervisor.now) told (g.R.Runner.living c.args.runner.now) at_stage in
    joined g.J.Journal.entries g.J.Journal.files g.met.D.Disk.laws c.args.disk.now c.begin_rollback.new.disk c.roll_back.new.disk told.list
    told.list last.list
    (g.K.Sink.held c.args.sink.now) (g.K.Sink.held c.args.sink.now) (g.K.Sink.held c.roll_back.new.sink) p t.0 c.roll_back.result _
    t.1
    (nothing_printed (g.K.Sink.held c.args.sink.now) (lines_of p.device (records_of t.0)) t.2)
    (driven_on (g.S.Supervise.world c.roll_back.new.supervisor) last (g.R.Runner.living c.roll_back.new.runner) t.0)
    (c.roll_back.ensures.course (state_after p t.0) t.3)

pub returns-in-Err-clause-course : goal.returns-in-Err-clause-course
returns-in-Err-clause-course g c = λ p at_stage.
    let told = Listed g.R.Runner.list g.R.Runner.told g.R.Runner.asked c.args.runner.now in
    let t = c.in-Err.ensures.trace p (g.S.Supervise.world c.args.supervisor.now) told (g.R.Runner.living c.args.runner.now) at_stage in
    given_up g.J.Journal.entries g.J.Journal.files c.args.disk.now c.begin_rollback.new.disk told.list told.list
    (g.K.Sink.held c.args.sink.now) (g.K.Sink.held c.args.sink.now) p t.0 c.in-Err.over _
    t.1 (none_at (g.K.Sink.held c.args.sink.now) p.device (records_of t.0) c.in-Err.over t.5) t.3 t.4

pub returns-in-Err-clause-none : goal.returns-in-Err-clause-none
returns-in-Err-clause-none g c =
    let q = c.requires.from_state in
    no_living q.0 (booting_device c.args.state) (g.S.Supervise.world c.args.supervisor.now)
    (Listed g.R.Runner.list g.R.Runner.told g.R.Runner.asked c.args.runner.now) (g.R.Runner.living c.args.runner.now) q.1
