use Rattle.std.proofs.Common.{◌≡◌, ◌∙◌, false, sym, ap, subst}
use Rattle.device.specs.Devices.{Device}
use Rattle.deploy_state.specs.States.{activating_device, booting_device}
use Rattle.step_runner.specs.Entries.{Listed}
use Rattle.histories.specs.TraceEvents.{records_of}
use Rattle.histories.specs.States.{state_after}
use Rattle.session_boots.specs.Lines.{lines_of}
use Rattle.session_boots.specs.Same.{IsSameDeployment}
use Rattle.session_boots.proofs.Same.{same_activated}
use Rattle.session_boots.proofs.Told.{none_at, nothing_printed}
use Rattle.components.specs.Changes.{standing}
use Rattle.histories.specs.Phases.{duty_of}
use Rattle.histories.specs.Waits.{has_three}
use Rattle.session_transitions.specs.Enters.{AreReady, RunOn}
use Rattle.session_transitions.proofs.Rising.{orderly_at}
use Rattle.session_rollout.proofs.Counts.{few_activated}
use Rattle.session_rollout.proofs.Joining.{cut_off, joined}
use Rattle.session_rollout.proofs.Leaving.{driven_on}
use Rattle.session_rollout.proofs.Ways.{way_on}
use Rattle.session_rollout.proofs.boots.end_boots.Goals as goal

pub raise_plan-requires-clause-items : goal.raise_plan-requires-clause-items
raise_plan-requires-clause-items g c = subst (λ (d : Device). AreReady d (g.S.Supervise.coming c.args.items)) (sym c.in-Ok.ensures.taken) c.requires.items

pub raise_plan-requires-clause-ready : goal.raise_plan-requires-clause-ready
raise_plan-requires-clause-ready g c =
    let d = booting_device c.args.state in
    way_on c.args.backs.now (g.S.Supervise.coming c.args.ready) d (activating_device c.in-Ok.state)
    (subst (λ (x : Device). IsSameDeployment d x) (sym c.in-Ok.ensures.taken) (same_activated d)) c.requires.ready

pub raise_plan-requires-clause-from_state : goal.raise_plan-requires-clause-from_state
raise_plan-requires-clause-from_state g c =
    let q = c.requires.from_state in
    let told = Listed g.R.Runner.list g.R.Runner.told g.R.Runner.asked c.args.runner.now in
    let world = g.S.Supervise.world c.args.supervisor.now in
    let living = g.R.Runner.living c.args.runner.now in
    let orderly = orderly_at q.0 (booting_device c.args.state) world told living q.1.stands c.requires.orderly in
    let t = c.in-Ok.ensures.trace q.0 world told living q.1 orderly in
    (state_after q.0 t.0, t.3)

pub raise_plan-requires-clause-few : goal.raise_plan-requires-clause-few
raise_plan-requires-clause-few g c =
    ap (λ (x : Device). has_three (duty_of x).counts) c.in-Ok.ensures.taken ∙ few_activated (booting_device c.args.state) c.requires.held.1

pub raise_plan-requires-clause-made : goal.raise_plan-requires-clause-made
raise_plan-requires-clause-made g c = subst (λ (x : Device). RunOn x (standing (g.S.Supervise.world c.args.supervisor.now).parts))
    (sym c.in-Ok.ensures.taken) c.requires.made

pub returns-in-Ok-clause-course : goal.returns-in-Ok-clause-course
returns-in-Ok-clause-course g c = λ p opened.
    let told = Listed g.R.Runner.list g.R.Runner.told g.R.Runner.asked c.args.runner.now in
    let last = Listed g.R.Runner.list g.R.Runner.told g.R.Runner.asked c.raise_plan.new.runner in
    let world = g.S.Supervise.world c.args.supervisor.now in
    let living = g.R.Runner.living c.args.runner.now in
    let orderly = orderly_at p (booting_device c.args.state) world told living opened.stands c.requires.orderly in
    let t = c.in-Ok.ensures.trace p world told living opened orderly in
    joined g.J.Journal.entries g.J.Journal.files g.met.D.Disk.laws c.args.disk.now c.begin_items.new.disk c.raise_plan.new.disk told.list told.list last.list
    (g.K.Sink.held c.args.sink.now) (g.K.Sink.held c.args.sink.now) (g.K.Sink.held c.raise_plan.new.sink) p t.0 c.raise_plan.result _
    t.1
    (nothing_printed (g.K.Sink.held c.args.sink.now) (lines_of p.device (records_of t.0)) t.2)
    (driven_on (g.S.Supervise.world c.raise_plan.new.supervisor) last (g.R.Runner.living c.raise_plan.new.runner) t.0)
    (c.raise_plan.ensures.course (state_after p t.0) t.3)

-- ---- it gives up

pub kill_all-requires : goal.kill_all-requires
kill_all-requires g c =
    let q = c.requires.from_state in
    let told = Listed g.R.Runner.list g.R.Runner.told g.R.Runner.asked c.args.runner.now in
    let world = g.S.Supervise.world c.args.supervisor.now in
    let living = g.R.Runner.living c.args.runner.now in
    let orderly = orderly_at q.0 (booting_device c.args.state) world told living q.1.stands c.requires.orderly in
    let t = c.in-Err.ensures.trace q.0 world told living q.1 orderly in
    record { from_state = (state_after q.0 t.0, t.4) }

pub returns-in-Err-clause-course : goal.returns-in-Err-clause-course
returns-in-Err-clause-course g c = λ p opened.
    let told = Listed g.R.Runner.list g.R.Runner.told g.R.Runner.asked c.args.runner.now in
    let world = g.S.Supervise.world c.args.supervisor.now in
    let living = g.R.Runner.living c.args.runner.now in
    let orderly = orderly_at p (booting_device c.args.state) world told living opened.stands c.requires.orderly in
    let t = c.in-Err.ensures.trace p world told living opened orderly in
    let k = c.kill_all.ensures.trace (state_after p t.0) t.4 in
    cut_off g.J.Journal.entries g.J.Journal.files c.args.disk.now c.begin_items.new.disk told.list told.list
    (g.R.Runner.list c.kill_all.new.runner)
    (g.K.Sink.held c.args.sink.now) (g.K.Sink.held c.args.sink.now) p t.0 k.0 c.in-Err.over _
    t.1 (none_at (g.K.Sink.held c.args.sink.now) p.device (records_of t.0) c.in-Err.over t.5) t.3 k.1 k.2 k.3 k.4
