use Rattle.std.specs.Prelude.{Ok, Err}
use Rattle.std.proofs.Common.{◌≡◌, ◌∙◌, true, false, inr, sym, subst}
use Rattle.device.specs.Devices.{Device, device_view}
use Rattle.device.specs.Sound.{IsSound}
use Rattle.deploy_state.specs.States.{rolling_device}
use Rattle.step_runner.specs.Entries.{Listed}
use Rattle.histories.specs.Phases.{duty_of}
use Rattle.histories.specs.States.{state_after}
use Rattle.histories.specs.Waits.{has_three}
use Rattle.session_startup.specs.Runs.{rises}
use Rattle.session_startup.proofs.Turning.{no_lines}
use Rattle.session_transitions.specs.Enters.{AreReady}
use Rattle.session_transitions.proofs.Rising.{rises_in, room_for_none, run_none, stopped_in}
use Rattle.session_transitions.proofs.GivenUp.{quits_given_up}
use Rattle.session_rollout.specs.Driven.{DrivenLeft}
use Rattle.session_rollout.specs.declared.driven.Driven.TheVariants as driven
use Rattle.session_rollout.specs.declared.driven.Presence.TheVariants as presences
use Rattle.session_rollout.proofs.Endings.{ended}
use Rattle.session_rollout.proofs.Entering.{entered}
use Rattle.session_rollout.proofs.Hands.{acted_held}
use Rattle.session_rollout.proofs.Joining.{cut_off, joined}
use Rattle.session_rollout.proofs.Leaving.{driven_on}
use Rattle.session_rollout.proofs.rolling.raise_set.Goals as goal

-- ---- what the change of the items asks

pub change_items-requires-clause-stage : goal.change_items-requires-clause-stage
change_items-requires-clause-stage g c = subst (λ (x : Device). rises (duty_of x).phase ≡ true) (sym c.device.ensures)
    (rises_in (rolling_device c.args.state) (inr c.requires.held.1))

pub change_items-requires-clause-ready : goal.change_items-requires-clause-ready
change_items-requires-clause-ready g c = subst (λ (x : Device). AreReady x (g.S.Supervise.coming c.args.ready)) (sym c.device.ensures) c.requires.ready

pub change_items-requires-clause-room : goal.change_items-requires-clause-room
change_items-requires-clause-room g c =
    let q = c.requires.from_state in
    let world = g.S.Supervise.world c.args.supervisor.now in
    room_for_none world (g.S.Supervise.room c.args.ready) (stopped_in
    q.0 (rolling_device c.args.state) world (Listed g.R.Runner.list g.R.Runner.told g.R.Runner.asked c.args.runner.now)
    (g.R.Runner.living c.args.runner.now) q.1)

pub change_items-requires-clause-few : goal.change_items-requires-clause-few
change_items-requires-clause-few g c = subst (λ (x : Device). has_three (duty_of x).counts ≡ false) (sym c.device.ensures) c.requires.few

pub change_items-requires-clause-sound : goal.change_items-requires-clause-sound
change_items-requires-clause-sound g c = subst IsSound (sym c.device.ensures) c.requires.held.0.0.sound

pub change_items-requires-clause-answered : goal.change_items-requires-clause-answered
change_items-requires-clause-answered g c = c.requires.from_state.1.between.stands.answered

pub change_items-requires-clause-made : goal.change_items-requires-clause-made
change_items-requires-clause-made g c =
    let q = c.requires.from_state in
    let world = g.S.Supervise.world c.args.supervisor.now in
    run_none (device_view c.device.result.now) world (stopped_in q.0 (rolling_device c.args.state) world
    (Listed g.R.Runner.list g.R.Runner.told g.R.Runner.asked c.args.runner.now) (g.R.Runner.living c.args.runner.now) q.1)

-- ---- they come up

pub roll-requires-clause-from_state : goal.roll-requires-clause-from_state
roll-requires-clause-from_state g c =
    let q = c.requires.from_state in
    let told = Listed g.R.Runner.list g.R.Runner.told g.R.Runner.asked c.args.runner.now in
    let t = entered q.0 (rolling_device c.args.state) (device_view c.device.result.now) (g.S.Supervise.world c.args.supervisor.now)
    (g.S.Supervise.world c.change_items.new.supervisor) told (g.R.Runner.living c.args.runner.now)
    c.device.ensures q.1 c.requires.orderly (inr c.requires.held.1) c.change_items.ensures.trace in
    (state_after q.0 t.0, t.2)

pub returns-in-Ok-clause-course : goal.returns-in-Ok-clause-course
returns-in-Ok-clause-course g c = λ p at_stage.
    let d = rolling_device c.args.state in
    let told = Listed g.R.Runner.list g.R.Runner.told g.R.Runner.asked c.args.runner.now in
    let last = Listed g.R.Runner.list g.R.Runner.told g.R.Runner.asked c.roll.new.runner in
    let living = g.R.Runner.living c.args.runner.now in
    let world = g.S.Supervise.world c.roll.new.supervisor in
    let next = g.R.Runner.living c.roll.new.runner in
    let t = entered p d (device_view c.device.result.now) (g.S.Supervise.world c.args.supervisor.now) (g.S.Supervise.world c.change_items.new.supervisor) told
    living
    c.device.ensures at_stage c.requires.orderly (inr c.requires.held.1) c.change_items.ensures.trace in
    let u = c.in-Ok.ensures.trace (state_after p t.0) t.2 in
    let x = driven.Closed c.in-Ok.idle c.in-Ok.outcome presences.Present in
    joined g.J.Journal.entries g.J.Journal.files g.met.D.Disk.laws c.args.disk.now c.args.disk.now c.roll.new.disk told.list told.list last.list
    (g.K.Sink.held c.args.sink.now) (g.K.Sink.held c.args.sink.now) (g.K.Sink.held c.roll.new.sink) p t.0 (Ok x) (λ y h r. DrivenLeft y h r world last next)
    (acted_held g.met.D.Disk.laws g.met.J.Journal.laws _ c.args.disk.now told.list told.list p d t.0 at_stage.between.stands.device_is c.requires.held.0.0 t.1)
    (no_lines (g.K.Sink.held c.args.sink.now) p.device t.0 t.1.none)
    (driven_on world last next t.0)
    (ended g.J.Journal.entries g.J.Journal.files c.args.disk.now c.roll.new.disk told.list last.list (g.K.Sink.held c.args.sink.now)
    (g.K.Sink.held c.roll.new.sink) (state_after p t.0) u.0 x (λ y h r. DrivenLeft y h r world last next)
    u.1 u.2 u.3)

pub roll-requires-clause-drives : goal.roll-requires-clause-drives
roll-requires-clause-drives g c = c.change_items.ensures.drives

pub returns-in-Ok-clause-drives : goal.returns-in-Ok-clause-drives
returns-in-Ok-clause-drives g c = c.roll.ensures.drives

-- ---- it gives up

pub kill_all-requires : goal.kill_all-requires
kill_all-requires g c =
    let q = c.requires.from_state in
    let told = Listed g.R.Runner.list g.R.Runner.told g.R.Runner.asked c.args.runner.now in
    let new = Listed g.R.Runner.list g.R.Runner.told g.R.Runner.asked c.roll.new.runner in
    let t = entered q.0 (rolling_device c.args.state) (device_view c.device.result.now) (g.S.Supervise.world c.args.supervisor.now)
    (g.S.Supervise.world c.change_items.new.supervisor) told (g.R.Runner.living c.args.runner.now)
    c.device.ensures q.1 c.requires.orderly (inr c.requires.held.1) c.change_items.ensures.trace in
    let u = c.in-Err.ensures.trace (state_after q.0 t.0) t.2 in
    let end = state_after (state_after q.0 t.0) u.0 in
    record { from_state = (end, quits_given_up end (g.S.Supervise.world c.roll.new.supervisor) new (g.R.Runner.living c.roll.new.runner) u.4) }

pub returns-in-Err-clause-course : goal.returns-in-Err-clause-course
returns-in-Err-clause-course g c = λ p at_stage.
    let d = rolling_device c.args.state in
    let told = Listed g.R.Runner.list g.R.Runner.told g.R.Runner.asked c.args.runner.now in
    let new = Listed g.R.Runner.list g.R.Runner.told g.R.Runner.asked c.roll.new.runner in
    let last = Listed g.R.Runner.list g.R.Runner.told g.R.Runner.asked c.kill_all.new.runner in
    let world = g.S.Supervise.world c.roll.new.supervisor in
    let t = entered p d (device_view c.device.result.now) (g.S.Supervise.world c.args.supervisor.now) (g.S.Supervise.world c.change_items.new.supervisor) told
    (g.R.Runner.living c.args.runner.now)
    c.device.ensures at_stage c.requires.orderly (inr c.requires.held.1) c.change_items.ensures.trace in
    let u = c.in-Err.ensures.trace (state_after p t.0) t.2 in
    let end = state_after (state_after p t.0) u.0 in
    let k = c.kill_all.ensures.trace end (quits_given_up end world new (g.R.Runner.living c.roll.new.runner) u.4) in
    joined g.J.Journal.entries g.J.Journal.files g.met.D.Disk.laws c.args.disk.now c.args.disk.now c.roll.new.disk told.list told.list last.list
    (g.K.Sink.held c.args.sink.now) (g.K.Sink.held c.args.sink.now) (g.K.Sink.held c.roll.new.sink) p t.0 (Err c.in-Err.over)
    (λ y h r. DrivenLeft y h r world last (g.R.Runner.living c.kill_all.new.runner))
    (acted_held g.met.D.Disk.laws g.met.J.Journal.laws _ c.args.disk.now told.list told.list p d t.0 at_stage.between.stands.device_is c.requires.held.0.0 t.1)
    (no_lines (g.K.Sink.held c.args.sink.now) p.device t.0 t.1.none)
    (driven_on world last (g.R.Runner.living c.kill_all.new.runner) t.0)
    (cut_off g.J.Journal.entries g.J.Journal.files c.args.disk.now c.roll.new.disk told.list new.list last.list (g.K.Sink.held c.args.sink.now)
    (g.K.Sink.held c.roll.new.sink) (state_after p t.0) u.0 k.0 c.in-Err.over
    (λ y h r. DrivenLeft y h r world last (g.R.Runner.living c.kill_all.new.runner))
    u.1 u.2 u.3 k.1 k.2 k.3 k.4)
