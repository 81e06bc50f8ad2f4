use Rattle.std.proofs.Common.{◌≡◌, true, false, inl, sym, subst}
use Rattle.device.specs.Devices.{Device, device_view}
use Rattle.device.specs.Sound.{IsSound}
use Rattle.deploy_state.specs.States.{activating_device}
use Rattle.step_runner.specs.Entries.{Listed}
use Rattle.histories.specs.Phases.{duty_of}
use Rattle.histories.specs.States.{state_after}
use Rattle.histories.specs.Waits.{has_three}
use Rattle.session_startup.specs.Runs.{rises}
use Rattle.session_startup.proofs.Turning.{no_lines}
use Rattle.components.specs.Changes.{standing}
use Rattle.session_transitions.specs.Enters.{AreReady, RunOn}
use Rattle.session_transitions.proofs.Rising.{rises_in}
use Rattle.session_rollout.proofs.Entering.{opened_entered}
use Rattle.session_rollout.proofs.Hands.{acted_held}
use Rattle.session_rollout.proofs.Joining.{joined}
use Rattle.session_rollout.proofs.Leaving.{driven_on}
use Rattle.session_rollout.proofs.items.raise_plan.Goals as goal

-- ---- what the change of the items asks

pub change_items-requires-clause-stage : goal.change_items-requires-clause-stage
change_items-requires-clause-stage g c = subst (λ (x : Device). rises (duty_of x).phase ≡ true) (sym c.device.ensures)
    (rises_in (activating_device c.args.state) (inl c.requires.held.1))

pub change_items-requires-clause-ready : goal.change_items-requires-clause-ready
change_items-requires-clause-ready g c = subst (λ (x : Device). AreReady x (g.S.Supervise.coming c.args.items)) (sym c.device.ensures) c.requires.items

pub change_items-requires-clause-few : goal.change_items-requires-clause-few
change_items-requires-clause-few g c = subst (λ (x : Device). has_three (duty_of x).counts ≡ false) (sym c.device.ensures) c.requires.few

pub change_items-requires-clause-sound : goal.change_items-requires-clause-sound
change_items-requires-clause-sound g c = subst IsSound (sym c.device.ensures) c.requires.held.0.0.sound

pub change_items-requires-clause-answered : goal.change_items-requires-clause-answered
change_items-requires-clause-answered g c = c.requires.from_state.1.stands.answered

pub change_items-requires-clause-made : goal.change_items-requires-clause-made
change_items-requires-clause-made g c = subst (λ (x : Device). RunOn x (standing (g.S.Supervise.world c.args.supervisor.now).parts)) (sym c.device.ensures)
    c.requires.made

-- ---- they come up

pub bring_up-requires-clause-from_state : goal.bring_up-requires-clause-from_state
bring_up-requires-clause-from_state g c =
    let q = c.requires.from_state in
    let told = Listed g.R.Runner.list g.R.Runner.told g.R.Runner.asked c.args.runner.now in
    let t = opened_entered q.0 (activating_device c.args.state) (device_view c.device.result.now) (g.S.Supervise.world c.args.supervisor.now)
    (g.S.Supervise.world c.change_items.new.supervisor) told (g.R.Runner.living c.args.runner.now)
    c.device.ensures q.1 c.requires.orderly c.requires.held.1 c.change_items.ensures.trace in
    (state_after q.0 t.0, t.2)

pub returns-clause-course : goal.returns-clause-course
returns-clause-course g c = λ p opened.
    let d = activating_device c.args.state in
    let told = Listed g.R.Runner.list g.R.Runner.told g.R.Runner.asked c.args.runner.now in
    let last = Listed g.R.Runner.list g.R.Runner.told g.R.Runner.asked c.bring_up.new.runner in
    let t = opened_entered p d (device_view c.device.result.now) (g.S.Supervise.world c.args.supervisor.now)
    (g.S.Supervise.world c.change_items.new.supervisor) told
    (g.R.Runner.living c.args.runner.now)
    c.device.ensures opened c.requires.orderly c.requires.held.1 c.change_items.ensures.trace in
    joined g.J.Journal.entries g.J.Journal.files g.met.D.Disk.laws c.args.disk.now c.args.disk.now c.bring_up.new.disk told.list told.list last.list
    (g.K.Sink.held c.args.sink.now) (g.K.Sink.held c.args.sink.now) (g.K.Sink.held c.bring_up.new.sink) p t.0 c.bring_up.result _
    (acted_held g.met.D.Disk.laws g.met.J.Journal.laws _ c.args.disk.now told.list told.list p d t.0 opened.stands.device_is c.requires.held.0.0 t.1)
    (no_lines (g.K.Sink.held c.args.sink.now) p.device t.0 t.1.none)
    (driven_on (g.S.Supervise.world c.bring_up.new.supervisor) last (g.R.Runner.living c.bring_up.new.runner) t.0)
    (c.bring_up.ensures.course (state_after p t.0) t.2)

pub bring_up-requires-clause-drives : goal.bring_up-requires-clause-drives
bring_up-requires-clause-drives g c = c.change_items.ensures.drives
