use Rattle.std.proofs.Common.{◌≡◌, ◌∙◌, sym, ap}
use Rattle.nuc_base.specs.declared.kinds.Outcome.TheVariants as outcomes
use Rattle.device.specs.Devices.{Device}
use Rattle.deploy_state.specs.States.{activating_device}
use Rattle.step_runner.specs.Entries.{Listed}
use Rattle.histories.specs.Phases.{duty_of}
use Rattle.histories.specs.States.{state_after}
use Rattle.histories.specs.Waits.{has_three}
use Rattle.session_transitions.proofs.Policies.{keeps_activating}
use Rattle.session_rollout.specs.declared.driven.Driven.TheVariants as driven
use Rattle.session_rollout.specs.declared.driven.Presence.TheVariants as presences
use Rattle.session_rollout.proofs.Endings.{ended}
use Rattle.session_rollout.proofs.Joining.{cut_off}
use Rattle.session_rollout.proofs.failing.stay.Goals as goal

pub close_failed-requires-clause-may : goal.close_failed-requires-clause-may
close_failed-requires-clause-may g c =
    let q = c.requires.from_state in
    keeps_activating (activating_device c.args.state) c.requires.held.1
    (ap (λ (x : Device). has_three (duty_of x).counts) (sym q.1.comes.stands.device_is) ∙ q.1.counts) c.requires.policy

pub returns-in-Ok-clause-course : goal.returns-in-Ok-clause-course
returns-in-Ok-clause-course g c = λ p from.
    let told = Listed g.R.Runner.list g.R.Runner.told g.R.Runner.asked c.args.runner.now in
    let t = c.in-Ok.ensures.standing p told (g.R.Runner.living c.args.runner.now) from in
    ended g.J.Journal.entries g.J.Journal.files c.args.disk.now c.close_failed.new.disk told.list told.list
    (g.K.Sink.held c.args.sink.now) (g.K.Sink.held c.close_failed.new.sink) p t.0
    (driven.Closed c.in-Ok.idle outcomes.RollbackNotRequested presences.Present) _
    t.1 t.2 t.3

pub kill_all-requires : goal.kill_all-requires
kill_all-requires g c =
    let q = c.requires.from_state in
    let told = Listed g.R.Runner.list g.R.Runner.told g.R.Runner.asked c.args.runner.now in
    let t = c.in-Err.ensures.standing q.0 told (g.R.Runner.living c.args.runner.now) q.1 in
    record { from_state = (state_after q.0 t.0, t.4) }

pub returns-in-Err-clause-course : goal.returns-in-Err-clause-course
returns-in-Err-clause-course g c = λ p from.
    let told = Listed g.R.Runner.list g.R.Runner.told g.R.Runner.asked c.args.runner.now in
    let t = c.in-Err.ensures.standing p told (g.R.Runner.living c.args.runner.now) from in
    let k = c.kill_all.ensures.trace (state_after p t.0) t.4 in
    cut_off g.J.Journal.entries g.J.Journal.files c.args.disk.now c.close_failed.new.disk told.list told.list (g.R.Runner.list c.kill_all.new.runner)
    (g.K.Sink.held c.args.sink.now) (g.K.Sink.held c.close_failed.new.sink) p t.0 k.0 c.in-Err.over _
    t.1 t.2 t.3 k.1 k.2 k.3 k.4
