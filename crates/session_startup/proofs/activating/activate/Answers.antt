use Rattle.std.proofs.Common.{◌++◌, ap, subst}
use Rattle.device.specs.Devices.{Device}
use Rattle.step_runner.specs.Entries.{Listed}
use Rattle.histories.specs.Phases.{current}
use Rattle.histories.specs.States.{state_after}
use Rattle.nuc_base.specs.declared.kinds.Outcome.TheVariants as outcomes
use Rattle.deploy_state.specs.States.{activating_device, idle_device}
use Rattle.session_boots.specs.Same.{IsSameDeployment}
use Rattle.session_boots.proofs.Joins.{went_on}
use Rattle.session_boots.proofs.Told.{all_printed, left_joined, lines_at_joined}
use Rattle.session_startup.specs.Coming.{coming_device}
use Rattle.session_startup.specs.declared.turns.Turned.TheVariants as turned
use Rattle.session_startup.proofs.Parting.{broken_of, closed_on, held_plan, left_plan}
use Rattle.session_startup.proofs.Turning.{quits_on}
use Rattle.session_startup.proofs.activating.activate.Goals as goal

pub come_up-requires-clause-from_state : goal.come_up-requires-clause-from_state
come_up-requires-clause-from_state g c = c.requires.from_state

pub into_plan-state-requires : goal.into_plan-state-requires
into_plan-state-requires g c = c.in-Ok.ensures.same

pub returns-in-Broken-clause-trace : goal.returns-in-Broken-clause-trace
returns-in-Broken-clause-trace g c = λ p comes.
    let t = c.in-Ok.ensures.trace p comes in
    let told = Listed g.R.Runner.list g.R.Runner.told g.R.Runner.asked c.come_up.new.runner in
    let living = g.R.Runner.living c.come_up.new.runner in
    let world = g.S.Supervise.world c.come_up.new.supervisor in
    let r = left_plan c.in-Ok.coming c.into_plan-state.result c.in-Ok.turned turned.Broken (state_after p t.0) world told living c.into_plan-state.ensures
    c.in-Broken.is t.3 in
    (t.0, t.1, t.2, broken_of (state_after p t.0) (activating_device c.into_plan-state.result) world told living r, tt)

pub returns-in-Broken-clause-held : goal.returns-in-Broken-clause-held
returns-in-Broken-clause-held g c = held_plan g.D.Disk.is_modelled g.D.Disk.may_leave g.J.Journal.stands g.J.Journal.end c.in-Ok.coming
    c.into_plan-state.result c.come_up.new.disk c.into_plan-state.ensures c.in-Ok.ensures.held

pub returns-in-Broken-clause-same : goal.returns-in-Broken-clause-same
returns-in-Broken-clause-same g c = subst (λ (d : Device). IsSameDeployment (activating_device c.args.state) d) (ap coming_device c.into_plan-state.ensures)
    c.in-Ok.ensures.deployment

pub close_plan-requires-clause-held : goal.close_plan-requires-clause-held
close_plan-requires-clause-held g c = held_plan g.D.Disk.is_modelled g.D.Disk.may_leave g.J.Journal.stands g.J.Journal.end c.in-Ok.coming
    c.into_plan-state.result c.come_up.new.disk c.into_plan-state.ensures c.in-Ok.ensures.held

pub close_plan-requires-clause-from_state : goal.close_plan-requires-clause-from_state
close_plan-requires-clause-from_state g c =
    let q = c.requires.from_state in
    let t = c.in-Ok.ensures.trace q.0 q.1 in
    let told = Listed g.R.Runner.list g.R.Runner.told g.R.Runner.asked c.come_up.new.runner in
    let living = g.R.Runner.living c.come_up.new.runner in
    let r = left_plan c.in-Ok.coming c.into_plan-state.result c.in-Ok.turned turned.Settled (state_after q.0 t.0)
    (g.S.Supervise.world c.come_up.new.supervisor) told living c.into_plan-state.ensures c.in-Settled.is t.3 in
    (state_after q.0 t.0, told, living, r.0, r.1)

pub returns-in-Ok-close_plan-clause-trace : goal.returns-in-Ok-close_plan-clause-trace
returns-in-Ok-close_plan-clause-trace g c = λ p comes.
    let t = c.in-Ok.ensures.trace p comes in
    let told = Listed g.R.Runner.list g.R.Runner.told g.R.Runner.asked c.come_up.new.runner in
    let living = g.R.Runner.living c.come_up.new.runner in
    let r = left_plan c.in-Ok.coming c.into_plan-state.result c.in-Ok.turned turned.Settled (state_after p t.0) (g.S.Supervise.world c.come_up.new.supervisor)
    told living c.into_plan-state.ensures c.in-Settled.is t.3 in
    let u = c.in-Ok-close_plan.ensures.trace (state_after p t.0) told living r.0 r.1 in (
      u.0 ++ t.0,
      went_on g.J.Journal.entries g.J.Journal.files g.met.D.Disk.laws c.args.disk.now c.come_up.new.disk c.close_plan.new.disk
          (g.R.Runner.list c.args.runner.now) (g.R.Runner.list c.come_up.new.runner) (g.R.Runner.list c.come_up.new.runner) p t.0 u.0 t.1 u.1,
      all_printed (g.K.Sink.held c.args.sink.now) (g.K.Sink.held c.come_up.new.sink) (g.K.Sink.held c.close_plan.new.sink) p t.0 u.0 t.1.run t.2 u.2,
      closed_on outcomes.Successful current p t.0 u.0 (idle_device c.in-Ok-close_plan.idle) (g.S.Supervise.world c.close_plan.new.supervisor) told living u.3,
      tt,
    )

pub returns-in-Err-close_plan-clause-trace : goal.returns-in-Err-close_plan-clause-trace
returns-in-Err-close_plan-clause-trace g c = λ p comes.
    let t = c.in-Ok.ensures.trace p comes in
    let told = Listed g.R.Runner.list g.R.Runner.told g.R.Runner.asked c.come_up.new.runner in
    let living = g.R.Runner.living c.come_up.new.runner in
    let r = left_plan c.in-Ok.coming c.into_plan-state.result c.in-Ok.turned turned.Settled (state_after p t.0) (g.S.Supervise.world c.come_up.new.supervisor)
    told living c.into_plan-state.ensures c.in-Settled.is t.3 in
    let u = c.in-Err-close_plan.ensures.trace (state_after p t.0) told living r.0 r.1 in (
      u.0 ++ t.0,
      went_on g.J.Journal.entries g.J.Journal.files g.met.D.Disk.laws c.args.disk.now c.come_up.new.disk c.close_plan.new.disk
          (g.R.Runner.list c.args.runner.now) (g.R.Runner.list c.come_up.new.runner) (g.R.Runner.list c.come_up.new.runner) p t.0 u.0 t.1 u.1,
      lines_at_joined (g.K.Sink.held c.args.sink.now) (g.K.Sink.held c.come_up.new.sink) (g.K.Sink.held c.close_plan.new.sink) p t.0 u.0
          c.in-Err-close_plan.over t.1.run t.2 u.2,
      left_joined g.J.Journal.entries g.D.Disk.may_leave c.close_plan.new.disk p t.0 u.0 c.in-Err-close_plan.over t.1.run u.3,
      quits_on p t.0 u.0 (g.S.Supervise.world c.close_plan.new.supervisor) told living u.4,
    )

pub returns-in-Err-clause-trace : goal.returns-in-Err-clause-trace
returns-in-Err-clause-trace g c = λ p comes.
    let t = c.in-Err.ensures.trace p comes in
    (t.0, t.1, t.2, t.3, t.4)

pub close_plan-requires-clause-drives : goal.close_plan-requires-clause-drives
close_plan-requires-clause-drives g c = c.come_up.ensures.drives

pub returns-in-Broken-clause-drives : goal.returns-in-Broken-clause-drives
returns-in-Broken-clause-drives g c = c.come_up.ensures.drives

pub returns-in-Err-clause-drives : goal.returns-in-Err-clause-drives
returns-in-Err-clause-drives g c = c.come_up.ensures.drives
