use Rattle.std.proofs.Common.{subst}
use Rattle.deploy_state.specs.States.{OwnsBrokenOff, broken_device, rolling_device}
use Rattle.deploy_state.specs.declared.state.BrokeOff.{BrokeOff}
use Rattle.step_runner.specs.Entries.{Listed}
use Rattle.session_boots.specs.Stands.{IsAtBootStage}
use Rattle.session_rollout.specs.Backwards.{HasWayBack}
use Rattle.session_rollout.proofs.BackBoots.{set_ready}
use Rattle.session_rollout.proofs.backing.roll_back.Goals as goal

-- ---- by the bootstraps of the set

pub back_on-requires-clause-held : goal.back_on-requires-clause-held
back_on-requires-clause-held g c = subst (λ (b : BrokeOff _). OwnsBrokenOff g.D.Disk.is_modelled g.D.Disk.may_leave g.J.Journal.stands g.J.Journal.end b
    c.args.disk.now) c.in-Backing.is c.requires.held

pub back_on-requires-clause-ready : goal.back_on-requires-clause-ready
back_on-requires-clause-ready g c = subst (λ (b : BrokeOff _). HasWayBack (broken_device b) c.args.backs.now (g.S.Supervise.coming c.args.ready))
    c.in-Backing.is c.requires.ready

pub back_on-requires-clause-from_state : goal.back_on-requires-clause-from_state
back_on-requires-clause-from_state g c =
    let q = c.requires.from_state in (
      q.0,
      subst (λ (b : BrokeOff _). IsAtBootStage q.0 (broken_device b) (g.S.Supervise.world c.args.supervisor.now)
          (Listed g.R.Runner.list g.R.Runner.told g.R.Runner.asked c.args.runner.now) (g.R.Runner.living c.args.runner.now)) c.in-Backing.is q.1,
    )

pub returns-in-Backing-clause-course : goal.returns-in-Backing-clause-course
returns-in-Backing-clause-course g c = λ p at_stage.
    c.back_on.ensures.course p (subst (λ (b : BrokeOff _). IsAtBootStage p (broken_device b) (g.S.Supervise.world c.args.supervisor.now)
    (Listed g.R.Runner.list g.R.Runner.told g.R.Runner.asked c.args.runner.now) (g.R.Runner.living c.args.runner.now)) c.in-Backing.is at_stage)

-- ---- at once by its items

pub roll_on-requires-clause-held : goal.roll_on-requires-clause-held
roll_on-requires-clause-held g c = subst (λ (b : BrokeOff _). OwnsBrokenOff g.D.Disk.is_modelled g.D.Disk.may_leave g.J.Journal.stands g.J.Journal.end b
    c.args.disk.now) c.in-Rolling.is c.requires.held

pub roll_on-requires-clause-ready : goal.roll_on-requires-clause-ready
roll_on-requires-clause-ready g c =
    let held = subst (λ (b : BrokeOff _). OwnsBrokenOff g.D.Disk.is_modelled g.D.Disk.may_leave g.J.Journal.stands g.J.Journal.end b c.args.disk.now)
    c.in-Rolling.is c.requires.held in
    set_ready c.args.backs.now (g.S.Supervise.coming c.args.ready) (rolling_device c.in-Rolling.state) held.1
    (subst (λ (b : BrokeOff _). HasWayBack (broken_device b) c.args.backs.now (g.S.Supervise.coming c.args.ready)) c.in-Rolling.is c.requires.ready)

pub roll_on-requires-clause-from_state : goal.roll_on-requires-clause-from_state
roll_on-requires-clause-from_state g c =
    let q = c.requires.from_state in (
      q.0,
      subst (λ (b : BrokeOff _). IsAtBootStage q.0 (broken_device b) (g.S.Supervise.world c.args.supervisor.now)
          (Listed g.R.Runner.list g.R.Runner.told g.R.Runner.asked c.args.runner.now) (g.R.Runner.living c.args.runner.now)) c.in-Rolling.is q.1,
    )

pub returns-in-Rolling-clause-course : goal.returns-in-Rolling-clause-course
returns-in-Rolling-clause-course g c = λ p at_stage.
    c.roll_on.ensures.course p (subst (λ (b : BrokeOff _). IsAtBootStage p (broken_device b) (g.S.Supervise.world c.args.supervisor.now)
    (Listed g.R.Runner.list g.R.Runner.told g.R.Runner.asked c.args.runner.now) (g.R.Runner.living c.args.runner.now)) c.in-Rolling.is at_stage)
