use Rattle.std.proofs.Common.{◌≡◌, true, subst}
use Rattle.nuc_base.specs.declared.kinds.Outcome.TheVariants as outcomes
use Rattle.deploy_state.specs.Fields.{has_failed}
use Rattle.deploy_state.specs.States.{OwnsBacked, backed_device, backing_device}
use Rattle.deploy_state.specs.declared.state.Backed.{Backed}
use Rattle.session_boots.specs.Staged.{IsStillBacking}
use Rattle.step_runner.specs.Entries.{Listed}
use Rattle.session_boots.specs.Stands.{IsAtBootStage}
use Rattle.session_boots.proofs.Between.{no_living}
use Rattle.session_transitions.proofs.Policies.{closes_backing}
use Rattle.session_transitions.proofs.Rising.{orderly_at}
use Rattle.session_rollout.specs.Backwards.{EndsBacks}
use Rattle.session_rollout.specs.Driven.{DrivenLeft}
use Rattle.session_rollout.specs.declared.driven.Driven.TheVariants as driven
use Rattle.session_rollout.specs.declared.driven.Presence.TheVariants as presences
use Rattle.session_rollout.proofs.Endings.{ended}
use Rattle.session_rollout.proofs.Joining.{given_up}
use Rattle.session_rollout.proofs.backing.end_backs.Goals as goal

-- ---- the items of the set come up

pub roll_on-requires-clause-held : goal.roll_on-requires-clause-held
roll_on-requires-clause-held g c = subst (λ (b : Backed _). OwnsBacked g.D.Disk.is_modelled g.D.Disk.may_leave g.J.Journal.stands g.J.Journal.end b
    c.args.disk.now) c.in-Rolling.is c.requires.held

pub roll_on-requires-clause-ready : goal.roll_on-requires-clause-ready
roll_on-requires-clause-ready g c = subst (λ (b : Backed _). EndsBacks b (g.S.Supervise.coming c.args.ready)) c.in-Rolling.is c.requires.ready

pub roll_on-requires-clause-from_state : goal.roll_on-requires-clause-from_state
roll_on-requires-clause-from_state g c =
    let q = c.requires.from_state in (
      q.0,
      subst (λ (b : Backed _). IsAtBootStage q.0 (backed_device b) (g.S.Supervise.world c.args.supervisor.now)
          (Listed g.R.Runner.list g.R.Runner.told g.R.Runner.asked c.args.runner.now) (g.R.Runner.living c.args.runner.now)) c.in-Rolling.is q.1,
    )

pub returns-in-Rolling-clause-course : goal.returns-in-Rolling-clause-course
returns-in-Rolling-clause-course g c = λ p at_stage.
    c.roll_on.ensures.course p (subst (λ (b : Backed _). IsAtBootStage p (backed_device b) (g.S.Supervise.world c.args.supervisor.now)
    (Listed g.R.Runner.list g.R.Runner.told g.R.Runner.asked c.args.runner.now) (g.R.Runner.living c.args.runner.now)) c.in-Rolling.is at_stage)

-- ---- one of the bootstraps failed

pub close_failed-requires-clause-held : goal.close_failed-requires-clause-held
close_failed-requires-clause-held g c = subst (λ (b : Backed _). OwnsBacked g.D.Disk.is_modelled g.D.Disk.may_leave g.J.Journal.stands g.J.Journal.end
    b c.args.disk.now) c.in-Backing.is c.requires.held

pub close_failed-requires-clause-may : goal.close_failed-requires-clause-may
close_failed-requires-clause-may g c =
    let held = subst (λ (b : Backed _). OwnsBacked g.D.Disk.is_modelled g.D.Disk.may_leave g.J.Journal.stands g.J.Journal.end b c.args.disk.now)
    c.in-Backing.is c.requires.held in
    closes_backing (backing_device c.in-Backing.state) held.1
    (subst (λ (b : Backed _). IsStillBacking b → has_failed (backed_device b) ≡ true) c.in-Backing.is c.requires.failed tt)

pub returns-in-Ok-clause-course : goal.returns-in-Ok-clause-course
returns-in-Ok-clause-course g c = λ p from.
    let d = backing_device c.in-Backing.state in
    let world = g.S.Supervise.world c.args.supervisor.now in
    let told = Listed g.R.Runner.list g.R.Runner.told g.R.Runner.asked c.args.runner.now in
    let living = g.R.Runner.living c.args.runner.now in
    let at_stage = subst (λ (b : Backed _). IsAtBootStage p (backed_device b) world told living) c.in-Backing.is from in
    let t = c.in-Ok.ensures.trace p told living at_stage (orderly_at p d world told living at_stage.between.stands c.requires.orderly) in
    ended g.J.Journal.entries g.J.Journal.files c.args.disk.now c.close_failed.new.disk told.list told.list
    (g.K.Sink.held c.args.sink.now) (g.K.Sink.held c.close_failed.new.sink) p t.0
    (driven.Closed c.in-Ok.idle outcomes.UnableToRollback presences.Absent)
    (λ x h q. DrivenLeft x h q (g.S.Supervise.world c.close_failed.new.supervisor) told living)
    t.1 t.2 t.3

pub returns-in-Err-clause-course : goal.returns-in-Err-clause-course
returns-in-Err-clause-course g c = λ p from.
    let d = backing_device c.in-Backing.state in
    let world = g.S.Supervise.world c.args.supervisor.now in
    let told = Listed g.R.Runner.list g.R.Runner.told g.R.Runner.asked c.args.runner.now in
    let living = g.R.Runner.living c.args.runner.now in
    let at_stage = subst (λ (b : Backed _). IsAtBootStage p (backed_device b) world told living) c.in-Backing.is from in
    let t = c.in-Err.ensures.trace p told living at_stage (orderly_at p d world told living at_stage.between.stands c.requires.orderly) in
    given_up g.J.Journal.entries g.J.Journal.files c.args.disk.now c.close_failed.new.disk told.list told.list
    (g.K.Sink.held c.args.sink.now) (g.K.Sink.held c.close_failed.new.sink) p t.0 c.in-Err.over
    (λ x h q. DrivenLeft x h q (g.S.Supervise.world c.close_failed.new.supervisor) told living)
    t.1 t.2 t.3 t.4

pub returns-in-Err-clause-none : goal.returns-in-Err-clause-none
returns-in-Err-clause-none g c =
    let q = c.requires.from_state in
    no_living q.0 (backed_device c.args.backed) (g.S.Supervise.world c.args.supervisor.now)
    (Listed g.R.Runner.list g.R.Runner.told g.R.Runner.asked c.args.runner.now) (g.R.Runner.living c.args.runner.now) q.1
