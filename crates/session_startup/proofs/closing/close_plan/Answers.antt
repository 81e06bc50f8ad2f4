use Rattle.nuc_base.specs.declared.kinds.Outcome.TheVariants as outcomes
use Rattle.device.specs.declared.staged.Stage.TheVariants as stages
use Rattle.deploy_state.specs.States.{activating_device}
use Rattle.session_startup.specs.Closing.{just_closed}
use Rattle.session_startup.proofs.Closed.{at_fault, close_follows, closed_quits, completes, ends_up, kept_owners, left_closed, pends_in}
use Rattle.session_startup.proofs.closing.close_plan.Goals as goal

pub close_deployment-requires-clause-may : goal.close_deployment-requires-clause-may
close_deployment-requires-clause-may g c =
    let q = c.requires.from_state in
    completes q.0 (activating_device c.args.state) (g.S.Supervise.world c.args.supervisor.now) q.1 q.2 c.requires.held.1 q.3

pub returns-clause-trace : goal.returns-clause-trace
returns-clause-trace g c = λ p told living r up.
    let d = activating_device c.args.state in
    let o = outcomes.Successful in
    let world = g.S.Supervise.world c.args.supervisor.now in
    let now = g.S.Supervise.world c.close_deployment.new.supervisor in
    let pending = pends_in stages.Activating d c.requires.held.1 in
    let t = c.close_deployment.ensures.trace p told.list (close_follows p d _ o world told living r (ends_up p d _ world told living r up)) in (
      just_closed o,
      t.0,
      t.1,
      left_closed g.J.Journal.entries g.D.Disk.may_leave c.close_deployment.new.disk p d _ o world now told living pending r c.close_deployment.result t.2
          c.close_deployment.ensures.steadied,
      at_fault c.close_deployment.result
          (closed_quits p d _ o world now told living r (kept_owners p d _ world now told living r c.close_deployment.ensures.owners)),
    )
