use Rattle.std.proofs.Common.{◌≡◌, sym, subst}
use Rattle.nuc_base.specs.declared.kinds.Outcome.{Outcome}
use Rattle.device.specs.declared.staged.Stage.TheVariants as stages
use Rattle.deploy_state.proofs.Steps.{may_roll}
use Rattle.deploy_state.specs.States.{idle_device, rolling_device}
use Rattle.histories.specs.TraceEvents.{records_of}
use Rattle.session_boots.specs.Ends.{ResultLeft, HasLines}
use Rattle.session_boots.specs.Traces.{IsTrace}
use Rattle.session_startup.specs.Closing.{MayCloseNow, just_closed}
use Rattle.session_startup.proofs.Closed.{at_fault, close_follows, closed_quits, ends_set, kept_owners, left_closed, pends_in, rolls, set_outcome}
use Rattle.session_startup.proofs.closing.close_set.Goals as goal

pub close_deployment-requires-clause-may : goal.close_deployment-requires-clause-may
close_deployment-requires-clause-may g c = may_roll (rolling_device c.args.state) c.requires.held.1

pub returns-clause-trace : goal.returns-clause-trace
returns-clause-trace g c = λ p told living broken r up.
    let d = rolling_device c.args.state in
    let o = set_outcome broken in
    let world = g.S.Supervise.world c.args.supervisor.now in
    let now = g.S.Supervise.world c.close_deployment.new.supervisor in
    let disk = c.close_deployment.new.disk in
    let same = rolls p d broken world told living c.requires.held.1 r in
    let follows = close_follows p d broken o world told living r (ends_set p d broken world told living r up) in
    let t = subst (λ (x : Outcome).
    IsTrace g.J.Journal.entries g.J.Journal.files g.D.Disk.may_leave g.D.Disk.moment g.D.Disk.left_since c.args.disk.now disk told.list told.list p
    (just_closed x)
    × HasLines (g.K.Sink.held c.args.sink.now) (g.K.Sink.held c.close_deployment.new.sink) p.device (records_of (just_closed x)) c.close_deployment.result
    × ResultLeft g.J.Journal.entries g.D.Disk.may_leave disk p (just_closed x) (λ s q. idle_device s ≡ q.device) c.close_deployment.result) same
    (c.close_deployment.ensures.trace p told.list (subst (λ (x : Outcome). MayCloseNow p d x) (sym same) follows)) in (
      just_closed o,
      t.0,
      t.1,
      left_closed g.J.Journal.entries g.D.Disk.may_leave disk p d broken o world now told living
          (pends_in stages.Rolling d c.requires.held.1) r c.close_deployment.result t.2 c.close_deployment.ensures.steadied,
      at_fault c.close_deployment.result
          (closed_quits p d broken o world now told living r (kept_owners p d broken world now told living r c.close_deployment.ensures.owners)),
    )
