use Rattle.session_startup.specs.Closing.{just_closed}
use Rattle.session_startup.proofs.Closed.{at_fault, pends_still}
use Rattle.session_transitions.proofs.Closing.{boot_bare, boot_closes, boot_left, ends_failed, items_close, items_given_up, items_left}
use Rattle.session_transitions.proofs.failing.close_failed.Goals as goal

pub returns-clause-trace : goal.returns-clause-trace
returns-clause-trace g c = λ p told living from orderly.
    let d = g.C.PendingState.device c.args.state in
    let o = g.C.Close.outcome c.args.state in
    let world = g.S.Supervise.world c.args.supervisor.now in
    let end = c.close_deployment in
    let t = end.ensures.trace p told.list (boot_closes p d o world told living from (ends_failed p o c.requires.failed)) in (
      just_closed o,
      t.0,
      t.1,
      boot_left p d o world told living from g.J.Journal.entries g.D.Disk.may_leave end.new.disk (g.S.Supervise.world end.new.supervisor) orderly
          (pends_still d o c.requires.may) end.result t.2 end.ensures.steadied,
      at_fault end.result (boot_bare p d o world told living from),
    )

pub returns-clause-standing : goal.returns-clause-standing
returns-clause-standing g c = λ p told living from.
    let d = g.C.PendingState.device c.args.state in
    let o = g.C.Close.outcome c.args.state in
    let world = g.S.Supervise.world c.args.supervisor.now in
    let end = c.close_deployment in
    let now = g.S.Supervise.world end.new.supervisor in
    let t = end.ensures.trace p told.list (items_close p d o world told living from (ends_failed p o c.requires.failed)) in (
      just_closed o,
      t.0,
      t.1,
      items_left p d o world told living from g.J.Journal.entries g.D.Disk.may_leave end.new.disk now (pends_still d o c.requires.may) end.result t.2
          end.ensures.steadied,
      at_fault end.result (items_given_up p d o world told living from now end.ensures.owners),
    )
