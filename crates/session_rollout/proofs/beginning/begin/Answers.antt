use Rattle.std.specs.Prelude.{List}
use Rattle.std.proofs.Common.{◌≡◌, true, false, sym, subst}
use Rattle.deploy_state.specs.States.{booting_device}
use Rattle.components.specs.declared.kinds.Prepared.{Prepared}
use Rattle.session_admission.proofs.Serving.{plan_ready}
use Rattle.session_rollout.specs.Backwards.{HasWayBack}
use Rattle.session_rollout.proofs.Fresh.{no_next, some_next}
use Rattle.session_rollout.proofs.beginning.begin.Goals as goal

pub stop_and_boot-requires-clause-next : goal.stop_and_boot-requires-clause-next
stop_and_boot-requires-clause-next g c =
    some_next _ c.next.result c.is_some.result (booting_device c.args.state) c.requires.held.1 c.requires.fresh c.next.ensures (sym c.is_some.ensures)
    c.if-is_some.true

pub end_boots-requires-clause-through : goal.end_boots-requires-clause-through
end_boots-requires-clause-through g c = (
  no_next _ c.next.result c.is_some.result (booting_device c.args.state) c.requires.held.1 c.requires.fresh c.next.ensures (sym c.is_some.ensures)
      c.if-is_some.false,
  c.requires.fresh,
)

pub end_boots-requires-clause-items : goal.end_boots-requires-clause-items
end_boots-requires-clause-items g c =
    plan_ready c.args.ready.boots c.args.ready.backs (g.S.Supervise.coming c.args.ready.items) (g.S.Supervise.coming c.args.ready.earlier)
    (booting_device c.args.state) c.requires.held.1 c.requires.ready

pub end_boots-requires-clause-ready : goal.end_boots-requires-clause-ready
end_boots-requires-clause-ready g c =
    let items = g.S.Supervise.coming c.args.ready.items in
    let earlier = g.S.Supervise.coming c.args.ready.earlier in
    subst (λ (l : List Prepared). HasWayBack (booting_device c.args.state) l earlier) (sym c.as_slice.ensures) (c.args.ready.boots, items, c.requires.ready)
