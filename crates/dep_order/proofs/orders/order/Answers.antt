use Rattle.std.proofs.Common.{[], subst, sym}
use Rattle.dep_order.specs.Orders.{IsWholeOrder}
use Rattle.dep_order.proofs.Cycles.{order_acyclic, order_ends}
use Rattle.dep_order.proofs.orders.order.Goals as goal

pub returns-in_default-clause-order : goal.returns-in_default-clause-order
returns-in_default-clause-order c = subst (IsWholeOrder c.args.edges.now) (sym c.new.ensures) (record {
  order = c.in-Ok.ensures.order;
  whole =
      c.in_default.ensures;
})

pub returns-in_default-clause-acyclic : goal.returns-in_default-clause-acyclic
returns-in_default-clause-acyclic c = order_acyclic c.args.edges.now c.in-Ok.taken.list.items c.requires c.in-Ok.ensures.order c.in_default.ensures

pub cycle_from-requires-clause-stuck : goal.cycle_from-requires-clause-stuck
cycle_from-requires-clause-stuck c = order_ends c.args.edges.now [] c.in-Ok.taken.list.items c.in-Ok.ensures.order
