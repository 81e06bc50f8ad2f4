use Rattle.std.proofs.Common.{below_more}
use Rattle.dep_order.proofs.orders.first_missing.Goals as goal

pub loop-place-preserved : goal.loop-place-preserved
loop-place-preserved c = below_more _ _ c.loop-place.invariant (c.has.ensures.0 c.if-not-has.false)
