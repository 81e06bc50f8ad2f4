use Rattle.std.proofs.Common.{arith}
use Rattle.device.proofs.FirstPlaces.{may_count}
use Rattle.device.proofs.marking.count.Goals as goal

pub bounds-pending-at : goal.bounds-pending-at
bounds-pending-at c = let h = may_count c.args.pending.now.failures c.args.at c.requires in omega (arith, h.0)

pub bounds-pending-at-2 : goal.bounds-pending-at-2
bounds-pending-at-2 c = let h = may_count c.args.pending.now.failures c.args.at c.requires in omega (arith, h.0)

pub overflow_add-pending : goal.overflow_add-pending
overflow_add-pending c = let h = may_count c.args.pending.now.failures c.args.at c.requires in omega (arith, h.1)
