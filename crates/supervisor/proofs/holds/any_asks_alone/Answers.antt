use Rattle.std.proofs.Common.{arith, refl}
use Rattle.supervisor.proofs.Held.{asked_all, asked_next, asked_none}
use Rattle.supervisor.proofs.holds.any_asks_alone.Goals as goal

pub loop-slot-init : goal.loop-slot-init
loop-slot-init c = asked_none c.args.slots.now

pub loop-slot-preserved : goal.loop-slot-preserved
loop-slot-preserved c = asked_next c.args.slots.now c.loop-slot.slot-index c.slot-item.result (omega arith) c.slot-item.is c.loop-slot.invariant
    (c.if-asks_alone.ensures refl)

pub returns : goal.returns
returns c = λ e. asked_all c.args.slots.now c.loop-slot.slot-index (omega arith) c.loop-slot.invariant
