use Rattle.std.proofs.Common.{◌∙◌, arith}
use Rattle.components.proofs.Numbers.{number_next}
use Rattle.supervisor.proofs.asks.next_number.Goals as goal

pub loop-slot-preserved : goal.loop-slot-preserved
loop-slot-preserved c = c.loop-slot.invariant ∙ number_next c.args.last c.args.slots.now c.loop-slot.slot-index c.slot-item.result c.loop-slot.least
    c.least_number-least.result c.children.result.now (omega arith) c.slot-item.is c.children.ensures c.least_number-least.ensures
