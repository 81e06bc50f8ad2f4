use Rattle.std.proofs.Common.{arith}
use Rattle.components.specs.Changes.{forgetting}
use Rattle.components.proofs.Each.{more_done}
use Rattle.supervisor.proofs.changing.forget_each.Goals as goal

pub loop-slot-preserved : goal.loop-slot-preserved
loop-slot-preserved c =
    let a = more_done forgetting c.loop-slot.slots c.args.slots.now c.loop-slot.slot-index c.slot-item.result c.forget.new.self
    (omega (arith, c.loop-slot.auto.slots, c.loop-slot-test.true)) c.forget.ensures c.loop-slot.invariant.done c.loop-slot.invariant.rest in
    record { done = a.0; rest = a.1 }
