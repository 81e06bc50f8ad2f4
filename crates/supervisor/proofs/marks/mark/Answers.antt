use Rattle.std.proofs.Common.{arith}
use Rattle.components.specs.Flags.{may_by}
use Rattle.supervisor.proofs.Flags.{marks_more, marks_whole}
use Rattle.supervisor.proofs.marks.mark.Goals as goal

pub loop-at-preserved : goal.loop-at-preserved
loop-at-preserved c =
    let a = marks_more (may_by c.args.anyway) c.args.slots.now c.loop-at.slots c.args.flags.now c.loop-at.at _ c.restart_by.new.self c.requires
    (omega (arith, c.loop-at.auto.slots, c.loop-at-test.true)) c.restart_by.ensures c.loop-at.invariant.done c.loop-at.invariant.rest in
    record { done = a.0; rest = a.1 }

pub returns : goal.returns
returns c = marks_whole (may_by c.args.anyway) c.args.slots.now c.loop-at.slots c.args.flags.now c.loop-at.at c.requires (omega arith)
    (omega arith) c.loop-at.invariant.done
