use Rattle.std.proofs.Common.{arith}
use Rattle.supervisor.proofs.Flags.{passes_none, passes_next, spreads_of}
use Rattle.supervisor.proofs.marks.spread_once.Goals as goal

pub loop-at-init : goal.loop-at-init
loop-at-init c = passes_none c.args.slots.now c.args.flags.now

pub loop-at-preserved : goal.loop-at-preserved
loop-at-preserved c =
    let m = c.loop-at.invariant.many in
    rw c.either-grew.ensures (passes_next c.args.slots.now c.args.flags.now c.loop-at.flags c.join_at-joined.new.flags c.loop-at.grew c.join_at-joined.result
    c.loop-at.at (omega (arith, m, c.requires.many)) c.loop-at.invariant c.join_at-joined.ensures.joined c.join_at-joined.ensures.flags)

pub returns : goal.returns
returns c = spreads_of c.args.slots.now c.args.flags.now c.loop-at.flags c.loop-at.grew c.loop-at.at c.requires.many (omega arith) c.loop-at.invariant
