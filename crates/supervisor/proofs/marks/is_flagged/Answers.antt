use Rattle.std.proofs.Common.{arith, ◌∙◌, sym}
use Rattle.supervisor.proofs.Flags.{flagged_skip, flagged_here}
use Rattle.supervisor.proofs.marks.is_flagged.Goals as goal

pub loop-at-preserved : goal.loop-at-preserved
loop-at-preserved c = c.loop-at.invariant ∙ flagged_skip c.args.name.now c.args.slots.now c.args.flags.now c.loop-at.at
    (omega (arith, c.requires, c.loop-at-test.true)) c.if-is_flagged_at.ensures

pub returns-then-is_flagged_at : goal.returns-then-is_flagged_at
returns-then-is_flagged_at c = flagged_here c.args.name.now c.args.slots.now c.args.flags.now c.loop-at.at (omega (arith, c.requires, c.loop-at-test.true))
    c.if-is_flagged_at.ensures ∙ sym c.loop-at.invariant
