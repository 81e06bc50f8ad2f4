use Rattle.std.proofs.Common.{◌∙◌, sym}
use Rattle.supervisor.proofs.Owners.{owner_here, owner_skip}
use Rattle.supervisor.proofs.asks.owner_of.Goals as goal

pub returns-in-Some-clause-owner : goal.returns-in-Some-clause-owner
returns-in-Some-clause-owner c = owner_here c.loop-at.at c.loop-at.at c.args.number c.args.slots.now c.in-Some.child.now c.in-Some.ensures ∙ sym
    c.loop-at.invariant

pub loop-at-preserved : goal.loop-at-preserved
loop-at-preserved c = c.loop-at.invariant ∙ owner_skip c.loop-at.at c.loop-at.at c.args.number c.args.slots.now c.in_default.ensures
