use Rattle.std.proofs.Common.{◌∙◌, sym}
use Rattle.components.proofs.Meets.{place_here, place_skip}
use Rattle.supervisor.proofs.places.place_of.Goals as goal

pub loop-at-preserved : goal.loop-at-preserved
loop-at-preserved c = c.loop-at.invariant ∙ place_skip c.loop-at.at c.loop-at.at c.args.name.now c.args.slots.now c.if-is_named_at.ensures

pub returns-then-is_named_at : goal.returns-then-is_named_at
returns-then-is_named_at c = place_here c.loop-at.at c.loop-at.at c.args.name.now c.args.slots.now c.if-is_named_at.ensures ∙ sym c.loop-at.invariant
