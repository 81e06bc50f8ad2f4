use Rattle.std.proofs.Common.{◌∙◌}
use Rattle.supervisor.proofs.Held.{adds_more, adds_none}
use Rattle.supervisor.proofs.holds.hold_rest.Goals as goal

pub loop-turn-init : goal.loop-turn-init
loop-turn-init c = record { adds = adds_none c.args.flags.now; held = λ a. a }

pub hold_by-first-requires-clause-many : goal.hold_by-first-requires-clause-many
hold_by-first-requires-clause-many c = c.loop-turn.invariant.adds.many ∙ c.requires.many

pub loop-turn-preserved : goal.loop-turn-preserved
loop-turn-preserved c = record {
  adds = adds_more c.args.flags.now c.loop-turn.flags c.hold_by-first.new.flags c.loop-turn.invariant.adds c.hold_by-first.ensures.holds.adds;
  held = λ a. c.hold_by-first.ensures.held (c.loop-turn.invariant.held a);
}
