use Rattle.std.proofs.Common.{refl, true}
use Rattle.components.specs.Flags.{at_moment}
use Rattle.components.specs.Turns.{may_act}
use Rattle.supervisor.proofs.Deeds.{more_none}
use Rattle.supervisor.proofs.acting.first_deed.Goals as goal

pub loop-at-preserved : goal.loop-at-preserved
loop-at-preserved c = more_none (may_act (at_moment c.args.slots.now c.args.moment true)) c.loop-at.at c.args.slots.now c.loop-at.invariant
    (c.in_default.ensures.none refl)
