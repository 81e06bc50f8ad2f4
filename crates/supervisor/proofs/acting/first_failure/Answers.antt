use Rattle.std.proofs.Common.{refl}
use Rattle.components.specs.Turns.{owes}
use Rattle.supervisor.proofs.Deeds.{more_none}
use Rattle.supervisor.proofs.acting.first_failure.Goals as goal

pub loop-at-preserved : goal.loop-at-preserved
loop-at-preserved c = more_none owes c.loop-at.at c.args.slots.now c.loop-at.invariant (c.in_default.ensures.none refl)
