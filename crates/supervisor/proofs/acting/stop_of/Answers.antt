use Rattle.std.proofs.Common.{false, sym, true}
use Rattle.components.specs.Flags.{at_moment}
use Rattle.supervisor.proofs.Held.{asks_by, stop_not_ready, stop_ready}
use Rattle.supervisor.proofs.acting.stop_of.Goals as goal

pub returns-in-None-clause-may : goal.returns-in-None-clause-may
returns-in-None-clause-may c = stop_not_ready (at_moment c.args.slots.now 0 true) c.args.slot.now c.in-None.ensures.due

pub is_held_for-requires : goal.is_held_for-requires
is_held_for-requires c = λ h. c.requires (asks_by c.args.slot.now c.in-Some.after c.in-Some.ensures.is c.in-Some.ensures.due h)

pub returns-then-is_held_for-clause-may : goal.returns-then-is_held_for-clause-may
returns-then-is_held_for-clause-may c = stop_ready (at_moment c.args.slots.now 0 true) c.args.slot.now c.in-Some.after true c.in-Some.ensures.is
    c.in-Some.ensures.due c.if-is_held_for.ensures

pub returns-else-is_held_for-clause-may : goal.returns-else-is_held_for-clause-may
returns-else-is_held_for-clause-may c = stop_ready (at_moment c.args.slots.now 0 true) c.args.slot.now c.in-Some.after false c.in-Some.ensures.is
    c.in-Some.ensures.due c.if-is_held_for.ensures
