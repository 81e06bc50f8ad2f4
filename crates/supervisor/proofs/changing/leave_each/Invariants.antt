use Rattle.std.proofs.Common.{◌≡◌, take, drop, map}
use Rattle.components.specs.Changes.{leaving}
use Rattle.supervisor.proofs.changing.leave_each.Given as goal

abbrev pub invariant-loop-slot : goal.invariant-loop-slot
invariant-loop-slot l = record {
  done : take l.slot-index l.slots ≡ map leaving (take l.slot-index l.fn.slots);
  rest : drop l.slot-index l.slots ≡ drop l.slot-index l.fn.slots;
}
