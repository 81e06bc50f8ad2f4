use Rattle.std.proofs.Common.{◌≡◌, take, drop, map}
use Rattle.components.specs.Changes.{fate}
use Rattle.components.specs.Merges.{unmet}
use Rattle.components.specs.Readied.{coming_of}
use Rattle.supervisor.proofs.merging.meet_each.Given as goal

abbrev pub invariant-loop-slot : goal.invariant-loop-slot
invariant-loop-slot l = record {
  done : take l.slot-index l.slots ≡ map (fate (map coming_of l.fn.coming.items)) (take l.slot-index l.fn.slots);
  rest : drop l.slot-index l.slots ≡ drop l.slot-index l.fn.slots;
  left : l.coming.items ≡ unmet (take l.slot-index l.fn.slots) l.fn.coming.items;
}
