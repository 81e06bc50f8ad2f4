use Rattle.std.proofs.Common.{◌≡◌, take, drop}
use Rattle.components.specs.Marks.{marked}
use Rattle.components.specs.Flags.{with_flags, may_by}
use Rattle.supervisor.proofs.marks.mark.Given as goal

abbrev pub invariant-loop-at : goal.invariant-loop-at
invariant-loop-at l = record {
  done : take l.at l.slots ≡ take l.at (marked (may_by l.anyway) (with_flags l.fn.slots l.flags));
  rest : drop l.at l.slots ≡ drop l.at l.fn.slots;
}
