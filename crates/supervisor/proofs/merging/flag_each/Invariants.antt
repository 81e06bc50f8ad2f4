use Rattle.std.proofs.Common.{◌≡◌, take, map, vec_len}
use Rattle.std.specs.Prelude.{vec_capacity}
use Rattle.components.specs.Changes.{is_replacing}
use Rattle.supervisor.proofs.merging.flag_each.Given as goal

abbrev pub invariant-loop-slot : goal.invariant-loop-slot
invariant-loop-slot l = record {
  done : l.flags.items ≡ map is_replacing (take l.slot-index l.slots);
  many : vec_len l.flags ≡ l.slot-index;
  capacity : vec_capacity l.flags ≡ vec_capacity l.fn.flags;
}
