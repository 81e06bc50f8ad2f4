use Rattle.std.proofs.Common.{◌≡◌, ◌+◌, vec_len}
use Rattle.std.specs.Prelude.{vec_capacity}
use Rattle.components.specs.Changes.{with_newcomers}
use Rattle.supervisor.proofs.merging.place_all.Given as goal

abbrev pub invariant-rest : goal.invariant-rest
invariant-rest l = record {
  placed : with_newcomers l.coming.items l.room.items ≡ with_newcomers l.fn.coming.items l.fn.room.items;
  sum : vec_len l.room + vec_len l.coming ≡ vec_len l.fn.room + vec_len l.fn.coming;
  many : vec_len l.flags ≡ vec_len l.room;
  room : vec_capacity l.room ≡ vec_capacity l.fn.room;
  flags : vec_capacity l.flags ≡ vec_capacity l.fn.flags;
}

abbrev pub decreases-rest : goal.decreases-rest
decreases-rest l = vec_len l.coming
