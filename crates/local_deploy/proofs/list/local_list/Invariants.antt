use Rattle.std.proofs.Common.{◌≡◌, ◌≤◌, ◌+◌, ◌++◌, ℕ, List, length}
use Rattle.std.specs.Prelude.{None, if◌then◌else◌}
use Rattle.std.specs.Cmp.Lexicographic.{slice_cmp}
use Rattle.std.specs.List.{list_any}
use Rattle.std.specs.List.Sorted.{IsStrictlySortedBy}
use Rattle.std.specs.Map.{keys_of}
use Rattle.std.specs.Ordering.{nat_cmp}
use Rattle.std.specs.Str.{bytes_eq}
use Rattle.std.specs.Vec.Iter.{into_iter_items}
use Rattle.local_deploy.specs.Lists.{asked_in, range_at}
use Rattle.local_deploy.proofs.Lookups.{put_all}
use Rattle.local_deploy.proofs.list.local_list.Given as goal

abbrev pub invariant-loop-name : goal.invariant-loop-name
invariant-loop-name l = record {
  ranges : (q : List ℕ) → range_at q l.list.entries
      ≡ put_all (λ n. if list_any (bytes_eq n) l.remove then None else range_at n (asked_in l.asked)) l.yielded q;
  few : length l.list.entries ≤ length l.asked + length l.yielded;
  rises : IsStrictlySortedBy (slice_cmp nat_cmp) (keys_of l.list.entries);
  all : l.yielded ++ into_iter_items l.name-iterator ≡ l.fn.merge;
}
