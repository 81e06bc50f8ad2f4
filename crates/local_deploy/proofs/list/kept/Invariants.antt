use Rattle.std.proofs.Common.{◌≡◌, ◌≤◌, ℕ, List, length, take}
use Rattle.std.specs.Cmp.Lexicographic.{slice_cmp}
use Rattle.std.specs.List.Sorted.{IsStrictlySortedBy}
use Rattle.std.specs.Map.{keys_of}
use Rattle.std.specs.Ordering.{nat_cmp}
use Rattle.local_deploy.specs.Lists.{range_at}
use Rattle.local_deploy.proofs.Lookups.{kept_at}
use Rattle.local_deploy.proofs.list.kept.Given as goal

abbrev pub invariant-loop-requirement : goal.invariant-loop-requirement
invariant-loop-requirement l = record {
  ranges : (q : List ℕ) → range_at q l.kept.entries ≡ kept_at l.remove (take l.requirement-index l.asked) q;
  few : length l.kept.entries ≤ l.requirement-index;
  rises : IsStrictlySortedBy (slice_cmp nat_cmp) (keys_of l.kept.entries);
}
