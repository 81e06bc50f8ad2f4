use Rattle.std.proofs.Common.{◌≡◌, ◌++◌, length, map}
use Rattle.std.specs.Cmp.Lexicographic.{slice_cmp}
use Rattle.std.specs.List.Sorted.{IsStrictlySortedBy}
use Rattle.std.specs.Map.{keys_of}
use Rattle.std.specs.Ordering.{nat_cmp}
use Rattle.local_deploy.specs.Documents.{root_for}
use Rattle.local_deploy.proofs.Rooting.{AreAmong, IsLeft}
use Rattle.local_deploy.proofs.document.roots_of.Given as goal

abbrev pub invariant-names : goal.invariant-names
invariant-names l = record {
  made : l.roots.items ++ map (root_for l.fn.updates.entries) l.list.entries ≡ map (root_for l.fn.updates.entries) l.fn.list.entries;
  left : IsLeft l.fn.updates.entries l.fn.list.entries l.list.entries l.updates.entries;
  rises : IsStrictlySortedBy (slice_cmp nat_cmp) (keys_of l.list.entries);
  among : AreAmong l.list.entries l.fn.list.entries;
}

abbrev pub decreases-names : goal.decreases-names
decreases-names l = length l.list.entries
