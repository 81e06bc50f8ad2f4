use Rattle.std.proofs.Common.{length, get_or}
use Rattle.std.specs.List.{All}
use Rattle.conflict_search.specs.Stands.{members_in, wanted_in}
use Rattle.conflict_search.specs.Terms.{AreNogoods}
use Rattle.conflict_search.specs.Facts.{IsGroup}
use Rattle.conflict_search.proofs.library.Library.add_versions.Given as goal

abbrev pub invariant-loop-place : goal.invariant-loop-place
invariant-loop-place l = record {
  nogoods : AreNogoods (members_in l.self) (wanted_in l.self) l.nogoods;
  groups : All (IsGroup (members_in l.self) (get_or l.self.names.now.first.items l.number 0)) l.groups.items;
}
