use Rattle.std.proofs.Common.{length}
use Rattle.conflict_search.specs.Stands.{members_in, wanted_in}
use Rattle.conflict_search.specs.Terms.{AreNogoods}
use Rattle.conflict_search.specs.Facts.{IsReached}
use Rattle.conflict_search.proofs.library.Library.add_wishes.Given as goal

abbrev pub invariant-loop-wish : goal.invariant-loop-wish
invariant-loop-wish l = record {
  nogoods : AreNogoods (members_in l.self) (wanted_in l.self) l.nogoods;
  reached : IsReached (length l.self.candidates.now) l.reached;
}
