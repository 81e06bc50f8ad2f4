use Rattle.std.proofs.Common.{◌≤◌}
use Rattle.conflict_search.specs.States.{IsSearchState}
use Rattle.conflict_search.proofs.library.Library.go_on.Given as goal

abbrev pub invariant-walking : goal.invariant-walking
invariant-walking l = record {
  state : IsSearchState l.self l.state;
  falls : l.left ≤ l.fn.left;
  rises : l.fn.tries ≤ l.tries;
}

abbrev pub decreases-walking : goal.decreases-walking
decreases-walking l = l.left
