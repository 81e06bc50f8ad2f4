use Rattle.std.proofs.Common.{◌≡◌, ◌≤◌}
use Rattle.conflict_search.specs.States.{IsSearchState}
use Rattle.conflict_search.proofs.library.Library.begin_nogoods.Given as goal

abbrev pub invariant-beginning : goal.invariant-beginning
invariant-beginning l = record {
  state : IsSearchState l.self l.state;
  places : l.state.board.places.items ≡ l.fn.state.board.places.items;
  falls : l.left ≤ l.fn.left;
}

abbrev pub decreases-beginning : goal.decreases-beginning
decreases-beginning l = l.left
