use Rattle.std.proofs.Common.{◌≡◌, ◌≤◌}
use Rattle.conflict_search.specs.States.{IsSearchState}
use Rattle.conflict_search.proofs.library.Library.spread.Given as goal

abbrev pub invariant-spreading : goal.invariant-spreading
invariant-spreading l = record {
  state : IsSearchState l.self l.state;
  places : l.state.board.places.items ≡ l.fn.state.board.places.items;
  falls : l.left ≤ l.fn.left;
}

abbrev pub decreases-spreading : goal.decreases-spreading
decreases-spreading l = l.left
