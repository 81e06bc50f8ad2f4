use Rattle.std.proofs.Common.{◌≡◌, ◌≤◌}
use Rattle.conflict_search.specs.States.{IsSearchState}
use Rattle.conflict_search.proofs.library.Library.spread_value.Given as goal

abbrev pub invariant-looking : goal.invariant-looking
invariant-looking l = record {
  state : IsSearchState l.self l.state;
  places : l.state.board.places.items ≡ l.fn.state.board.places.items;
  falls : l.left ≤ l.fn.left;
}

abbrev pub decreases-looking : goal.decreases-looking
decreases-looking l = l.left
