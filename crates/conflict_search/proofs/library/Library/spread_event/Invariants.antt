use Rattle.std.proofs.Common.{◌≡◌, ◌≤◌}
use Rattle.conflict_search.specs.States.{IsSearchState}
use Rattle.conflict_search.proofs.library.Library.spread_event.Given as goal

abbrev pub invariant-loop-value : goal.invariant-loop-value
invariant-loop-value l = record {
  state : IsSearchState l.self l.state;
  places : l.state.board.places.items ≡ l.fn.state.board.places.items;
  falls : l.left ≤ l.fn.left;
}
