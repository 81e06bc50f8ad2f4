use Rattle.std.proofs.Common.{◌≤◌}
use Rattle.conflict_search.specs.States.{IsReady}
use Rattle.conflict_search.proofs.library.Library.run.Given as goal

abbrev pub invariant-attempts : goal.invariant-attempts
invariant-attempts l = record {
  ready : IsReady l.self l.state;
  rises : l.fn.tries ≤ l.tries;
}

abbrev pub decreases-attempts : goal.decreases-attempts
decreases-attempts l = l.left
