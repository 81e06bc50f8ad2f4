use Rattle.std.proofs.Common.{◌≤◌, length, All}
use Rattle.records.specs.Stored.{item_view}
use Rattle.library_core.specs.Sources.{IsKept}
use Rattle.test_library.proofs.rows.items.Given as goal

abbrev pub invariant-loop-letter : goal.invariant-loop-letter
invariant-loop-letter l = (length l.kept ≤ l.letter-index) × All (λ i. IsKept l.platform (item_view i)) l.kept
