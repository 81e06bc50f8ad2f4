use Rattle.std.proofs.Common.{◌≡◌, length}
use Rattle.std.specs.Prelude.{bit_and, bit_or}
use Rattle.conflict_search.proofs.Words.{AreWordsAt}
use Rattle.conflict_search.proofs.sets.join_at.Given as goal

abbrev pub invariant-loop-at : goal.invariant-loop-at
invariant-loop-at l = (length l.set ≡ length l.fn.set) × AreWordsAt bit_or l.from l.at l.fn.set l.other l.set
