use Rattle.std.proofs.Common.{◌≡◌, length}
use Rattle.conflict_search.proofs.Words.{AreWordsAt, less_word}
use Rattle.conflict_search.proofs.sets.remove_at.Given as goal

abbrev pub invariant-loop-at : goal.invariant-loop-at
invariant-loop-at l = (length l.set ≡ length l.fn.set) × AreWordsAt less_word l.from l.at l.fn.set l.other l.set
