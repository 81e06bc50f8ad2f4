use Rattle.std.proofs.Common.{◌≡◌, length}
use Rattle.conflict_search.proofs.facts.no_marks.Given as goal

abbrev pub invariant-loop-number : goal.invariant-loop-number
invariant-loop-number l = length l.marks.items ≡ l._number
