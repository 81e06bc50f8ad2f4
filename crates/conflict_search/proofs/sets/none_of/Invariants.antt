use Rattle.std.proofs.Common.{◌≡◌, length}
use Rattle.std.specs.List.{All}
use Rattle.conflict_search.proofs.sets.none_of.Given as goal

abbrev pub invariant-loop-word : goal.invariant-loop-word
invariant-loop-word l = record { len : length l.set.items ≡ l._word; each : All (λ w. w ≡ 0) l.set.items }
