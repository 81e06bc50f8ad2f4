use Rattle.std.proofs.Common.{◌≡◌, None, length}
use Rattle.std.specs.List.{All}
use Rattle.conflict_search.proofs.board.no_choice.Given as goal

abbrev pub invariant-loop-number : goal.invariant-loop-number
invariant-loop-number l = record { len : length l.list.items ≡ l._number; each : All (λ o. o ≡ None) l.list.items }
