use Rattle.std.proofs.Common.{◌≡◌, [], length, Vec, Global}
use Rattle.std.specs.List.{All}
use Rattle.conflict_search.specs.declared.demands.Demand.{Demand}
use Rattle.conflict_search.proofs.board.no_rows.Given as goal

abbrev pub invariant-loop-number : goal.invariant-loop-number
invariant-loop-number l = record { len : length l.list.items ≡ l._number; each : All (λ (v : Vec Demand Global). v.items ≡ []) l.list.items }
