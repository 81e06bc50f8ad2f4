use Rattle.std.proofs.Common.{◌≡◌, false}
use Rattle.std.specs.List.{All}
use Rattle.conflict_search.proofs.endless.all_false.Given as goal

abbrev pub invariant-loop-name : goal.invariant-loop-name
invariant-loop-name l = All (λ b. b ≡ false) l.table.items
