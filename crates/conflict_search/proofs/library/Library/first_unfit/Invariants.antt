use Rattle.std.proofs.Common.{◌≡◌, ℕ, None, Some, take}
use Rattle.std.specs.Prelude.{slice_index_or}
use Rattle.std.specs.List.{Contains}
use Rattle.conflict_search.specs.declared.demands.Demand.{Demand}
use Rattle.conflict_search.specs.Stands.{members_in, IsMetIn}
use Rattle.conflict_search.proofs.library.Library.first_unfit.Given as goal

abbrev pub invariant-loop-demand : goal.invariant-loop-demand
invariant-loop-demand l = (d : Demand) (q : ℕ) → Contains (take l.demand-index l.demands) d → slice_index_or l.board.chosen.items d.number None ≡ Some q →
    IsMetIn (members_in l.self) d.range.now q
