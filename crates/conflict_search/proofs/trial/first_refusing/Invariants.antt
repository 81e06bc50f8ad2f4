use Rattle.std.proofs.Common.{take}
use Rattle.std.specs.List.{Contains}
use Rattle.npm_ranges.specs.Ranges.{IsInRange}
use Rattle.conflict_search.specs.declared.demands.Demand.{Demand}
use Rattle.conflict_search.proofs.trial.first_refusing.Given as goal

abbrev pub invariant-loop-demand : goal.invariant-loop-demand
invariant-loop-demand l = (d : Demand) → Contains (take l.demand-index l.row) d → IsInRange l.version d.range.now
