use Rattle.std.proofs.Common.{◌<◌}
use Rattle.std.specs.List.{All}
use Rattle.dep_order.specs.declared.Need.{Need}
use Rattle.test_ranges.proofs.orders.edges_of.Given as goal

abbrev pub invariant-loop-from : goal.invariant-loop-from
invariant-loop-from l = All (λ (e : Need). (e.from < l.nodes) × (e.to < l.nodes)) l.list
