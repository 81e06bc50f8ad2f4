use Rattle.std.proofs.Common.{take}
use Rattle.conflict_search.specs.Edges.{AreEdgesOf}
use Rattle.conflict_search.proofs.cycles.edges_of.Given as goal

abbrev pub invariant-loop-demand : goal.invariant-loop-demand
invariant-loop-demand l = AreEdgesOf (take l.demand-index l.board.asked.items) l.board.chosen.items l.edges.items
