use Rattle.std.proofs.Common.{take}
use Rattle.recipe_reader.specs.Members.{members}
use Rattle.why_not.specs.Edges.{AddsEdges}
use Rattle.why_not.proofs.loops.add_edges.Given as goal

abbrev pub invariant-loop-other : goal.invariant-loop-other
invariant-loop-other l = AddsEdges (members l.candidates) l.place (take l.other-index l.places) l.fn.edges.items l.edges.items
