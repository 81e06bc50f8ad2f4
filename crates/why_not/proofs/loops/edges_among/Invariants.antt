use Rattle.std.proofs.Common.{take}
use Rattle.recipe_reader.specs.Members.{members}
use Rattle.why_not.specs.Edges.{AreEdges}
use Rattle.why_not.proofs.loops.edges_among.Given as goal

abbrev pub invariant-loop-place : goal.invariant-loop-place
invariant-loop-place l = AreEdges (members l.candidates) (take l.place-index l.places) l.places l.edges.items
