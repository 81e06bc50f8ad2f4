use Rattle.std.proofs.Common.{take, map}
use Rattle.recipe_reader.specs.Members.{members, need}
use Rattle.why_not.specs.Fronts.{listed, AddsOpen}
use Rattle.why_not.proofs.front.add_needed.Given as goal

abbrev pub invariant-loop-one : goal.invariant-loop-one
invariant-loop-one l = AddsOpen (members l.candidates) l.taken (map (λ d. d.name) (map need (take l.one-index l.needs))) (listed l.fn.names.items)
    (listed l.names.items)
