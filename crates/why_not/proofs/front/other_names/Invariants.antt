use Rattle.std.proofs.Common.{take}
use Rattle.recipe_reader.specs.Members.{members}
use Rattle.why_not.specs.Fronts.{listed, LeavesOut}
use Rattle.why_not.proofs.front.other_names.Given as goal

abbrev pub invariant-loop-name : goal.invariant-loop-name
invariant-loop-name l = LeavesOut (members l.candidates) l.place (listed (take l.name-index l.names)) (listed l.others.items)
