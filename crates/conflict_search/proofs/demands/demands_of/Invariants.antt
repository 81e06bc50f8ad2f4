use Rattle.std.proofs.Common.{map, take, Some}
use Rattle.recipe_reader.specs.Members.{members, need}
use Rattle.conflict_search.specs.Claims.{claims_from, AreDemands}
use Rattle.conflict_search.proofs.demands.demands_of.Given as goal

abbrev pub invariant-loop-need : goal.invariant-loop-need
invariant-loop-need l = AreDemands (members l.candidates) (claims_from (Some l.place) (map need (take l.need-index l.needs))) l.demands.items
