use Rattle.std.proofs.Common.{map, take, None}
use Rattle.recipe_reader.specs.Members.{members}
use Rattle.recipe_reader.specs.Sets.{wanted_need}
use Rattle.conflict_search.specs.Claims.{claims_from, AreDemands}
use Rattle.conflict_search.proofs.demands.demands_wanted.Given as goal

abbrev pub invariant-loop-want : goal.invariant-loop-want
invariant-loop-want l = AreDemands (members l.candidates) (claims_from None (map wanted_need (take l.want-index l.wanted))) l.demands.items
