use Rattle.std.proofs.Common.{◌≡◌, take, Some}
use Rattle.std.specs.List.{Contains}
use Rattle.recipe_reader.specs.Members.{members}
use Rattle.recipe_reader.specs.Sets.{name_of, IsMetBy}
use Rattle.recipe_reader.specs.declared.wanted.Wanted.{Wanted}
use Rattle.why_not.proofs.facts.wanted_against.Given as goal

abbrev pub invariant-loop-one : goal.invariant-loop-one
invariant-loop-one l = (w : Wanted) → Contains (take l.one-index l.wanted) w → name_of (members l.candidates) l.place ≡ Some w.name →
    IsMetBy (members l.candidates) w.name w.range l.place
