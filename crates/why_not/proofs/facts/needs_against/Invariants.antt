use Rattle.std.proofs.Common.{◌≡◌, take, Some}
use Rattle.std.specs.List.{Contains}
use Rattle.recipe_reader.specs.Members.{members}
use Rattle.recipe_reader.specs.Sets.{name_of, IsMetBy}
use Rattle.recipe_reader.specs.declared.recipe.Dependency.{Dependency}
use Rattle.why_not.proofs.facts.needs_against.Given as goal

abbrev pub invariant-loop-one : goal.invariant-loop-one
invariant-loop-one l = (d : Dependency) → Contains (take l.one-index l.needs) d → name_of (members l.candidates) l.place ≡ Some d.name →
    IsMetBy (members l.candidates) d.name d.range l.place
