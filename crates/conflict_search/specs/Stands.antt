-- What a library has, and what trying a place says.
use Rattle.std.specs.Prelude.{ℕ, List, Some, IfSome}
use Rattle.recipe_reader.specs.Members.{Need, Member, members}
use Rattle.npm_ranges.specs.Ranges.{IsInRange}
use Rattle.recipe_reader.specs.Sets.{asked, version_of, needs_of}
use Rattle.conflict_search.specs.Claims.{claims_from, AreDemands}
use Rattle.conflict_search.specs.Conflicts.{IsConflictWith, IsInRangeWith}
use Rattle.conflict_search.specs.declared.library.Library.{Library}
use Rattle.conflict_search.specs.declared.trial.Trial.{Trial}
use Rattle.conflict_search.specs.declared.trial.Trial.TheVariants.{Fits, Refused}

-- the candidates of a library, and what is wanted of it
abbrev pub members_in : Library → List Member
members_in l = members l.candidates.now

abbrev pub wanted_in : Library → List Need
wanted_in l = asked l.wanted.now

-- the version at the place is in the range
abbrev pub IsMetIn : List Member → List ℕ → ℕ → Type 0
IsMetIn ms range q = IfSome (version_of ms q) (λ v. IsInRange v range)

-- what trying one more place says: it is in range with what it depends on, or why not
abbrev pub IsTrial : List Member → List Need → List ℕ → ℕ → Trial → Type 0
IsTrial ms wanted taken place (Fits demands) = IsInRangeWith ms wanted taken place × AreDemands ms (claims_from (Some place) (needs_of ms place)) demands.items
IsTrial ms wanted taken place (Refused conflict) = IsConflictWith ms wanted taken place conflict.items
