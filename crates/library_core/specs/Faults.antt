-- What gathering the candidates answers.
use Rattle.std.specs.Prelude.{◌≡◌, ℕ, ◌<◌, ◌≤◌, List, length, All, Result, MatchResult, IsErrOf, ⊤}
use Rattle.nuc_base.specs.declared.platform.Platform.{Platform}
use Rattle.records.specs.declared.record.Origin.{Origin}
use Rattle.records.specs.Stored.{Item}
use Rattle.recipe_reader.specs.declared.candidate.Candidate.{Candidate}
use Rattle.library_core.specs.Sources.{Source, own, MayPass}
use Rattle.library_core.specs.Gathered.{most, AreGathered, IsFirstFaulty, HasSource, IsFirstDiffering, IsSecond}
use Rattle.library_core.specs.declared.fault.CandidatesFault.{CandidatesFault}
use Rattle.library_core.specs.declared.fault.CandidatesFault.TheVariants.{Library, TooManyRecipes, Recipe, RecipeDiffers, TwoRecipes, NoMemory}
use Rattle.library_core.specs.declared.library.LibraryFault.{LibraryFault}
use Rattle.library_core.specs.declared.library.LibraryFault.TheVariants as library

abbrev pub fault_of : LibraryFault → CandidatesFault
fault_of library.Failed = Library
fault_of library.NoMemory = NoMemory

-- what is refused once each recipe passed
abbrev pub IsClash : List Source → Platform → List (List ℕ) → CandidatesFault → Type 0
IsClash mine p recipes Library = ⊥
IsClash mine p recipes (TooManyRecipes n) = ⊥
IsClash mine p recipes (Recipe at fault) = ⊥
IsClash mine p recipes (RecipeDiffers name version) = HasSource name version (IsFirstDiffering mine p recipes)
IsClash mine p recipes (TwoRecipes name version) = HasSource name version (IsSecond mine p recipes)
IsClash mine p recipes NoMemory = ⊥

-- each exactly where it is the first; of the library's own fault and of want of memory nothing is said here
abbrev pub IsGatherRefusal : List Source → Platform → List (List ℕ) → CandidatesFault → Type 0
IsGatherRefusal mine p recipes Library = ⊤
IsGatherRefusal mine p recipes (TooManyRecipes n) = (n ≡ length recipes) × (most < length recipes)
IsGatherRefusal mine p recipes (Recipe at fault) = (length recipes ≤ most) × IsFirstFaulty p recipes at fault
IsGatherRefusal mine p recipes (RecipeDiffers name version) = (length recipes ≤ most) × All (MayPass p) recipes
    × IsClash mine p recipes (RecipeDiffers name version)
IsGatherRefusal mine p recipes (TwoRecipes name version) = (length recipes ≤ most) × All (MayPass p) recipes × IsClash mine p recipes (TwoRecipes name version)
IsGatherRefusal mine p recipes NoMemory = ⊤

-- the candidates, or the first refusal
abbrev pub Gathered : List (List ℕ) → Origin → List Item → Result (List Candidate) CandidatesFault → Type 0
Gathered recipes origin kept result = MatchResult result
    (λ cs. (length recipes ≤ most) × All (MayPass origin.platform) recipes × AreGathered (own origin kept) origin.platform recipes cs)
    (IsGatherRefusal (own origin kept) origin.platform recipes)

-- it is no answer for want of the library or of memory, so the recipes were counted
abbrev pub AreCounted : Result (List Candidate) CandidatesFault → Type 0
AreCounted result = (IsErrOf result Library → ⊥) × (IsErrOf result NoMemory → ⊥)
