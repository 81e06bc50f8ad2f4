-- What is known while candidates are gathered.
use Rattle.std.specs.Prelude.{◌≡◌, ◌≢◌, ◌⊎◌, ℕ, List, Result, Err, MatchResult, MatchOption, Option, None, Contains, Bool, ◌&&◌, nat_eq}
use Rattle.std.specs.Cmp.Lexicographic.{pointwise}
use Rattle.nuc_base.specs.declared.platform.Platform.{Platform}
use Rattle.records.specs.Stored.{Item}
use Rattle.recipe_reader.specs.Members.{members, IsRising}
use Rattle.recipe_reader.specs.Candidates.{IsReadFor, IsAdded, HasClash, nucleus_name}
use Rattle.recipe_reader.specs.declared.candidate.Candidate.{Candidate}
use Rattle.recipe_reader.specs.declared.candidates.AddRefusal.{AddRefusal}
use Rattle.recipe_reader.specs.declared.candidates.AddRefusal.TheVariants as add
use Rattle.recipe_reader.specs.declared.fault.RecipeFault.{RecipeFault}
use Rattle.recipe_reader.specs.declared.fault.RecipeFault.TheVariants.{NoManifest, NoMemory as OutOfMemory}
use Rattle.library_core.specs.Sources.{Source, IsFaulty, IsSkipped}
use Rattle.library_core.specs.Gathered.{AreGathered}
use Rattle.library_core.specs.Faults.{IsClash}
use Rattle.library_core.specs.declared.fault.CandidatesFault.{CandidatesFault}
use Rattle.library_core.specs.declared.fault.CandidatesFault.TheVariants.{Recipe, RecipeDiffers, TwoRecipes, NoMemory}

-- the candidates of these recipes, or the first clash among them
abbrev pub IsSoFar : List Source → Platform → List (List ℕ) → Result (List Candidate) CandidatesFault → Type 0
IsSoFar mine p recipes result = MatchResult result (AreGathered mine p recipes) (λ fault. (fault ≡ NoMemory) ⊎ IsClash mine p recipes fault)

-- a candidate of these bytes, which is not the built-in one
pub record IsOther (p : Platform) (b : List ℕ) (c : Candidate) : Type 0 where
  pub bytes : c.bytes ≡ b
  pub read : IsReadFor p c
  pub other : c.recipe.name ≢ nucleus_name

-- a fault is no candidate where there is no manifest for the platform
abbrev pub IsUnread : RecipeFault → Result (Option Candidate) RecipeFault → Type 0
IsUnread fault result = MatchResult result (λ taken. (taken ≡ None) × (fault ≡ NoManifest)) (λ f. (f ≡ fault) × (fault ≢ NoManifest))

-- what sifting answers
abbrev pub IsSifted : Platform → List ℕ → Result (Option Candidate) RecipeFault → Type 0
IsSifted p bytes result = MatchResult result
    (λ taken. MatchOption taken (IsSkipped p bytes) (IsOther p bytes))
    (λ fault. (fault ≡ OutOfMemory) ⊎ IsFaulty p bytes fault)

-- the item has the candidate's name and version
abbrev pub IsOf : Candidate → Item → Type 0
IsOf c i = (i.name ≡ c.recipe.name) × (i.version ≡ c.recipe.version)

abbrev pub is_of : Candidate → Item → Bool
is_of c i = pointwise nat_eq i.name c.recipe.name && pointwise nat_eq i.version c.recipe.version

abbrev pub IsAmongKept : List Item → Candidate → Type 0
IsAmongKept kept c = (i : Item) × Contains kept i × IsOf c i

-- ---- refusals

-- of a kept item
abbrev pub IsClashOf : AddRefusal → CandidatesFault → Type 0
IsClashOf (add.Clash c) fault = fault ≡ RecipeDiffers c.recipe.name c.recipe.version
IsClashOf (add.NoMemory c) fault = fault ≡ NoMemory

abbrev pub IsDiffering : List Candidate → Candidate → CandidatesFault → Type 0
IsDiffering cs c fault = (fault ≡ NoMemory) ⊎ (HasClash cs c × (fault ≡ RecipeDiffers c.recipe.name c.recipe.version))

-- of a recipe: by whether the device keeps its name and version
abbrev pub IsClashFault : List Item → Candidate → CandidatesFault → Type 0
IsClashFault kept c fault =
    (IsAmongKept kept c × (fault ≡ RecipeDiffers c.recipe.name c.recipe.version))
    ⊎ ((IsAmongKept kept c → ⊥) × (fault ≡ TwoRecipes c.recipe.name c.recipe.version))

abbrev pub IsRefusal : List Item → AddRefusal → CandidatesFault → Type 0
IsRefusal kept (add.Clash c) fault = IsClashFault kept c fault
IsRefusal kept (add.NoMemory c) fault = fault ≡ NoMemory

-- what joining a candidate answers, where nothing clashed before
abbrev pub JoinOutcome : List Item → Candidate → List Candidate → Result (List Candidate) CandidatesFault → Type 0
JoinOutcome kept c cs result = MatchResult result
    (λ new. IsAdded cs c new × IsRising (members new))
    (λ fault. (fault ≡ NoMemory) ⊎ (HasClash cs c × IsClashFault kept c fault))

abbrev pub IsJoined : List Item → Candidate → Result (List Candidate) CandidatesFault → Result (List Candidate) CandidatesFault → Type 0
IsJoined kept c gathered result = MatchResult gathered (λ cs. JoinOutcome kept c cs result) (λ fault. result ≡ Err fault)

-- what is refused at once
abbrev pub IsRefusedAtOnce : Platform → List ℕ → ℕ → CandidatesFault → Type 0
IsRefusedAtOnce p bytes at f = (f ≡ NoMemory) ⊎ ((fault : RecipeFault) × (f ≡ Recipe at fault) × IsFaulty p bytes fault)

abbrev pub IsStopped : ℕ → RecipeFault → CandidatesFault → Type 0
IsStopped at fault f = ((fault ≡ OutOfMemory) × (f ≡ NoMemory)) ⊎ ((fault ≢ OutOfMemory) × (f ≡ Recipe at fault))
