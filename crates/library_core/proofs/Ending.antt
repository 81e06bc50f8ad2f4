-- What the walk over a library's recipes comes to.
use Rattle.std.proofs.Common.{◌≡◌, ℕ, ◌+◌, ◌<◌, ◌≤◌, List, [], ◌∷◌, ◌++◌, length, take, get_or, Result, Ok, Err, IfOk, map, sym, ap, subst, ◌∙◌, inl, inr}
use Rattle.std.proofs.Common.{arith}
use Rattle.std.specs.List.{All, Contains}
use Rattle.std.specs.Result.{IsErrAnd}
use Rattle.std.proofs.lemmas.List.{take_all, take_more}
use Rattle.std.proofs.lemmas.List.Elements.{All-contains, Contains-push_cases}
use Rattle.nuc_base.specs.declared.platform.Platform.{Platform}
use Rattle.records.specs.declared.record.Origin.{Origin}
use Rattle.records.specs.Stored.{Item}
use Rattle.recipe_reader.specs.declared.candidate.Candidate.{Candidate}
use Rattle.nuc_base.proofs.Lists.{in_there, all_from_in, from_map, in_map}
use Rattle.recipe_reader.specs.Candidates.{IsAlike}
use Rattle.library_core.specs.Sources.{Source, source, nucleus, kept_source, own, MayPass}
use Rattle.library_core.specs.Gathered.{most, AreGathered, IsGatheredOf, KeepBytes}
use Rattle.library_core.specs.Faults.{AreCounted, IsClash, IsGatherRefusal, Gathered, fault_of}
use Rattle.library_core.specs.declared.library.LibraryFault.{LibraryFault}
use Rattle.library_core.specs.declared.library.LibraryFault.TheVariants as library
use Rattle.library_core.specs.SoFar.{IsSoFar, IsRefusedAtOnce}
use Rattle.library_core.specs.declared.fault.CandidatesFault.{CandidatesFault}
use Rattle.library_core.specs.declared.fault.CandidatesFault.TheVariants.{Library, TooManyRecipes, Recipe, RecipeDiffers, TwoRecipes, NoMemory}
use Rattle.library_core.proofs.Elements.{alike_one}

all_push : {X : Type 0} (P : X → Type 0) (xs : List X) (x : X) → All P xs → P x → All P (xs ++ x ∷ [])
all_push P xs x all one = all_from_in P (xs ++ x ∷ []) (λ y i. elim (Contains-push_cases xs x y i) [
  | inl old ↦ All-contains P xs y all old
  | inr e ↦ subst P e
      one
])

-- one recipe more
pub passed_more : (p : Platform) (recipes : List (List ℕ)) (i : ℕ) → i < length recipes → All (MayPass p) (take i recipes) → MayPass p (get_or recipes i []) →
    All (MayPass p) (take (i + 1) recipes)
passed_more p recipes i below all one = subst (λ (l : List (List ℕ)). All (MayPass p) l) (sym (take_more recipes i [] below))
    (all_push (MayPass p) (take i recipes) (get_or recipes i []) all one)

pub so_far_more : (origin : Origin) (kept : List Item) (recipes : List (List ℕ)) (i : ℕ) (r : Result (List Candidate) CandidatesFault) → i < length recipes
    → IsSoFar (own origin kept) origin.platform (take i recipes ++ get_or recipes i [] ∷ []) r →
    IsSoFar (own origin kept) origin.platform (take (i + 1) recipes) r
so_far_more origin kept recipes i r below h = subst (λ (l : List (List ℕ)). IsSoFar (own origin kept) origin.platform l r)
    (sym (take_more recipes i [] below)) h

-- a recipe that is refused at once
refuses_at : (origin : Origin) (kept : List Item) (recipes : List (List ℕ)) (i : ℕ) (f : CandidatesFault) → length recipes ≤ most → i < length recipes →
    All (MayPass origin.platform) (take i recipes) → IsRefusedAtOnce origin.platform (get_or recipes i []) i f
    → IsGatherRefusal (own origin kept) origin.platform recipes f
refuses_at origin kept recipes i f few below all (inl e) = subst (IsGatherRefusal (own origin kept) origin.platform recipes) (sym e) tt
refuses_at origin kept recipes i f few below all (inr h) = subst (IsGatherRefusal (own origin kept) origin.platform recipes) (sym h.1)
    (few, record { within = below; before = all; faulty = h.2 })

pub stopped_gathered : (origin : Origin) (kept : List Item) (recipes : List (List ℕ)) (i : ℕ) (f : CandidatesFault)
    (r : Result (List Candidate) CandidatesFault) → IsErrAnd r (λ e. e ≡ f)
    → length recipes ≤ most → i < length recipes → All (MayPass origin.platform) (take i recipes) → IsRefusedAtOnce origin.platform (get_or recipes i []) i f →
    Gathered recipes origin kept r
stopped_gathered origin kept recipes i f (Ok cs) h few below all stops = absurd h
stopped_gathered origin kept recipes i f (Err e) h few below all stops = subst (IsGatherRefusal (own origin kept) origin.platform recipes) (sym h)
    (refuses_at origin kept recipes i f few below all stops)

-- all of them
clash_refuses : (origin : Origin) (kept : List Item) (recipes : List (List ℕ)) (f : CandidatesFault) → length recipes ≤ most →
    All (MayPass origin.platform) recipes → IsClash (own origin kept) origin.platform recipes f → IsGatherRefusal (own origin kept) origin.platform recipes f
clash_refuses origin kept recipes Library few all h = absurd h
clash_refuses origin kept recipes (TooManyRecipes n) few all h = absurd h
clash_refuses origin kept recipes (Recipe n f) few all h = absurd h
clash_refuses origin kept recipes (RecipeDiffers name version) few all h = (few, all, h)
clash_refuses origin kept recipes (TwoRecipes name version) few all h = (few, all, h)
clash_refuses origin kept recipes NoMemory few all h = absurd h

whole_gathered : (origin : Origin) (kept : List Item) (recipes : List (List ℕ)) (r : Result (List Candidate) CandidatesFault) → length recipes ≤ most →
    All (MayPass origin.platform) recipes → IsSoFar (own origin kept) origin.platform recipes r → Gathered recipes origin kept r
whole_gathered origin kept recipes (Ok cs) few all h = (few, all, h)
whole_gathered origin kept recipes (Err f) few all (inl e) = subst (IsGatherRefusal (own origin kept) origin.platform recipes) (sym e) tt
whole_gathered origin kept recipes (Err f) few all (inr h) = clash_refuses origin kept recipes f few all h

pub ended_gathered : (origin : Origin) (kept : List Item) (recipes : List (List ℕ)) (i : ℕ) (r : Result (List Candidate) CandidatesFault) →
    length recipes ≤ i → length recipes ≤ most → All (MayPass origin.platform) (take i recipes) → IsSoFar (own origin kept) origin.platform (take i recipes) r
    → Gathered recipes origin kept r
ended_gathered origin kept recipes i r past few all h =
    let e = take_all i recipes past in
    whole_gathered origin kept recipes r few (subst (λ (l : List (List ℕ)). All (MayPass origin.platform) l) e all)
    (subst (λ (l : List (List ℕ)). IsSoFar (own origin kept) origin.platform l r) e h)

pub more_room : (r : Result (List Candidate) CandidatesFault) (n m : ℕ) → n ≤ m → IfOk r (λ cs. length cs ≤ n) → IfOk r (λ cs. length cs ≤ m)
more_room (Ok cs) n m le h = omega arith
more_room (Err f) n m le h = tt

-- the candidates at the end are gathered from the recipes that were given
pub so_far_of : (origin : Origin) (kept : List Item) (given : List (List ℕ)) (r : Result (List Candidate) CandidatesFault) →
    IsSoFar (own origin kept) origin.platform given r → IfOk r (IsGatheredOf origin kept)
so_far_of origin kept given (Ok cs) h = (given, h)
so_far_of origin kept given (Err f) h = tt

kept_bytes_of : (origin : Origin) (kept : List Item) (given : List (List ℕ)) (cs : List Candidate) → AreGathered (own origin kept) origin.platform given cs →
    KeepBytes kept cs
kept_bytes_of origin kept given cs g i c there here name version =
    let s = kept_source i in
    let mine : Contains (own origin kept) s = in_there (nucleus origin.nucleus) (map kept_source kept) s (in_map kept_source kept i there) in
    let x = from_map source cs s ((g.whole s).1 (inl mine)) in
    let alike : IsAlike c x.0 = record {
      name = name ∙ sym (ap (λ (y : Source). y.name) x.2);
      version = version ∙ sym (ap (λ (y : Source). y.version) x.2);
    } in
    ap (λ (d : Candidate). d.bytes) (alike_one cs c x.0 g.rising here x.1 alike) ∙ ap (λ (y : Source). y.bytes) x.2

-- and those of a kept item's name and version have its recipe
pub keep_bytes : (origin : Origin) (kept : List Item) (given : List (List ℕ)) (r : Result (List Candidate) CandidatesFault) →
    IsSoFar (own origin kept) origin.platform given r → IfOk r (KeepBytes kept)
keep_bytes origin kept given (Ok cs) h = kept_bytes_of origin kept given cs h
keep_bytes origin kept given (Err f) h = tt

-- where `?` hands on another fault than the library's own, the library did not fail
pub handed_quiet : {T : Type 0} (r : Result (List Candidate) CandidatesFault) (f : LibraryFault) → IsErrAnd r (λ e. e ≡ fault_of f) → (r ≡ Err Library → ⊥) →
    ◌≡◌ {A = Result T LibraryFault} (Err f) (Err library.Failed) → ⊥
handed_quiet (Ok cs) f h other e = absurd h
handed_quiet (Err g) library.Failed h other e = other (ap Err h)
handed_quiet (Err g) library.NoMemory h other e = cc e

-- nor were the recipes counted
pub not_counted : (r : Result (List Candidate) CandidatesFault) (f : LibraryFault) → IsErrAnd r (λ e. e ≡ fault_of f) → AreCounted r → ⊥
not_counted (Ok cs) f h counted = absurd h
not_counted (Err e) library.Failed h counted = counted.0 (ap Err h)
not_counted (Err e) library.NoMemory h counted = counted.1 (ap Err h)
