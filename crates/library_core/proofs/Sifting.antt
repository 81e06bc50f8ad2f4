-- What a step makes of the candidates so far.
use Rattle.std.proofs.Common.{Bool, true, false, ◌≡◌, ℕ, ◌⊎◌, ◌+◌, ◌≤◌, List, [], ◌∷◌, ◌++◌, length, map, take, Ok, Err, Result, IfOk, IfErr, ◌≢◌, refl, sym}
use Rattle.std.proofs.Common.{ap, subst, ◌∙◌, inl, inr, arith}
use Rattle.std.specs.Prelude.{Option, MatchOption, nat_eq, ◌||◌}
use Rattle.std.specs.List.{list_any}
use Rattle.std.specs.Cmp.Lexicographic.{pointwise, bytes_decides}
use Rattle.std.proofs.lemmas.Bool.{and_parts, or_cases, false≢true}
use Rattle.nuc_base.proofs.Lists.{in_nil, in_cons, in_here, in_there}
use Rattle.nuc_base.specs.declared.platform.Platform.{Platform}
use Rattle.records.specs.declared.record.Origin.{Origin}
use Rattle.records.specs.Stored.{Item, item_view}
use Rattle.records.specs.declared.record.Item as code
use Rattle.tree_core.specs.Laws.{IsOneTree}
use Rattle.recipe_reader.specs.Recipes.{ReadsRecipe, IsFault}
use Rattle.recipe_reader.specs.Candidates.{HasClash}
use Rattle.recipe_reader.specs.Refused.{IsRefused}
use Rattle.recipe_reader.specs.declared.candidates.AddRefusal.{AddRefusal}
use Rattle.recipe_reader.specs.declared.candidates.AddRefusal.TheVariants as add
use Rattle.recipe_reader.specs.declared.fault.RecipeFault.{RecipeFault}
use Rattle.recipe_reader.specs.declared.fault.RecipeFault.TheVariants.{NoManifest, NoMemory as OutOfMemory}
use Rattle.recipe_reader.specs.declared.candidate.Candidate.{Candidate}
use Rattle.library_core.specs.Library.{most_given}
use Rattle.library_core.specs.Sources.{Source, source, own, IsSkipped, IsFaulty, MayPass}
use Rattle.library_core.specs.Gathered.{AreGathered}
use Rattle.library_core.specs.Faults.{IsClash}
use Rattle.library_core.specs.SoFar.{IsSoFar, IsOther, IsUnread, IsSifted, IsOf, is_of}
use Rattle.library_core.specs.SoFar.{IsAmongKept, IsClashOf, IsDiffering, IsRefusal, IsClashFault, JoinOutcome, IsJoined}
use Rattle.library_core.specs.SoFar.{IsRefusedAtOnce, IsStopped}
use Rattle.library_core.specs.declared.fault.CandidatesFault.{CandidatesFault}
use Rattle.library_core.specs.declared.fault.CandidatesFault.TheVariants.{Library, RecipeDiffers, NoMemory}
use Rattle.library_core.proofs.Elements.{length_added}
use Rattle.library_core.proofs.Readings.{reads_whole, faulty_whole}
use Rattle.library_core.proofs.Joining.{recipe_more, recipe_skipped, clash_found, clash_stays, taken_of}

fault_stays : (mine : List Source) (p : Platform) (before : List (List ℕ)) (b : List ℕ) (f : CandidatesFault) → (f ≡ NoMemory) ⊎ IsClash mine p before f →
    (f ≡ NoMemory) ⊎ IsClash mine p (before ++ b ∷ []) f
fault_stays mine p before b f (inl e) = inl e
fault_stays mine p before b f (inr h) = inr (clash_stays mine p before b f h)

joins : IsOneTree → (origin : Origin) (kept : List Item) (p : Platform) (before : List (List ℕ)) (b : List ℕ) (cs : List Candidate) (c : Candidate)
    (next : Result (List Candidate) CandidatesFault)
    → AreGathered (own origin kept) p before cs → IsOther p b c → JoinOutcome kept c cs next → IsSoFar (own origin kept) p (before ++ b ∷ []) next
joins one origin kept p before b cs c (Ok new) g o h = recipe_more one (own origin kept) p before b cs new c g h.0 h.1 o
joins one origin kept p before b cs c (Err f) g o (inl e) = inl e
joins one origin kept p before b cs c (Err f) g o (inr h) = inr (clash_found origin kept p before b cs c f g h.0 o h.1)

-- a recipe that is taken
pub takes : IsOneTree → (origin : Origin) (kept : List Item) (p : Platform) (before : List (List ℕ)) (b : List ℕ) (c : Candidate)
    (gathered next : Result (List Candidate) CandidatesFault)
    → IsSoFar (own origin kept) p before gathered → IsOther p b c → IsJoined kept c gathered next → IsSoFar (own origin kept) p (before ++ b ∷ []) next
takes one origin kept p before b c (Ok cs) next so o h = joins one origin kept p before b cs c next so o h
takes one origin kept p before b c (Err f) next so o h = subst (λ (r : Result (List Candidate) CandidatesFault). IsSoFar (own origin kept) p
    (before ++ b ∷ []) r) (sym h) (fault_stays (own origin kept) p before b f so)

-- a recipe that is skipped
pub skips : IsOneTree → (mine : List Source) (p : Platform) (before : List (List ℕ)) (b : List ℕ) (gathered : Result (List Candidate) CandidatesFault)
    → IsSoFar mine p before gathered → IsSkipped p b → IsSoFar mine p (before ++ b ∷ []) gathered
skips one mine p before b (Ok cs) so h = recipe_skipped one mine p before b cs so h
skips one mine p before b (Err f) so h = fault_stays mine p before b f so

-- the first bytes of a recipe that is taken are all of them
pub other_whole : (b bytes : List ℕ) (p : Platform) (c : Candidate) → bytes ≡ take most_given b → IsOther p bytes c → IsOther p b c
other_whole b bytes p c e o =
    let short : c.bytes ≡ take most_given b = o.bytes ∙ e in
    let read = subst (λ (s : List ℕ). ReadsRecipe s p (Ok c.recipe)) short o.read in
    record { bytes = short ∙ reads_whole b p c.recipe read; read = o.read; other = o.other }

pub passes_taken : (p : Platform) (b : List ℕ) (c : Candidate) → IsOther p b c → MayPass p b
passes_taken p b c o = inr (source c, taken_of p b c o)

pub joined_length : (kept : List Item) (c : Candidate) (gathered next : Result (List Candidate) CandidatesFault) (n : ℕ) → IsJoined kept c gathered next →
    IfOk gathered (λ cs. length cs ≤ n) → IfOk next (λ cs. length cs ≤ n + 1)
joined_length kept c (Ok cs) (Ok new) n h few = omega (arith, length_added cs new c h.0, few)
joined_length kept c (Ok cs) (Err f) n h few = tt
joined_length kept c (Err f) (Ok new) n h few = absurd (cc h)
joined_length kept c (Err f) (Err g) n h few = tt

pub same_length : (gathered : Result (List Candidate) CandidatesFault) (n : ℕ) → IfOk gathered (λ cs. length cs ≤ n) → IfOk gathered (λ cs. length cs ≤ n + 1)
same_length (Ok cs) n few = omega arith
same_length (Err f) n few = tt

-- what a fault of a reading comes to
pub unread_is : (p : Platform) (bytes slice : List ℕ) (f : RecipeFault) (r : Result (Option Candidate) RecipeFault) → slice ≡ bytes → (f ≡ OutOfMemory) ⊎
    IsFault slice p f → IsUnread f r → IsSifted p bytes r
unread_is p bytes slice f (Ok taken) same (inl e) h = let k = h.1 in absurd (cc (sym e ∙ k))
unread_is p bytes slice f (Ok taken) same (inr fault) h =
    let skipped : IsSkipped p bytes = inl (subst (λ (s : List ℕ). IsFault s p NoManifest) same (subst (IsFault slice p) h.1 fault)) in
    subst (λ (o : Option Candidate). MatchOption o (IsSkipped p bytes) (IsOther p bytes)) (sym h.0) skipped
unread_is p bytes slice f (Err g) same (inl e) h = inl (h.0 ∙ e)
unread_is p bytes slice f (Err g) same (inr fault) h =
    inr (subst (λ (s : List ℕ). IsFault s p g) same (subst (IsFault slice p) (sym h.0) fault), λ e. h.1 (sym h.0 ∙ e))

-- ---- refusals

pub differing : (cs : List Candidate) (c : Candidate) (refusal : AddRefusal) (f : CandidatesFault) → IsRefused cs c refusal → IsClashOf refusal f →
    IsDiffering cs c f
differing cs c (add.Clash back) f h e = inr (h.1, e ∙ ap (λ (d : Candidate). RecipeDiffers d.recipe.name d.recipe.version) h.0)
differing cs c (add.NoMemory back) f h e = inl e

pub decided : (kept : List Item) (cs : List Candidate) (c : Candidate) (refusal : AddRefusal) (f : CandidatesFault) → IsRefused cs c refusal →
    IsRefusal kept refusal f → (f ≡ NoMemory) ⊎ (HasClash cs c × IsClashFault kept c f)
decided kept cs c (add.Clash back) f h e = inr (h.1, subst (λ (d : Candidate). IsClashFault kept d f) h.0 e)
decided kept cs c (add.NoMemory back) f h e = inl e

-- ---- whether the device keeps a name and version

is_of_means : (c : Candidate) (i : Item) → is_of c i ≡ true → IsOf c i
is_of_means c i h =
    let p = and_parts (pointwise nat_eq i.name c.recipe.name) (pointwise nat_eq i.version c.recipe.version) h in
    ((bytes_decides i.name c.recipe.name).0 p.0, (bytes_decides i.version c.recipe.version).0 p.1)

is_of_holds : (c : Candidate) (i : Item) → IsOf c i → is_of c i ≡ true
is_of_holds c i h = rw ((bytes_decides i.name c.recipe.name).1 h.0, (bytes_decides i.version c.recipe.version).1 h.1) refl

pub keeps_found : (kept : List code.Item) (c : Candidate) → list_any (λ i. is_of c (item_view i)) kept ≡ true → IsAmongKept (map item_view kept) c
keeps_found [] c h = absurd (false≢true h)
keeps_found (i ∷ kept) c h = elim (or_cases (is_of c (item_view i)) (list_any (λ (j : code.Item). is_of c (item_view j)) kept) h) [
  | inl e ↦ (item_view i, in_here (item_view i) (map item_view kept), is_of_means c (item_view i) e)
  | inr r ↦ let k = keeps_found kept c r in (k.0, in_there (item_view i) (map item_view kept) k.0 k.1, k.2)
]

or_true : (b : Bool) → (b || true) ≡ true
or_true true = refl
or_true false = refl

pub keeps_shown : (kept : List code.Item) (c : Candidate) → IsAmongKept (map item_view kept) c → list_any (λ i. is_of c (item_view i)) kept ≡ true
keeps_shown [] c k = absurd (in_nil k.0 k.1)
keeps_shown (i ∷ kept) c k = elim (in_cons (item_view i) (map item_view kept) k.0 k.1) [
  | inl e ↦ rw (is_of_holds c (item_view i) (subst (IsOf c) (sym e) k.2)) refl
  | inr r ↦ rw (keeps_shown kept c (k.0, r, k.2)) (or_true (is_of c (item_view i)))
]

-- ---- faults

pub stops_at : (p : Platform) (b bytes : List ℕ) (n : ℕ) (f : RecipeFault) (r : CandidatesFault) → bytes ≡ take most_given b → (f ≡ OutOfMemory) ⊎
    IsFaulty p bytes f → IsStopped n f r → IsRefusedAtOnce p b n r
stops_at p b bytes n f r same why (inl h) = inl h.1
stops_at p b bytes n f r same (inl e) (inr h) = absurd (h.0 e)
stops_at p b bytes n f r same (inr faulty) (inr h) = inr (f, h.1, faulty_whole b p f (subst (λ (s : List ℕ). IsFaulty p s f) same faulty))

pub stopped_other : (n : ℕ) (f : RecipeFault) (r : CandidatesFault) → IsStopped n f r → r ≢ Library
stopped_other n f r (inl h) e = let k = sym h.1 ∙ e in cc
stopped_other n f r (inr h) e = let k = sym h.1 ∙ e in cc

decides_other : (kept : List Item) (c : Candidate) (f : CandidatesFault) → IsClashFault kept c f → f ≢ Library
decides_other kept c f (inl h) e = let k = sym h.1 ∙ e in cc
decides_other kept c f (inr h) e = let k = sym h.1 ∙ e in cc

pub joined_other : (kept : List Item) (c : Candidate) (gathered next : Result (List Candidate) CandidatesFault) → IsJoined kept c gathered next →
    IfErr gathered (λ f. f ≢ Library) → IfErr next (λ f. f ≢ Library)
joined_other kept c (Ok cs) (Ok new) h other = tt
joined_other kept c (Ok cs) (Err f) (inl e) other = λ k. let l = sym e ∙ k in cc
joined_other kept c (Ok cs) (Err f) (inr h) other = decides_other kept c f h.1
joined_other kept c (Err g) next h other = subst (λ (r : Result (List Candidate) CandidatesFault). IfErr r (λ f. f ≢ Library)) (sym h) other

clash_other : (mine : List Source) (p : Platform) (recipes : List (List ℕ)) (f : CandidatesFault) → (f ≡ NoMemory) ⊎ IsClash mine p recipes f → f ≢ Library
clash_other mine p recipes f (inl e) k = let l = sym e ∙ k in cc
clash_other mine p recipes f (inr h) k = subst (IsClash mine p recipes) k h

pub so_far_other : (mine : List Source) (p : Platform) (recipes : List (List ℕ)) (r : Result (List Candidate) CandidatesFault) → IsSoFar mine p recipes r →
    IfErr r (λ f. f ≢ Library)
so_far_other mine p recipes (Ok cs) h = tt
so_far_other mine p recipes (Err f) h = clash_other mine p recipes f h
