-- The candidates of what a device keeps, item by item.
use Rattle.std.proofs.Common.{◌≡◌, ◌⊎◌, ℕ, ◌+◌, ◌<◌, ◌≤◌, List, [], ◌∷◌, ◌++◌, length, map, take, drop, get_or, refl, sym, ap, subst, ◌∙◌, inl, inr, arith}
use Rattle.std.specs.List.{All, Contains}
use Rattle.std.proofs.lemmas.List.{map_more, take_all, take-append-drop, map-append, get_or-map, length-map}
use Rattle.nuc_base.proofs.Tables.{map_next}
use Rattle.nuc_base.specs.declared.platform.Platform.{Platform}
use Rattle.records.specs.declared.record.Origin.{Origin}
use Rattle.records.specs.Stored.{Item, item_view}
use Rattle.records.specs.declared.record.Item as code
use Rattle.recipe_reader.specs.Members.{members, IsRising}
use Rattle.recipe_reader.specs.Candidates.{IsReadFor, IsAdded, IsNucleus}
use Rattle.recipe_reader.specs.declared.candidate.Candidate.{Candidate}
use Rattle.recipe_reader.proofs.BuiltIn.{alone}
use Rattle.library_core.specs.Sources.{Source, source, nucleus, kept_source, own, IsKept}
use Rattle.library_core.specs.Gathered.{AreGathered, IsFirstOwnClash}
use Rattle.library_core.specs.Faults.{IsClash}
use Rattle.std.proofs.Common.{Result, Ok, Err}
use Rattle.std.specs.Result.{IsErrAnd}
use Rattle.library_core.specs.SoFar.{IsSoFar, IsDiffering}
use Rattle.library_core.specs.declared.fault.CandidatesFault.{CandidatesFault}
use Rattle.library_core.specs.declared.fault.CandidatesFault.TheVariants.{NoMemory}
use Rattle.library_core.proofs.Elements.{length_added}
use Rattle.library_core.proofs.Joining.{AreOf, only_nucleus, own_more, own_gathered, sources_agree, against}

-- the built-in source and those of the first items
abbrev pub first_own : List ℕ → List Item → ℕ → List Source
first_own version items i = nucleus version ∷ map kept_source (take i items)

pub record AreOwn (version : List ℕ) (p : Platform) (items : List Item) (i : ℕ) (cs : List Candidate) : Type 0 where
  pub are : AreOf (Contains (first_own version items i)) p cs
  pub few : length cs ≤ i + 1

pub own_start : (version : List ℕ) (p : Platform) (items : List Item) (cs : List Candidate) (c : Candidate) → cs ≡ c ∷ [] → IsNucleus version c →
    AreOwn version p items 0 cs
own_start version p items cs c is n = record {
  are = only_nucleus version p cs c is (subst (λ (l : List Candidate). IsRising (members l)) (sym is) (alone version c n).rising) n;
  few = subst (λ (l : List Candidate). length l ≤ 0 + 1) (sym is) (omega arith);
}

pub own_next : (version : List ℕ) (p : Platform) (items : List Item) (i : ℕ) (x : Item) (cs new : List Candidate) (c : Candidate)
    → i < length items → x ≡ get_or items i x → AreOwn version p items i cs → IsAdded cs c new → IsRising (members new) → IsReadFor p c →
    source c ≡ kept_source x → AreOwn version p items (i + 1) new
own_next version p items i x cs new c below at h added rising read is =
    let more : map kept_source (take (i + 1) items) ≡ map kept_source (take i items) ++ kept_source x ∷ [] =
    map_more kept_source items i x below ∙ ap (λ (y : Item). map kept_source (take i items) ++ kept_source y ∷ []) (sym at) in record {
      are = subst (λ (l : List Source). AreOf (Contains (nucleus version ∷ l)) p new) (sym more)
          (own_more (first_own version items i) p cs new c (kept_source x) h.are added rising read is);
      few = omega (arith, length_added cs new c added, h.few);
    }

-- the whole list, where the loop ends
pub own_end : (origin : Origin) (kept items : List Item) (i : ℕ) (cs : List Candidate) → items ≡ kept → length items ≤ i →
    AreOwn origin.nucleus origin.platform items i cs → AreGathered (own origin kept) origin.platform [] cs
own_end origin kept items i cs same past h =
    own_gathered (own origin kept) origin.platform cs
    (subst (λ (l : List Item). AreOf (Contains (nucleus origin.nucleus ∷ map kept_source l)) origin.platform cs) (take_all i items past ∙ same) h.are)

split_at : (items : List Item) (i : ℕ) (x : Item) → i < length items → x ≡ get_or items i x → map kept_source items ≡ map kept_source (take i items)
    ++ kept_source x ∷ map kept_source (drop (i + 1) items)
split_at items i x below at =
    ap (map kept_source) (sym (take-append-drop i items)) ∙ map-append kept_source (take i items) (drop i items)
    ∙ ap (λ (l : List Source). map kept_source (take i items) ++ l) (map_next kept_source items i x below at)

-- a clash with what stood there before
pub own_clash : (origin : Origin) (kept items : List Item) (i : ℕ) (x : Item) (cs : List Candidate) (c : Candidate) (f : CandidatesFault)
    → items ≡ kept → i < length items → x ≡ get_or items i x → AreOwn origin.nucleus origin.platform items i cs → source c ≡ kept_source x → IsDiffering cs c f
    → (f ≡ NoMemory) ⊎ IsClash (own origin kept) origin.platform [] f
own_clash origin kept items i x cs c f same below at h is (inl e) = inl e
own_clash origin kept items i x cs c f same below at h is (inr d) =
    let first : IsFirstOwnClash (own origin kept) (source c) = record {
      before = first_own origin.nucleus items i;
      after = map kept_source (drop (i + 1) items);
      is = ap (λ (l : List Source). nucleus origin.nucleus ∷ l) (ap (map kept_source) (sym same) ∙ split_at items i x below at
          ∙ ap (λ (s : Source). map kept_source (take i items) ++ s ∷ map kept_source (drop (i + 1) items)) (sym is));
      agree = sources_agree (Contains (first_own origin.nucleus items i)) origin.platform cs h.are;
      against = against (Contains (first_own origin.nucleus items i)) origin.platform cs c h.are d.0;
    } in
    inr (subst (λ (g : CandidatesFault). IsClash (own origin kept) origin.platform [] g) (sym d.1) (source c, refl, refl, inl first))

pub kept_at : (p : Platform) (kept items : List Item) (i : ℕ) (x : Item) → items ≡ kept → i < length items → x ≡ get_or items i x → All (IsKept p) kept →
    IsKept p x
kept_at p kept items i x same below at all =
    let h : All (IsKept p) items = subst (λ (l : List Item). All (IsKept p) l) (sym same) all in
    subst (IsKept p) (sym at) (h i x below)

-- the items as they are seen, place by place
pub seen_below : (items : List code.Item) (i : ℕ) → i < length items → i < length (map item_view items)
seen_below items i below = omega (arith, below, length-map items item_view)

pub seen_at : (items : List code.Item) (i : ℕ) (x : code.Item) → i < length items → x ≡ get_or items i x → item_view x ≡ get_or (map item_view items) i
    (item_view x)
seen_at items i x below at = ap item_view at ∙ sym (get_or-map item_view items i x (item_view x) below)

pub seen_past : (items : List code.Item) (i : ℕ) → length items ≤ i → length (map item_view items) ≤ i
seen_past items i past = omega (arith, past, length-map items item_view)

-- a clash that `?` hands on
pub handed_so : (mine : List Source) (p : Platform) (recipes : List (List ℕ)) (r : Result (List Candidate) CandidatesFault) (f : CandidatesFault) →
    IsErrAnd r (λ e. e ≡ f) → (f ≡ NoMemory) ⊎ IsClash mine p recipes f → IsSoFar mine p recipes r
handed_so mine p recipes (Ok cs) f h k = absurd h
handed_so mine p recipes (Err e) f h k = subst (λ (x : CandidatesFault). (x ≡ NoMemory) ⊎ IsClash mine p recipes x) (sym h) k
