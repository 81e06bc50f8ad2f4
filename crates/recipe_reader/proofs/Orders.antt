-- The order of candidates, and what it says of lists that rise.
use Rattle.std.proofs.Common.{◌≡◌, false, ℕ, zero, suc, ◌+◌, ◌<◌, ◌≤◌, ◌⊎◌, List, [], ◌∷◌, length, get_or, take, drop, refl, sym, ap, subst, ◌∙◌, inl, inr}
use Rattle.std.proofs.Common.{arith}
use Rattle.std.specs.Prelude.{AllPairs}
use Rattle.std.specs.List.{All, AllWithin, HoldsAt, Contains, insert}
use Rattle.std.specs.List.Sorted.{IsNonDecreasingBy}
use Rattle.std.specs.Ordering.{nat_cmp, ordering_then, ordering_index, ordering_reverse, is_lt}
use Rattle.std.specs.Cmp.{IsTotalOrder, on_total, then_total, tied_itself}
use Rattle.std.specs.Cmp.Lexicographic.{slice_cmp, nat_list_cmp_total}
use Rattle.std.specs.FinMap.{nat_cmp-IsAntisymmetric, slice_cmp-IsAntisymmetric}
use Rattle.std.specs.declared.cmp.Ordering.{Ordering}
use Rattle.std.specs.declared.cmp.Ordering.TheVariants.{Less, Equal, Greater}
use Rattle.std.proofs.lemmas.List.{get_or-map, length-map, take-append-drop}
use Rattle.std.proofs.lemmas.List.Elements.{All-cons}
use Rattle.std.proofs.lemmas.List.Kept.{AllPairs-cons}
use Rattle.std.proofs.lemmas.List.Sorted.{searchable_from_sorted}
use Rattle.std.proofs.lemmas.Bool.{cases_lt, cases_order}
use Rattle.npm_ranges.specs.Versions.{version_order}
use Rattle.npm_ranges.specs.OrderLaws.{version_total}
use Rattle.recipe_reader.specs.Members.{Member, member, members, IsBefore, IsRising}
use Rattle.recipe_reader.specs.Candidates.{member_order, IsAlike, IsPutIn}
use Rattle.recipe_reader.specs.declared.candidate.Candidate.{Candidate}

-- ---- by name, then by version

abbrev pub by_name : Member → Member → Ordering
by_name a b = slice_cmp nat_cmp a.name b.name

abbrev pub by_version : Member → Member → Ordering
by_version a b = version_order a.version b.version

pub member_total : IsTotalOrder member_order
member_total = then_total (on_total (λ (m : Member). m.name) nat_list_cmp_total) (on_total (λ (m : Member). m.version) version_total)

-- what a comparison in two parts says
less_parts : (r s : Ordering) → ordering_then r s ≡ Less → (r ≡ Less) ⊎ ((r ≡ Equal) × (s ≡ Less))
less_parts Less s e = inl refl
less_parts Equal s e = inr (refl, e)
less_parts Greater s e = cc e

pub equal_parts : (r s : Ordering) → ordering_then r s ≡ Equal → (r ≡ Equal) × (s ≡ Equal)
equal_parts Less s e = cc e
equal_parts Equal s e = (refl, e)
equal_parts Greater s e = cc e

greater_parts : (r s : Ordering) → ordering_then r s ≡ Greater → (r ≡ Greater) ⊎ ((r ≡ Equal) × (s ≡ Greater))
greater_parts Less s e = cc e
greater_parts Equal s e = inr (refl, e)
greater_parts Greater s e = inl refl

pub same_names : (a b : Member) → by_name a b ≡ Equal → a.name ≡ b.name
same_names a b e = slice_cmp-IsAntisymmetric nat_cmp-IsAntisymmetric a.name b.name e

pub before_is_less : (a b : Member) → IsBefore a b → member_order a b ≡ Less
before_is_less a b (inl h) = rw h refl
before_is_less a b (inr h) =
    let e : by_name a b ≡ Equal = ap (λ (n : List ℕ). slice_cmp nat_cmp n b.name) h.0 ∙ tied_itself nat_list_cmp_total b.name in
    rw e h.1

pub less_is_before : (a b : Member) → member_order a b ≡ Less → IsBefore a b
less_is_before a b e = elim (less_parts (by_name a b) (by_version a b) e) [
  | inl h ↦ inl h
  | inr h ↦ inr (same_names a b h.0, h.1)
]

swapped : (a b : Member) → member_order a b ≡ Greater → member_order b a ≡ Less
swapped a b e = member_total.antisymm b a ∙ ap ordering_reverse e

pub greater_is_after : (a b : Member) → member_order a b ≡ Greater → IsBefore b a
greater_is_after a b e = less_is_before b a (swapped a b e)

-- nothing is before one of the same name and version
pub never_before : (a b : Member) → a.name ≡ b.name → a.version ≡ b.version → IsBefore a b → ⊥
never_before a b n v h =
    let e : by_name a b ≡ Equal = ap (λ (x : List ℕ). slice_cmp nat_cmp x b.name) n ∙ tied_itself nat_list_cmp_total b.name in
    let f : by_version a b ≡ Equal = ap (λ (x : List ℕ). version_order x b.version) v ∙ tied_itself version_total b.version in
    let less = before_is_less a b h in
    let even : member_order a b ≡ Equal = rw (e, f) refl in
    cc (sym less ∙ even)

-- ---- lists that rise

pub before_at : (cs : List Candidate) (i j : ℕ) (d : Candidate) → IsRising (members cs) → i < j → j < length cs →
    IsBefore (member (get_or cs i d)) (member (get_or cs j d))
before_at cs i j d rising below within =
    let inside : j < length (members cs) = omega (arith, length-map cs member) in
    let h = rising i j (member d) below inside in
    let e : get_or (members cs) i (member d) ≡ member (get_or cs i d) = get_or-map member cs i d (member d) (omega arith) in
    let f : get_or (members cs) j (member d) ≡ member (get_or cs j d) = get_or-map member cs j d (member d) within in
    subst (λ (m : Member). IsBefore m (member (get_or cs j d))) e (subst (λ (m : Member). IsBefore (get_or (members cs) i (member d)) m) f h)

abbrev pub Precedes : Candidate → Candidate → Type 0
Precedes a b = IsBefore (member a) (member b)

pub rising_pairs : (cs : List Candidate) → IsRising (members cs) → AllPairs Precedes cs
rising_pairs cs rising i j d below within = before_at cs i j d rising below within

pub pairs_rising : (cs : List Candidate) → AllPairs Precedes cs → IsRising (members cs)
pairs_rising [] h i j d below within = absurd (omega arith)
pairs_rising (c ∷ cs) h i j d below within =
    let inside : j < length (c ∷ cs) = omega (arith, length-map (c ∷ cs) member) in
    let e : get_or (members (c ∷ cs)) i d ≡ member (get_or (c ∷ cs) i c) = get_or-map member (c ∷ cs) i c d (omega arith) in
    let f : get_or (members (c ∷ cs)) j d ≡ member (get_or (c ∷ cs) j c) = get_or-map member (c ∷ cs) j c d inside in
    subst (λ (m : Member). IsBefore m (get_or (members (c ∷ cs)) j d)) (sym e) (subst (λ (m : Member). IsBefore (member (get_or (c ∷ cs) i c)) m) (sym f)
    (h i j c below inside))

swapped_test : (a b : Member) → IsBefore a b → is_lt (member_order b a) ≡ false
swapped_test a b h = ap is_lt (member_total.antisymm b a ∙ ap ordering_reverse (before_is_less a b h))

-- a binary search for the place of a candidate may be made
pub searchable : (cs : List Candidate) (c : Candidate) → IsRising (members cs) → IsNonDecreasingBy (λ d. ordering_index (member_order (member d) (member c))) cs
searchable cs c rising = searchable_from_sorted member_total member cs (member c)
    (λ k d low high. swapped_test (member (get_or cs k d)) (member (get_or cs (k + 1) d)) (before_at cs k (k + 1) d rising (omega arith) high))

-- ---- one of each name and version

pub one_place : (cs : List Candidate) (c : Candidate) (i j : ℕ) (d : Candidate) → IsRising (members cs) → i < length cs → j < length cs →
    IsAlike (get_or cs i d) c → IsAlike (get_or cs j d) c → i ≡ j
one_place cs c i j d rising p q a b = elim (cases_order i j) [
  | inl e ↦ e
  | inr (inl below) ↦ absurd (never_before (member (get_or cs i d)) (member (get_or cs j d)) (a.name ∙ sym b.name) (a.version
      ∙ sym b.version) (before_at cs i j d rising below q))
  | inr (inr above) ↦ absurd (never_before (member (get_or cs j d)) (member (get_or cs i d)) (b.name ∙ sym a.name) (b.version
      ∙ sym a.version) (before_at cs j i d rising above p))
]

-- what is alike and stands there is what stands at that place
pub one_alike : (cs : List Candidate) (c e : Candidate) (at : ℕ) → IsRising (members cs) → at < length cs → HoldsAt (λ d. IsAlike d c) cs at →
    Contains cs e → IsAlike e c → get_or cs at e ≡ e
one_alike cs c e at rising within alike there same =
    let here : IsAlike (get_or cs there.0 e) c = subst (λ (x : Candidate). IsAlike x c) (sym there.2) same in
    let k : at ≡ there.0 = one_place cs c at there.0 e rising within there.1 (alike e) here in
    ap (λ (n : ℕ). get_or cs n e) k ∙ there.2

-- none is alike where all before the place are before it, and all behind it are behind it
pub none_alike : (cs : List Candidate) (c : Candidate) (at : ℕ) → AllWithin (λ d. IsBefore (member d) (member c)) cs 0 at →
    AllWithin (λ d. IsBefore (member c) (member d)) cs at (length cs)
    → (e : Candidate) → Contains cs e → IsAlike e c → ⊥
none_alike cs c at before after e there same =
    let here : IsAlike (get_or cs there.0 e) c = subst (λ (x : Candidate). IsAlike x c) (sym there.2) same in
    elim (cases_lt there.0 at) [
      | inl below ↦ never_before (member (get_or cs there.0 e)) (member c) here.name here.version (before there.0 e (omega arith) below)
      | inr above ↦ never_before (member c) (member (get_or cs there.0 e)) (sym here.name) (sym here.version) (after there.0 e above there.1)
    ]

-- ---- one more among them

pub all_insert : {X : Type 0} (P : X → Type 0) (xs : List X) (i : ℕ) (y : X) → i ≤ length xs → All P xs → P y → All P (insert xs i y)
all_insert P xs zero y within h p = All-cons P y xs p h
all_insert P [] (suc i) y within h p = absurd (omega arith)
all_insert P (x ∷ xs) (suc i) y within h p =
    All-cons P x (insert xs i y) (h 0 x (omega arith)) (all_insert P xs i y (omega arith) (λ k d below. h (suc k) d (omega arith)) p)

pub pairs_insert : {X : Type 0} (R : X → X → Type 0) (xs : List X) (i : ℕ) (y : X) → i ≤ length xs → AllPairs R xs
    → AllWithin (λ x. R x y) xs 0 i → AllWithin (λ x. R y x) xs i (length xs) → AllPairs R (insert xs i y)
pairs_insert R xs zero y within h before after = AllPairs-cons R y xs (λ k d below. after k d (omega arith) below) h
pairs_insert R [] (suc i) y within h before after = absurd (omega arith)
pairs_insert R (x ∷ xs) (suc i) y within h before after =
    AllPairs-cons R x (insert xs i y)
    (all_insert (R x) xs i y (omega arith) (λ k d below. h 0 (suc k) d (omega arith) (omega arith)) (before 0 x (omega arith) (omega arith)))
    (pairs_insert R xs i y (omega arith)
    (λ k j d below end. h (suc k) (suc j) d (omega arith) (omega arith))
    (λ k d low high. before (suc k) d (omega arith) (omega arith))
    (λ k d low high. after (suc k) d (omega arith) (omega arith)))

pub put_in : (cs : List Candidate) (c : Candidate) (at : ℕ) → ((d : Candidate) → Contains cs d → IsAlike d c → ⊥) → IsPutIn cs c (insert cs at c)
put_in cs c at free = record { before = take at cs; after = drop at cs; was = sym (take-append-drop at cs); is = refl; free = free }
