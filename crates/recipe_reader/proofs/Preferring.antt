-- The best walk, in order of places, is the preferred set; and without a consistent walk no set is valid.
use Rattle.std.proofs.Common.{◌≡◌, ◌≢◌, ℕ, suc, ◌+◌, ◌<◌, eqb, List, [], ◌∷◌, ◌++◌, length, get_or, sym, ap, ◌∙◌, subst, inl, inr, refl, arith, append_assoc}
use Rattle.std.proofs.Common.{append-nil}
use Rattle.std.specs.Prelude.{slice_index}
use Rattle.std.specs.List.{Contains, IsDistinct}
use Rattle.std.specs.List.Sorted.{IsStrictlyIncreasing, IsPermutation, IsNonDecreasing}
use Rattle.std.proofs.lemmas.List.Elements.{All-contains_itself, All-weaker}
use Rattle.std.proofs.lemmas.List.Kept.{AllPairs-from_increasing}
use Rattle.std.proofs.lemmas.List.Sorted.{IsPermutation-sym, Contains-permutation}
use Rattle.std.proofs.lemmas.Map.Keys.{IsDistinct-IsPermutation, IsStrictlyIncreasing-from_distinct}
use Rattle.nuc_base.proofs.Lists.{in_nil, in_cons, in_here, in_there, distinct_push, distinct_nil, eqb_flips}
use Rattle.recipe_reader.specs.Members.{Need, Member}
use Rattle.recipe_reader.specs.Sets.{IsWalk, IsWalkOf, IsAhead, IsValid, IsPreferred}
use Rattle.recipe_reader.specs.Searches.{IsConsistent, HasNone, IsBest}
use Rattle.recipe_reader.proofs.Searching.{consistent_fewer}
use Rattle.recipe_reader.proofs.ValidSets.{AreWithin, walk_of, all_in_walk, consistent_of, valid_of}

-- no consistent walk, no valid set
pub no_valid : (ms : List Member) (wanted : List Need) → HasNone ms wanted [] → (s : List ℕ) → IsValid ms wanted s → ⊥
no_valid ms wanted h s v =
    let r = walk_of ms wanted s v in
    h.none r.walk r.is_walk (consistent_fewer ms wanted r.walk s r.within (consistent_of ms wanted s v))

-- rising lists

pub rise_head : (x : ℕ) (xs : List ℕ) (y : ℕ) → IsStrictlyIncreasing (x ∷ xs) → Contains xs y → x < y
rise_head x xs y h i =
    let lt : suc i.0 < length (x ∷ xs) = omega (arith, i.1) in
    let less : x < get_or xs i.0 y = AllPairs-from_increasing (x ∷ xs) h 0 (suc i.0) y (omega arith) lt in
    omega (arith, less, i.2)

pub rise_tail : (x : ℕ) (xs : List ℕ) → IsStrictlyIncreasing (x ∷ xs) → IsStrictlyIncreasing xs
rise_tail x xs h = λ k lt.
    let e : k + 1 ≡ suc k = omega arith in
    let f : k + 1 + 1 ≡ suc (k + 1) = omega arith in
    let lt' : k + 1 + 1 < length (x ∷ xs) = omega (arith, lt) in
    let r = h (k + 1) lt' in
    let r' = subst (λ m. slice_index (x ∷ xs) m < slice_index (x ∷ xs) (k + 1 + 1)) e r in
    subst (λ m. slice_index xs k < slice_index (x ∷ xs) m) f r'

heads_same : (x : ℕ) (a : List ℕ) (y : ℕ) (b : List ℕ) → IsStrictlyIncreasing (x ∷ a) → IsStrictlyIncreasing (y ∷ b) → AreWithin (x ∷ a) (y ∷ b) →
    AreWithin (y ∷ b) (x ∷ a) → x ≡ y
heads_same x a y b h i f g = elim (in_cons y b x (f x (in_here x a))) [
  | inl e ↦ sym e
  | inr j ↦ elim (in_cons x a y (g y (in_here y b))) [
    | inl e ↦ e
    | inr k ↦ (let p = rise_head y b x i j in let q = rise_head x a y h k in absurd (omega (arith, p, q)))
  ]
]

tails_within : (x : ℕ) (a : List ℕ) (y : ℕ) (b : List ℕ) → IsStrictlyIncreasing (x ∷ a) → x ≡ y → AreWithin (x ∷ a) (y ∷ b) → AreWithin a b
tails_within x a y b h e f = λ z j. elim (in_cons y b z (f z (in_there x a z j))) [
  | inl d ↦ (let p = rise_head x a z h j in absurd (omega (arith, p, e, d)))
  | inr k ↦ k
]

pub same_rising : (a b : List ℕ) → IsStrictlyIncreasing a → IsStrictlyIncreasing b → AreWithin a b → AreWithin b a → a ≡ b
same_rising [] [] h i f g = refl
same_rising [] (y ∷ b) h i f g = absurd (in_nil y (g y (in_here y b)))
same_rising (x ∷ a) [] h i f g = absurd (in_nil x (f x (in_here x a)))
same_rising (x ∷ a) (y ∷ b) h i f g =
    let e = heads_same x a y b h i f g in
    ap (λ z. z ∷ a) e ∙ ap (λ l. y ∷ l) (same_rising a b (rise_tail x a h) (rise_tail y b i)
    (tails_within x a y b h e f) (tails_within y b x a i (sym e) g))

-- the places of a walk differ

distinct_from : (ms : List Member) (wanted : List Need) (taken walk : List ℕ) → IsDistinct eqb taken → IsWalk ms wanted taken walk →
    IsDistinct eqb (taken ++ walk)
distinct_from ms wanted taken [] h w = subst (IsDistinct eqb) (sym (append-nil taken)) h
distinct_from ms wanted taken (p ∷ ps) h w =
    let next = w.0.2 in
    subst (IsDistinct eqb) (append_assoc taken (p ∷ []) ps)
    (distinct_from ms wanted (taken ++ p ∷ []) ps (distinct_push taken p h (λ i. next.untaken (p, i, w.0.1))) w.1)

pub walk_distinct : (ms : List Member) (wanted : List Need) (walk : List ℕ) → IsWalk ms wanted [] walk → IsDistinct eqb walk
walk_distinct ms wanted walk w = distinct_from ms wanted [] walk distinct_nil w

-- the walk of another valid set is behind
pub ahead_of : (ms : List Member) (wanted : List Need) (all s : List ℕ) → (best : IsBest ms wanted [] all) → IsStrictlyIncreasing s → AreWithin s best.walk →
    AreWithin best.walk s → (t : List ℕ) → IsValid ms wanted t → t ≢ s → (other : List ℕ) × IsWalkOf ms wanted t other × IsAhead ms best.walk other
ahead_of ms wanted all s best rising a b t v differs =
    let r = walk_of ms wanted t v in
    let good = consistent_fewer ms wanted r.walk t r.within (consistent_of ms wanted t v) in
    let is : IsWalkOf ms wanted t r.walk = (r.is_walk, All-weaker (Contains r.walk) (Contains t) r.within r.walk (All-contains_itself r.walk)) in
    elim (best.ahead r.walk r.is_walk good) [
      | inl e ↦ absurd (differs (same_rising t s v.rising rising
          (λ x i. b x (subst (λ l. Contains l x) e (all_in_walk ms wanted t r.walk v r.is_walk r.within x i)))
          (λ x i. r.within x (subst (λ l. Contains l x) (sym e) (a x i)))))
      | inr h ↦ (r.walk, is, h)
    ]

-- the best walk, in order of places, is the preferred set
pub preferred_of : (ms : List Member) (wanted : List Need) (all s : List ℕ) → IsBest ms wanted [] all → IsPermutation all s → IsNonDecreasing s →
    IsPreferred ms wanted s
preferred_of ms wanted all s best moved sorted =
    let walk = best.walk in
    let e = best.is in
    let w = best.is_walk in
    let c = subst (IsConsistent ms wanted) e best.consistent in
    let moved' = subst (λ l. IsPermutation l s) e moved in
    let rising = IsStrictlyIncreasing-from_distinct s sorted (IsDistinct-IsPermutation eqb eqb_flips walk s moved' (walk_distinct ms wanted walk w)) in
    let a : AreWithin walk s = λ x i. Contains-permutation walk s x moved' i in
    let b : AreWithin s walk = λ x i. Contains-permutation s walk x (IsPermutation-sym walk s moved') i in
    record {
      valid = valid_of ms wanted walk s w c rising a b;
      walk = walk;
      is_walk = (w, All-weaker (Contains walk) (Contains s) a walk (All-contains_itself walk));
      ahead = λ t v other. ahead_of ms wanted all s best rising b a t v other;
    }
