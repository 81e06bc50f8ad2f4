-- Items by their names and places.
use Rattle.std.proofs.Common.{◌≡◌, ℕ, zero, suc, ◌<◌, ◌≤◌, ◌+◌, Bool, true, false, IsTrue, ◌↔◌, List, [], ◌∷◌, length, map, get_or, Option, MatchOption}
use Rattle.std.proofs.Common.{Result, Ok, Err, refl, sym, ap, subst, ◌∙◌, arith, inl, inr, nat_cmp}
use Rattle.std.specs.List.{AllZip, Contains, IsAllAdjacentAnswer}
use Rattle.std.specs.List.Sorted.{IsNonDecreasingBy, IsPartitionPoint, IsSearchInRange, IsBinarySearchResult}
use Rattle.std.specs.Result.{result_ok}
use Rattle.std.specs.Ordering.{ordering_index, ordering_reverse, is_lt}
use Rattle.std.specs.Cmp.{IsTotalOrder}
use Rattle.std.specs.Cmp.Lexicographic.{slice_cmp, nat_list_cmp_total}
use Rattle.std.specs.FinMap.{nat_cmp-IsAntisymmetric, slice_cmp-IsAntisymmetric}
use Rattle.std.specs.declared.cmp.Ordering.{Ordering}
use Rattle.std.specs.declared.cmp.Ordering.TheVariants.{Less, Equal, Greater}
use Rattle.std.proofs.lemmas.Bool.{cases_lt, false≢true}
use Rattle.std.proofs.lemmas.List.{get_or-map, length-map}
use Rattle.std.proofs.lemmas.List.Sorted.{IsNonDecreasingBy-from_all_adjacent}
use Rattle.std.proofs.lemmas.Map.Keys.{Less-from_sorted, sorted_from_all_adjacent}
use Rattle.npm_ranges.specs.Ranges.{IsInRange}
use Rattle.recipe_reader.specs.declared.recipe.Dependency.{Dependency}
use Rattle.records.specs.Stored.{Item, item_view}
use Rattle.records.specs.declared.record.Item as code
use Rattle.device.specs.Plans.{AreRising}
use Rattle.device.specs.PlanNeeds.{names_of, StandsAt, IsMetAt, IsMetIn}
use Rattle.device.proofs.PlanLoops.{yes, no}

-- ---- the order of names

-- names in one order with themselves are one
pub tied : (a b : List ℕ) → slice_cmp nat_cmp a b ≡ Equal → a ≡ b
tied a b e = slice_cmp-IsAntisymmetric nat_cmp-IsAntisymmetric a b e

not_below_at : (o : Ordering) → o ≡ ordering_reverse o → o ≡ Less → ⊥
not_below_at Less e h = cc e
not_below_at Equal e h = cc h
not_below_at Greater e h = cc h

-- no name is below itself
pub not_below : (a : List ℕ) → slice_cmp nat_cmp a a ≡ Less → ⊥
not_below a h =
    let order : IsTotalOrder (slice_cmp nat_cmp) = nat_list_cmp_total in
    not_below_at (slice_cmp nat_cmp a a) (order.antisymm a a) h

not_above_at : (o : Ordering) → o ≡ ordering_reverse o → o ≡ Greater → ⊥
not_above_at Less e h = cc h
not_above_at Equal e h = cc h
not_above_at Greater e h = cc e

not_above : (a : List ℕ) → slice_cmp nat_cmp a a ≡ Greater → ⊥
not_above a h =
    let order : IsTotalOrder (slice_cmp nat_cmp) = nat_list_cmp_total in
    not_above_at (slice_cmp nat_cmp a a) (order.antisymm a a) h

index_most : (o : Ordering) → ordering_index o ≤ 2
index_most Less = omega arith
index_most Equal = omega arith
index_most Greater = omega arith

index_at : (a b n : List ℕ) (o : Ordering) → slice_cmp nat_cmp b n ≡ o → slice_cmp nat_cmp a b ≡ Less → ordering_index (slice_cmp nat_cmp a n)
    ≤ ordering_index o
index_at a b n Less e h =
    let order : IsTotalOrder (slice_cmp nat_cmp) = nat_list_cmp_total in
    rw (order.trans a b n h e) (omega arith)
index_at a b n Equal e h =
    let same = tied b n e in
    let l : slice_cmp nat_cmp a n ≡ Less = subst (λ x. slice_cmp nat_cmp a x ≡ Less) same h in
    rw l (omega arith)
index_at a b n Greater e h = index_most (slice_cmp nat_cmp a n)

name_at : (items : List code.Item) (k : ℕ) (d : code.Item) → k < length items → get_or (names_of items) k d.name ≡ (get_or items k d).name
name_at items k d below = get_or-map (λ (item : code.Item). item.name) items k d d.name below

-- the items lie in the order in which a search for the name looks at them
pub searched : (items : List code.Item) (n : List ℕ) → AreRising (names_of items) →
    IsNonDecreasingBy (λ (item : code.Item). ordering_index (slice_cmp nat_cmp item.name n)) items
searched items n rise = IsNonDecreasingBy-from_all_adjacent (λ (item : code.Item). ordering_index (slice_cmp nat_cmp item.name n)) items
    (λ k d h.
    let long = length-map items (λ (item : code.Item). item.name) in
    let less = Less-from_sorted (slice_cmp nat_cmp) (names_of items) k (k + 1) d.name rise (omega arith) (omega (arith, long, h)) in
    let first = name_at items k d (omega (arith, h)) in
    let second = name_at items (k + 1) d h in
    let l : slice_cmp nat_cmp (get_or items k d).name (get_or items (k + 1) d).name ≡ Less =
    subst (λ x. slice_cmp nat_cmp x (get_or items (k + 1) d).name ≡ Less) first
    (subst (λ x. slice_cmp nat_cmp (get_or (names_of items) k d.name) x ≡ Less) second less) in
    index_at (get_or items k d).name (get_or items (k + 1) d).name n (slice_cmp nat_cmp (get_or items (k + 1) d).name n) refl l)

-- ---- elements by their places

pub element : {X : Type 0} (xs : List X) (i : ℕ) → i < length xs → (x : X) × ((d : X) → get_or xs i d ≡ x)
element [] i h = absurd (omega (arith, h))
element (x ∷ xs) zero h = (x, λ d. refl)
element (x ∷ xs) (suc i) h = element xs i (omega (arith, h))

-- what stands at one place of two lists
pub record Pair {A B : Type 0} (R : A → B → Type 0) (xs : List A) (ys : List B) (i : ℕ) : Type 0 where
  pub one : A
  pub other : B
  pub one_is : (d : A) → get_or xs i d ≡ one
  pub other_is : (d : B) → get_or ys i d ≡ other
  pub both : R one other

pub pair_at : {A B : Type 0} (R : A → B → Type 0) (xs : List A) (ys : List B) (i : ℕ) → AllZip R xs ys → i < length xs → Pair R xs ys i
pair_at R [] ys i z h = absurd (omega (arith, h))
pair_at R (x ∷ xs) [] i z h = absurd z
pair_at R (x ∷ xs) (y ∷ ys) zero z h = record { one = x; other = y; one_is = λ d. refl; other_is = λ d. refl; both = z.0 }
pair_at R (x ∷ xs) (y ∷ ys) (suc i) z h =
    let p = pair_at R xs ys i z.1 (omega (arith, h)) in
    record { one = p.one; other = p.other; one_is = p.one_is; other_is = p.other_is; both = p.both }

pub long : {A B : Type 0} (R : A → B → Type 0) (xs : List A) (ys : List B) → AllZip R xs ys → length ys ≡ length xs
long R [] [] z = refl
long R [] (y ∷ ys) z = absurd z
long R (x ∷ xs) [] z = absurd z
long R (x ∷ xs) (y ∷ ys) z = ap (λ n. suc n) (long R xs ys z.1)

-- the place of an item among those that are seen
pub record Seen (items : List code.Item) (item : Item) : Type 0 where
  pub at : ℕ
  pub below : at < length items
  pub is : (d : code.Item) → item_view (get_or items at d) ≡ item

pub seen : (items : List code.Item) (item : Item) → Contains (map item_view items) item → Seen items item
seen items item h =
    let long = length-map items item_view in
    let below : h.0 < length items = omega (arith, long, h.1) in
    record { at = h.0; below = below; is = λ d. sym (get_or-map item_view items h.0 d item below) ∙ h.2 }

pub shown : (items : List code.Item) (at : ℕ) (d : code.Item) → at < length items → Contains (map item_view items) (item_view (get_or items at d))
shown items at d below =
    let long = length-map items item_view in
    (at, omega (arith, long, below), get_or-map item_view items at d (item_view (get_or items at d)) below)

-- ---- names that rise

less_from : (o : Ordering) → true ≡ is_lt o → o ≡ Less
less_from Less h = refl
less_from Equal h = absurd (false≢true (sym h))
less_from Greater h = absurd (false≢true (sym h))

-- what a look at neighbours answers is whether the names rise
pub rise_answer : {X : Type 0} (name : X → List ℕ) (xs : List X) (r : Bool) → IsAllAdjacentAnswer (λ x y b. b ≡ is_lt (slice_cmp nat_cmp (name x) (name y)))
    xs r → IsTrue r ↔ AreRising (map name xs)
rise_answer name xs true h = yes (AreRising (map name xs)) (sorted_from_all_adjacent nat_list_cmp_total (map name xs) []
    (λ k below.
    let n = length-map xs name in
    let under : k + 1 < length xs = omega (arith, n, below) in
    let d = (element xs k (omega (arith, under))).0 in
    let less = less_from (slice_cmp nat_cmp (name (get_or xs k d)) (name (get_or xs (k + 1) d))) (h k d under) in
    let first = get_or-map name xs k d [] (omega (arith, under)) in
    let second = get_or-map name xs (k + 1) d [] under in
    subst (λ n. slice_cmp nat_cmp n (get_or (map name xs) (k + 1) []) ≡ Less) (sym first)
    (subst (λ n. slice_cmp nat_cmp (name (get_or xs k d)) n ≡ Less) (sym second) less)))
rise_answer name xs false h = no (AreRising (map name xs)) (λ rise.
    let k = h.0 in
    let under = h.1 in
    let n = length-map xs name in
    let d = (element xs k (omega (arith, under))).0 in
    let less = Less-from_sorted (slice_cmp nat_cmp) (map name xs) k (k + 1) [] rise (omega arith) (omega (arith, n, under)) in
    let first = get_or-map name xs k d [] (omega (arith, under)) in
    let second = get_or-map name xs (k + 1) d [] under in
    let l : slice_cmp nat_cmp (name (get_or xs k d)) (name (get_or xs (k + 1) d)) ≡ Less =
    subst (λ n. slice_cmp nat_cmp n (name (get_or xs (k + 1) d)) ≡ Less) first
    (subst (λ n. slice_cmp nat_cmp (get_or (map name xs) k []) n ≡ Less) second less) in
    false≢true (h.2 d ∙ ap is_lt l))

-- ---- items by their names

-- an item that is seen stands at its place
pub stands : (items : List code.Item) (item : Item) (n : List ℕ) (s : Seen items item) → item.name ≡ n → StandsAt items n s.at
stands items item n s e = record { below = s.below; named = λ d. ap (λ (i : Item). i.name) (s.is d) ∙ e }

apart_below : (items : List code.Item) (n : List ℕ) (i j : ℕ) → AreRising (names_of items) → StandsAt items n i → StandsAt items n j → i < j → ⊥
apart_below items n i j rise s t lt =
    let d = (element items i s.below).0 in
    let long = length-map items (λ (item : code.Item). item.name) in
    let less = Less-from_sorted (slice_cmp nat_cmp) (names_of items) i j d.name rise lt (let below = t.below in omega (arith, long, below)) in
    let first = name_at items i d s.below ∙ s.named d in
    let second = name_at items j d t.below ∙ t.named d in
    let l : slice_cmp nat_cmp n n ≡ Less = subst (λ x. slice_cmp nat_cmp x n ≡ Less) first
    (subst (λ x. slice_cmp nat_cmp (get_or (names_of items) i d.name) x ≡ Less) second less) in
    not_below n l

-- one name stands at one place
pub one_place : (items : List code.Item) (n : List ℕ) (i j : ℕ) → AreRising (names_of items) → StandsAt items n i → StandsAt items n j → i ≡ j
one_place items n i j rise s t = elim (cases_lt i j) [
  | inl lt ↦ absurd (apart_below items n i j rise s t lt)
  | inr ge ↦ elim (cases_lt j i) [
    | inl lt ↦ absurd (apart_below items n j i rise t s lt)
    | inr le ↦ omega arith
  ]
]

-- where a search ends between what is below and what is above, no item has the name
pub absent : (items : List code.Item) (n : List ℕ) (i : ℕ)
    → IsPartitionPoint (λ (item : code.Item). slice_cmp nat_cmp item.name n ≡ Less) (λ (item : code.Item). slice_cmp nat_cmp item.name n ≡ Greater) items i
    → (at : ℕ) → StandsAt items n at → ⊥
absent items n i h at s =
    let x = (element items at s.below).0 in
    elim (cases_lt at i) [
      | inl lt ↦ not_below n (subst (λ (m : List ℕ). slice_cmp nat_cmp m n ≡ Less) (s.named x) (h.0 at x (omega arith) lt))
      | inr ge ↦ not_above n (subst (λ (m : List ℕ). slice_cmp nat_cmp m n ≡ Greater) (s.named x) (h.1 at x ge s.below))
    ]

-- what the search answers
pub place_answer : (items : List code.Item) (n : List ℕ) (r : Result ℕ ℕ) (o : Option ℕ) → AreRising (names_of items) → o ≡ result_ok r →
    IsSearchInRange r (length items)
    → IsBinarySearchResult (λ (item : code.Item). slice_cmp nat_cmp item.name n) items r → MatchOption o ((at : ℕ) → StandsAt items n at → ⊥) (StandsAt items n)
place_answer items n (Ok i) o rise is bound h =
    subst (λ (x : Option ℕ). MatchOption x ((at : ℕ) → StandsAt items n at → ⊥) (StandsAt items n)) (sym is)
    (record { below = bound; named = λ d. tied (get_or items i d).name n (h d) })
place_answer items n (Err i) o rise is bound h =
    subst (λ (x : Option ℕ). MatchOption x ((at : ℕ) → StandsAt items n at → ⊥) (StandsAt items n)) (sym is) (absent items n i (h (searched items n rise)))

-- ---- what meets a dependency

pub met_in : (items : List code.Item) (d : Dependency) (at : ℕ) → IsMetAt items d at → IsMetIn items d
met_in items d at m =
    let x = (element items at m.below).0 in
    record { item = item_view (get_or items at x); is_one = shown items at x m.below; meets = m.meets x }

-- what meets the dependency stands at the place of its name
pub met_place : (items : List code.Item) (d : Dependency) (m : IsMetIn items d) → StandsAt items d.name (seen items m.item m.is_one).at
met_place items d m = stands items m.item d.name (seen items m.item m.is_one) m.meets.name

pub unmet : (items : List code.Item) (d : Dependency) → ((at : ℕ) → StandsAt items d.name at → ⊥) → IsMetIn items d → ⊥
unmet items d none m = none (seen items m.item m.is_one).at (met_place items d m)

pub meets_there : (items : List code.Item) (d : Dependency) (at : ℕ) (x : code.Item) → StandsAt items d.name at
    → IsInRange (get_or items at x).version d.range →
    IsMetAt items d at
meets_there items d at x s v =
    let e = element items at s.below in
    record {
      below = s.below;
      meets = λ y. record { name = s.named y; version = subst (λ (i : code.Item). IsInRange i.version d.range) (e.1 x ∙ sym (e.1 y)) v };
    }

pub fails_there : (items : List code.Item) (d : Dependency) (at : ℕ) (x : code.Item) → AreRising (names_of items) → StandsAt items d.name at
    → (IsInRange (get_or items at x).version d.range → ⊥) → IsMetIn items d → ⊥
fails_there items d at x rise s bad m =
    let k = seen items m.item m.is_one in
    let same = one_place items d.name k.at at rise (met_place items d m) s in
    let e : item_view (get_or items at x) ≡ m.item = ap (λ i. item_view (get_or items i x)) (sym same) ∙ k.is x in
    bad (subst (λ (i : Item). IsInRange i.version d.range) (sym e) m.meets.version)

pub stands_met : (items : List code.Item) (d : Dependency) (at : ℕ) → IsMetAt items d at → StandsAt items d.name at
stands_met items d at m = record { below = m.below; named = λ x. (m.meets x).name }
