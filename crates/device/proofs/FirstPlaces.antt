-- A name at the place where it is first, and a count that is below three.
use Rattle.std.proofs.Common.{◌≡◌, ℕ, suc, ◌+◌, ◌<◌, Bool, true, false, List, [], ◌∷◌, length, map, get_or, Option, Some, refl, sym, ap, subst, ◌∙◌, inl, inr}
use Rattle.std.proofs.Common.{arith}
use Rattle.std.specs.Prelude.{slice_get, if◌then◌else◌}
use Rattle.std.specs.Option.{IsSomeAnd}
use Rattle.std.specs.Str.{bytes_eq}
use Rattle.std.proofs.lemmas.Option.{slice_get-get_or, slice_get_cases}
use Rattle.std.proofs.lemmas.Slice.Eq.{bytes_eq-Decides}
use Rattle.records.specs.Stored.{Item}
use Rattle.device.specs.Lawful.{place, place_from}

pub some_is : {A : Type 0} (x y : A) → ◌≡◌ {A = Option A} (Some x) (Some y) → x ≡ y
some_is x y e = cc

-- ---- a place that a name has

record Placed (n : List ℕ) (names : List (List ℕ)) (j k : ℕ) : Type 0 where
  m : ℕ
  k_is : k ≡ j + m
  within : m < length names
  there_is : (d : List ℕ) → get_or names m d ≡ n

placed : (n : List ℕ) (items : List Item) (j k : ℕ) → place_from j n items ≡ Some k → Placed n (map (λ i. i.name) items) j k
placed n [] j k h = absurd cc
placed n (i ∷ items) j k h = by (bytes_eq n i.name) refl h (λ later. placed n items (j + 1) k later)
  where
    by : (b : Bool) → bytes_eq n i.name ≡ b → (if b then Some j else place_from (j + 1) n items) ≡ Some k
        → (place_from (j + 1) n items ≡ Some k → Placed n (map (λ i. i.name) items) (j + 1) k) → Placed n (map (λ i. i.name) (i ∷ items)) j k
    by true is h next = record { m = 0; k_is = omega (arith, some_is j k h); within = omega arith; there_is = λ d. sym ((bytes_eq-Decides n i.name).0 is) }
    by false is h next =
        let more = next h in
        record { m = suc more.m; k_is = omega (arith, more.k_is); within = omega (arith, more.within); there_is = more.there_is }

pub place_has : (n : List ℕ) (items : List Item) (k : ℕ) → place n items ≡ Some k → slice_get (map (λ i. i.name) items) k ≡ Some n
place_has n items k h =
    let p = placed n items 0 k h in
    let at : k ≡ p.m = omega (arith, p.k_is) in
    ap (slice_get (map (λ i. i.name) items)) at ∙ slice_get-get_or (map (λ i. i.name) items) p.m [] p.within ∙ ap (λ y. Some y) (p.there_is [])

pub may_count : (xs : List ℕ) (k : ℕ) → IsSomeAnd (slice_get xs k) (λ c. c < 3) → (k < length xs) × (get_or xs k 0 < 3)
may_count xs k h = elim (slice_get_cases xs k).1 [
  | inl g ↦ (g.1, subst (λ (o : Option ℕ). IsSomeAnd o (λ c. c < 3)) (slice_get-get_or xs k 0 g.1) h)
  | inr g ↦ absurd (subst (λ (o : Option ℕ). IsSomeAnd o (λ c. c < 3)) g.1 h)
]
