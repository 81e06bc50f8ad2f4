-- Values of words that are joined.
use Rattle.std.proofs.Common.{◌≡◌, ◌≢◌, ◌⊎◌, ℕ, ◌+◌, ◌/◌, ◌%◌, ◌^◌, ◌<◌, ◌≤◌, List, get_or, length, min, max, refl, ◌-◌, ◌*◌, ap, sym, ◌∙◌, inl, inr, arith, eqb, true, ◌↔◌, eq-eqb, eqb-true, w64}
use Rattle.std.specs.Prelude.{bit_and, bit_or, bit_xor, slice_set}
use Rattle.std.specs.Int.{bit_at}
use Rattle.std.specs.List.{All}
use Rattle.std.proofs.lemmas.Bool.{cases_eq, cases_lt}
use Rattle.std.proofs.lemmas.List.{get_or_past, get_or-set_same, get_or-set_other}
use Rattle.std.proofs.lemmas.Nat.Bits.{shr_and_one, bit_at_or, bit_at_and, bit_at_xor, bit_at-zero, bit_at-lt, bit_at_set_same, bit_at_set_other}
use Rattle.conflict_search.specs.Terms.{Has}

or_bit : (a b i : ℕ) → bit_at (bit_or a b) i ≡ 1 → (bit_at a i ≡ 1) ⊎ (bit_at b i ≡ 1)
or_bit a b i h = elim (cases_eq (bit_at a i) 1) [
  | inl e ↦ inl e
  | inr ne ↦ inr (omega (arith, h, ne, bit_at_or a b i, bit_at-lt a i, bit_at-lt b i))
]

and_bit : (a b i : ℕ) → bit_at (bit_and a b) i ≡ 1 → (bit_at a i ≡ 1) × (bit_at b i ≡ 1)
and_bit a b i h = (
  omega (arith, h, bit_at_and a b i, bit_at-lt a i, bit_at-lt b i),
  omega (arith, h, bit_at_and a b i, bit_at-lt a i, bit_at-lt b i),
)

less_bit : (a b i : ℕ) → bit_at a i ≡ 1 → (bit_at (bit_xor a (bit_and a b)) i ≡ 1) ⊎ (bit_at b i ≡ 1)
less_bit a b i h = elim (cases_eq (bit_at b i) 1) [
  | inl e ↦ inr e
  | inr ne ↦ inl (omega (arith, h, ne, bit_at_xor a (bit_and a b) i, bit_at_and a b i, bit_at-lt a i, bit_at-lt b i))
]

past : (set : List ℕ) (v : ℕ) → length set ≤ v / 64 → Has set v → ⊥
unfolding Has
past set v le h = let z : bit_at (get_or set (v / 64) 0) (v % 64) ≡ 0 = ap (λ x. bit_at x (v % 64)) (get_or_past set (v / 64) 0 le) ∙ bit_at-zero (v % 64) in omega (arith, h, z)

abbrev pub less_word : ℕ → ℕ → ℕ
less_word a b = bit_xor a (bit_and a b)

pub has_tests : (set : List ℕ) (word v : ℕ) → word ≡ get_or set (v / 64) 0 → (eqb (bit_and (word / 2 ^ (v % 64)) 1) 1 ≡ true) ↔ Has set v
unfolding Has
has_tests set word v e = rw (e, shr_and_one) (eqb-true _ 1, eq-eqb _ 1)

-- n words from that place on are those of f, and the others are as they were
pub record AreWordsAt (f : ℕ → ℕ → ℕ) (from n : ℕ) (old other new : List ℕ) : Type 0 where
  pub done : (j : ℕ) → j < n → get_or new (from + j) 0 ≡ f (get_or old (from + j) 0) (get_or other j 0)
  pub before : (i : ℕ) → i < from → get_or new i 0 ≡ get_or old i 0
  pub behind : (i : ℕ) → from + n ≤ i → get_or new i 0 ≡ get_or old i 0

-- the bit of a value, at a word that is given
has_in : (set : List ℕ) (v i b : ℕ) → v / 64 ≡ i → v % 64 ≡ b → Has set v → bit_at (get_or set i 0) b ≡ 1
unfolding Has
has_in set v i b e f h = rw e at (rw f at h)

has_from : (set : List ℕ) (v i b : ℕ) → v / 64 ≡ i → v % 64 ≡ b → bit_at (get_or set i 0) b ≡ 1 → Has set v
unfolding Has
has_from set v i b e f h = rw (e, f) h

pub joined_at : (from n : ℕ) (old other new : List ℕ) → AreWordsAt bit_or from n old other new → (v : ℕ) → Has new v →
    Has old v ⊎ ((64 * from ≤ v) × Has other (v - 64 * from))
joined_at from n old other new w v h =
    let bit = has_in new v (v / 64) (v % 64) refl refl h in
    elim (cases_lt (v / 64) from) [
      | inl lt ↦ inl (has_from old v (v / 64) (v % 64) refl refl (ap (λ x. bit_at x (v % 64)) (sym (w.before (v / 64) lt)) ∙ bit))
      | inr ge ↦ elim (cases_lt (v / 64) (from + n)) [
        | inr far ↦ inl (has_from old v (v / 64) (v % 64) refl refl (ap (λ x. bit_at x (v % 64)) (sym (w.behind (v / 64) (omega (arith, far)))) ∙ bit))
        | inl lt ↦ (let j : ℕ = v / 64 - from in
            let e : v / 64 ≡ from + j = omega (arith, ge) in
            let small : j < n = omega (arith, lt, ge) in
            let bit' : bit_at (get_or new (from + j) 0) (v % 64) ≡ 1 = has_in new v (from + j) (v % 64) e refl h in
            let low : 64 * from ≤ v = omega (arith, ge) in
            elim (or_bit (get_or old (from + j) 0) (get_or other j 0) (v % 64) (ap (λ x. bit_at x (v % 64)) (sym (w.done j small)) ∙ bit')) [
              | inl a ↦ inl (has_from old v (from + j) (v % 64) e refl a)
              | inr b ↦ inr (low, has_from other (v - 64 * from) j (v % 64) (omega (arith, low)) (omega (arith, low)) b)
            ])
      ]
    ]

pub fewer_at : (from n : ℕ) (old other new : List ℕ) → AreWordsAt bit_and from n old other new → (v : ℕ) → Has new v → Has old v
fewer_at from n old other new w v h =
    let bit = has_in new v (v / 64) (v % 64) refl refl h in
    elim (cases_lt (v / 64) from) [
      | inl lt ↦ has_from old v (v / 64) (v % 64) refl refl (ap (λ x. bit_at x (v % 64)) (sym (w.before (v / 64) lt)) ∙ bit)
      | inr ge ↦ elim (cases_lt (v / 64) (from + n)) [
        | inr far ↦ has_from old v (v / 64) (v % 64) refl refl (ap (λ x. bit_at x (v % 64)) (sym (w.behind (v / 64) (omega (arith, far)))) ∙ bit)
        | inl lt ↦ (let j : ℕ = v / 64 - from in
            let e : v / 64 ≡ from + j = omega (arith, ge) in
            let both = and_bit (get_or old (from + j) 0) (get_or other j 0) (v % 64)
            (ap (λ x. bit_at x (v % 64)) (sym (w.done j (omega (arith, lt, ge)))) ∙ has_in new v (from + j) (v % 64) e refl h) in
            has_from old v (from + j) (v % 64) e refl both.0)
      ]
    ]

pub met_at : (from n : ℕ) (old other new : List ℕ) → AreWordsAt bit_and from n old other new → (v : ℕ) → v < 64 * n → Has new (64 * from + v) → Has other v
met_at from n old other new w v small h =
    let e : (64 * from + v) / 64 ≡ from + v / 64 = omega arith in
    let f : (64 * from + v) % 64 ≡ v % 64 = omega arith in
    let lt : v / 64 < n = omega (arith, small) in
    let both = and_bit (get_or old (from + v / 64) 0) (get_or other (v / 64) 0) (v % 64)
    (ap (λ x. bit_at x (v % 64)) (sym (w.done (v / 64) lt)) ∙ has_in new (64 * from + v) (from + v / 64) (v % 64) e f h) in
    has_from other v (v / 64) (v % 64) refl refl both.1

pub joined_at_kept : (from n : ℕ) (old other new : List ℕ) → AreWordsAt bit_or from n old other new → (v : ℕ) → Has old v → Has new v
joined_at_kept from n old other new w v h =
    let bit = has_in old v (v / 64) (v % 64) refl refl h in
    elim (cases_lt (v / 64) from) [
      | inl lt ↦ has_from new v (v / 64) (v % 64) refl refl (ap (λ x. bit_at x (v % 64)) (w.before (v / 64) lt) ∙ bit)
      | inr ge ↦ elim (cases_lt (v / 64) (from + n)) [
        | inr far ↦ has_from new v (v / 64) (v % 64) refl refl (ap (λ x. bit_at x (v % 64)) (w.behind (v / 64) (omega (arith, far))) ∙ bit)
        | inl lt ↦ (let j : ℕ = v / 64 - from in
            let e : v / 64 ≡ from + j = omega (arith, ge) in
            let small : j < n = omega (arith, lt, ge) in
            let bit' : bit_at (get_or old (from + j) 0) (v % 64) ≡ 1 = has_in old v (from + j) (v % 64) e refl h in
            let or = bit_at_or (get_or old (from + j) 0) (get_or other j 0) (v % 64) in
            let top = bit_at-lt (get_or other j 0) (v % 64) in
            has_from new v (from + j) (v % 64) e refl (ap (λ x. bit_at x (v % 64)) (w.done j small) ∙ omega (arith, or, bit', top)))
      ]
    ]

-- a set has values for its words alone
pub has_below : (set : List ℕ) (v : ℕ) → Has set v → v < 64 * length set
has_below set v h = elim (cases_lt v (64 * length set)) [ inl lt ↦ lt | inr ge ↦ absurd (past set v (omega (arith, ge)) h) ]

pub joined_at_given : (from n : ℕ) (old other new : List ℕ) → length other ≤ n → AreWordsAt bit_or from n old other new → (v : ℕ) → Has other v → Has new (64 * from + v)
joined_at_given from n old other new all w v h =
    let below = has_below other v h in
    let small : v / 64 < n = omega (arith, below, all) in
    let e : (64 * from + v) / 64 ≡ from + v / 64 = omega arith in
    let f : (64 * from + v) % 64 ≡ v % 64 = omega arith in
    let bit = has_in other v (v / 64) (v % 64) refl refl h in
    let or = bit_at_or (get_or old (from + v / 64) 0) (get_or other (v / 64) 0) (v % 64) in
    let top = bit_at-lt (get_or old (from + v / 64) 0) (v % 64) in
    has_from new (64 * from + v) (from + v / 64) (v % 64) e f (ap (λ x. bit_at x (v % 64)) (w.done (v / 64) small) ∙ omega (arith, or, bit, top))

pub copied : (from : ℕ) (set row : List ℕ) → ((j : ℕ) → j < length set → get_or set j 0 ≡ get_or row (from + j) 0) → (v : ℕ) → Has set v → Has row (64 * from + v)
copied from set row same v h =
    let lt = has_below set v h in
    let small : v / 64 < length set = omega (arith, lt) in
    let e : (64 * from + v) / 64 ≡ from + v / 64 = omega arith in
    let f : (64 * from + v) % 64 ≡ v % 64 = omega arith in
    has_from row (64 * from + v) (from + v / 64) (v % 64) e f (ap (λ x. bit_at x (v % 64)) (sym (same (v / 64) small)) ∙ has_in set v (v / 64) (v % 64) refl refl h)

pub no_bits : (set : List ℕ) → All (λ w. w ≡ 0) set → (v : ℕ) → Has set v → ⊥
unfolding Has
no_bits set zeros v h = elim (cases_lt (v / 64) (length set)) [
  | inr past_end ↦ past set v past_end h
  | inl lt ↦ (let e : bit_at (get_or set (v / 64) 0) (v % 64) ≡ 0 = ap (λ x. bit_at x (v % 64)) (zeros (v / 64) 0 lt) ∙ bit_at-zero (v % 64) in omega (arith, h, e))
]

pub met_at_kept : (from n : ℕ) (old other new : List ℕ) → n ≤ length other → AreWordsAt bit_and from n old other new → (v : ℕ) → Has old v →
    Has new v ⊎ ((64 * from ≤ v) × (v - 64 * from < 64 * length other) × (Has other (v - 64 * from) → ⊥))
met_at_kept from n old other new all w v h =
    let bit = has_in old v (v / 64) (v % 64) refl refl h in
    elim (cases_lt (v / 64) from) [
      | inl lt ↦ inl (has_from new v (v / 64) (v % 64) refl refl (ap (λ x. bit_at x (v % 64)) (w.before (v / 64) lt) ∙ bit))
      | inr ge ↦ elim (cases_lt (v / 64) (from + n)) [
        | inr far ↦ inl (has_from new v (v / 64) (v % 64) refl refl (ap (λ x. bit_at x (v % 64)) (w.behind (v / 64) (omega (arith, far))) ∙ bit))
        | inl lt ↦ (let j : ℕ = v / 64 - from in
            let e : v / 64 ≡ from + j = omega (arith, ge) in
            let small : j < n = omega (arith, lt, ge) in
            let low : 64 * from ≤ v = omega (arith, ge) in
            let below : v - 64 * from < 64 * length other = omega (arith, lt, all) in
            let place : (v - 64 * from) / 64 ≡ j = omega (arith, low) in
            let rest : (v - 64 * from) % 64 ≡ v % 64 = omega (arith, low) in
            let bit' : bit_at (get_or old (from + j) 0) (v % 64) ≡ 1 = has_in old v (from + j) (v % 64) e refl h in
            let both = bit_at_and (get_or old (from + j) 0) (get_or other j 0) (v % 64) in
            elim (cases_eq (bit_at (get_or other j 0) (v % 64)) 1) [
              | inl o ↦ inl (has_from new v (from + j) (v % 64) e refl (ap (λ x. bit_at x (v % 64)) (w.done j small) ∙ omega (arith, both, bit', o)))
              | inr ne ↦ inr (low, below, λ o. ne (has_in other (v - 64 * from) j (v % 64) place rest o))
            ])
      ]
    ]

pub removed_at : (from n : ℕ) (old other new : List ℕ) → AreWordsAt less_word from n old other new → (v : ℕ) → Has old v →
    Has new v ⊎ ((64 * from ≤ v) × Has other (v - 64 * from))
removed_at from n old other new w v h =
    let bit = has_in old v (v / 64) (v % 64) refl refl h in
    elim (cases_lt (v / 64) from) [
      | inl lt ↦ inl (has_from new v (v / 64) (v % 64) refl refl (ap (λ x. bit_at x (v % 64)) (w.before (v / 64) lt) ∙ bit))
      | inr ge ↦ elim (cases_lt (v / 64) (from + n)) [
        | inr far ↦ inl (has_from new v (v / 64) (v % 64) refl refl (ap (λ x. bit_at x (v % 64)) (w.behind (v / 64) (omega (arith, far))) ∙ bit))
        | inl lt ↦ (let j : ℕ = v / 64 - from in
            let e : v / 64 ≡ from + j = omega (arith, ge) in
            let small : j < n = omega (arith, lt, ge) in
            let bit' : bit_at (get_or old (from + j) 0) (v % 64) ≡ 1 = has_in old v (from + j) (v % 64) e refl h in
            let low : 64 * from ≤ v = omega (arith, ge) in
            elim (less_bit (get_or old (from + j) 0) (get_or other j 0) (v % 64) bit') [
              | inl a ↦ inl (has_from new v (from + j) (v % 64) e refl (ap (λ x. bit_at x (v % 64)) (w.done j small) ∙ a))
              | inr b ↦ inr (low, has_from other (v - 64 * from) j (v % 64) (omega (arith, low)) (omega (arith, low)) b)
            ])
      ]
    ]

pub within_at : (from : ℕ) (set other : List ℕ) → ((j : ℕ) → j < length other → bit_and (get_or set (from + j) 0) (get_or other j 0) ≡ get_or set (from + j) 0) →
    (v : ℕ) → v < 64 * length other → Has set (64 * from + v) → Has other v
within_at from set other each v lt h =
    let e : (64 * from + v) / 64 ≡ from + v / 64 = omega arith in
    let f : (64 * from + v) % 64 ≡ v % 64 = omega arith in
    let small : v / 64 < length other = omega (arith, lt) in
    let bit = has_in set (64 * from + v) (from + v / 64) (v % 64) e f h in
    let both = and_bit (get_or set (from + v / 64) 0) (get_or other (v / 64) 0) (v % 64) (ap (λ x. bit_at x (v % 64)) (each (v / 64) small) ∙ bit) in
    has_from other v (v / 64) (v % 64) refl refl both.1

-- a value is added
module _ (old new : List ℕ) (value : ℕ) (inside : value / 64 < length old) (set_is : new ≡ slice_set old (value / 64) (bit_or (get_or old (value / 64) 0) (1 * 2 ^ (value % 64) % 2 ^ 64))) where
  here : get_or new (value / 64) 0 ≡ bit_or (get_or old (value / 64) 0) (1 * 2 ^ (value % 64) % 2 ^ 64)
  here = ap (λ l. get_or l (value / 64) 0) set_is ∙ get_or-set_same old (value / 64) _ 0 inside

  there : (i : ℕ) → i ≢ value / 64 → get_or new i 0 ≡ get_or old i 0
  there i ne = ap (λ l. get_or l i 0) set_is ∙ get_or-set_other old (value / 64) i _ 0 ne

  same_bit : (v : ℕ) → (v ≡ value → ⊥) → bit_at (get_or new (v / 64) 0) (v % 64) ≡ bit_at (get_or old (v / 64) 0) (v % 64)
  same_bit v ne = elim (cases_eq (v / 64) (value / 64)) [
    | inr other ↦ ap (λ x. bit_at x (v % 64)) (there (v / 64) other)
    | inl e ↦ (let apart : v % 64 ≢ value % 64 = λ f. ne (omega (arith, e, f)) in
        ap (λ i. bit_at (get_or new i 0) (v % 64)) e ∙ ap (λ x. bit_at x (v % 64)) here
        ∙ bit_at_set_other w64 (get_or old (value / 64) 0) (value % 64) (omega arith) (v % 64) apart ∙ ap (λ i. bit_at (get_or old i 0) (v % 64)) (sym e))
  ]

  pub added : (v : ℕ) → Has new v ↔ (Has old v ⊎ (v ≡ value))
  unfolding Has
  added v = elim (cases_eq v value) [
    | inl e ↦ (λ h. inr e, λ h. rw e (ap (λ x. bit_at x (value % 64)) here ∙ bit_at_set_same w64 (get_or old (value / 64) 0) (value % 64) (omega arith)))
    | inr ne ↦ (λ h. inl (sym (same_bit v ne) ∙ h), λ h. elim h [ inl o ↦ same_bit v ne ∙ o | inr e ↦ absurd (ne e) ])
  ]
