-- Names and their numbers among candidates that rise.
use Rattle.std.proofs.Common.{◌≡◌, ◌≢◌, ℕ, ◌+◌, ◌-◌, ◌<◌, ◌≤◌, ◌⊎◌, Bool, true, false, List, length, get_or, Option, Some, None, option_map, refl, sym, ap}
use Rattle.std.proofs.Common.{◌∙◌, subst, inl, inr, arith}
use Rattle.std.specs.Prelude.{slice_get}
use Rattle.std.specs.Ordering.{nat_cmp, is_lt, is_le, ordering_reverse}
use Rattle.std.specs.List.Sorted.{IsPartitionedBy, IsPartitionPoint}
use Rattle.std.specs.Cmp.Lexicographic.{slice_cmp, nat_list_cmp_total}
use Rattle.std.specs.declared.cmp.Ordering.{Ordering}
use Rattle.std.specs.declared.cmp.Ordering.TheVariants.{Less, Equal, Greater}
use Rattle.std.proofs.lemmas.Bool.{cases_eq, cases_lt, false≢true}
use Rattle.std.proofs.lemmas.Map.Lookups.{exact_bytes}
use Rattle.std.proofs.lemmas.Option.{same_Some, slice_get-map, slice_get-get_or, slice_get_within, get_or_from_slice_get, none-some}
use Rattle.recipe_reader.specs.Members.{Member, member, members, IsBefore, IsRising}
use Rattle.recipe_reader.specs.Sets.{name_in, name_of, IsUpTo}
use Rattle.recipe_reader.specs.declared.candidate.Candidate.{Candidate}
use Rattle.recipe_reader.proofs.NameOrder.{up_to_refl, up_to_trans, up_to_antisym, up_to_from_before}
use Rattle.recipe_reader.proofs.Orders.{before_at}
use Rattle.conflict_search.specs.Numbers.{IsNumber, IsUnknown, IsFirstPlace, IsNumberAt, is_up_to, is_less}

-- there is only one number of a name
pub number_same : (ms : List Member) (n : List ℕ) (j k : ℕ) → IsNumber ms n j → IsNumber ms n k → j ≡ k
number_same ms n j k h i =
    let a = i.last j h.named in
    let b = h.last k i.named in
    omega (arith, a, b)

-- ---- tests of the order of names

up_to_true : (o : Ordering) → is_le o ≡ true → o ≡ Greater → ⊥
up_to_true Less e f = cc
up_to_true Equal e f = cc
up_to_true Greater e f = false≢true e

up_to_false : (o : Ordering) → is_le o ≡ false → o ≡ Greater
up_to_false Less e = absurd (false≢true (sym e))
up_to_false Equal e = absurd (false≢true (sym e))
up_to_false Greater e = refl

less_true : (o : Ordering) → is_lt o ≡ true → o ≡ Less
less_true Less e = refl
less_true Equal e = absurd (false≢true e)
less_true Greater e = absurd (false≢true e)

not_greater : (o : Ordering) → (o ≡ Greater → ⊥) → is_le o ≡ true
not_greater Less n = refl
not_greater Equal n = refl
not_greater Greater n = absurd (n refl)

is_less_from : (o : Ordering) → o ≡ Less → is_lt o ≡ true
is_less_from Less e = refl
is_less_from Equal e = cc
is_less_from Greater e = cc

reversed_less : (o : Ordering) → ordering_reverse o ≡ Less → o ≡ Greater
reversed_less Less e = cc
reversed_less Equal e = cc
reversed_less Greater e = refl

reversed_greater : (o : Ordering) → o ≡ Greater → ordering_reverse o ≡ Less
reversed_greater Less e = cc
reversed_greater Equal e = cc
reversed_greater Greater e = refl

pub up_to_test : (n m : List ℕ) → IsUpTo n m → is_up_to n m ≡ true
up_to_test n m h =
    let total = nat_list_cmp_total in
    not_greater (slice_cmp nat_cmp n m) (λ e. h (total.antisymm m n ∙ reversed_greater (slice_cmp nat_cmp n m) e))

pub up_to_tested : (n m : List ℕ) → is_up_to n m ≡ true → IsUpTo n m
up_to_tested n m t = λ e.
    let total = nat_list_cmp_total in
    up_to_true (slice_cmp nat_cmp n m) t (reversed_less (slice_cmp nat_cmp n m) (sym (total.antisymm m n) ∙ e))

-- what is not up to a name comes after it
pub after_tested : (n m : List ℕ) → is_up_to n m ≡ false → n ≡ m → ⊥
after_tested n m t e = false≢true (sym t ∙ up_to_test n m (subst (IsUpTo n) e (up_to_refl n)))

pub less_tested : (n m : List ℕ) → is_less n m ≡ true → n ≡ m → ⊥
less_tested n m t e = up_to_refl m (subst (λ z. slice_cmp nat_cmp z m ≡ Less) e (less_true (slice_cmp nat_cmp n m) t))

less_by : (n m p : List ℕ) (o : Ordering) → slice_cmp nat_cmp m n ≡ o → IsUpTo n m → slice_cmp nat_cmp m p ≡ Less → slice_cmp nat_cmp n p ≡ Less
less_by n m p Less e h less = absurd (h e)
less_by n m p Equal e h less = subst (λ z. slice_cmp nat_cmp z p ≡ Less) (exact_bytes m n e) less
less_by n m p Greater e h less = (let total = nat_list_cmp_total in total.trans n m p (total.antisymm n m ∙ ap ordering_reverse e) less)

less_up_to : (n m p : List ℕ) → IsUpTo n m → slice_cmp nat_cmp m p ≡ Less → slice_cmp nat_cmp n p ≡ Less
less_up_to n m p h less = less_by n m p (slice_cmp nat_cmp m n) refl h less

not_less_up_to : (n m : List ℕ) → is_less n m ≡ false → IsUpTo m n
not_less_up_to n m t = λ e. false≢true (sym t ∙ is_less_from (slice_cmp nat_cmp n m) e)

-- ---- candidates

-- one stands there, where there is a name
candidate_in : (o : Option Candidate) (n : List ℕ) → name_in (option_map member o) ≡ Some n → (c : Candidate) × (o ≡ Some c) × (c.recipe.name ≡ n)
candidate_in None n e = absurd (none-some n e)
candidate_in (Some c) n e = (c, refl, same_Some c.recipe.name n e)

candidate_at : (cs : List Candidate) (p : ℕ) (n : List ℕ) → name_of (members cs) p ≡ Some n → (c : Candidate) × (slice_get cs p ≡ Some c) × (c.recipe.name ≡ n)
candidate_at cs p n e = candidate_in (slice_get cs p) n (ap name_in (sym (slice_get-map member cs p)) ∙ e)

name_there : (cs : List Candidate) (p : ℕ) (n : List ℕ) (d : Candidate) → name_of (members cs) p ≡ Some n → (get_or cs p d).recipe.name ≡ n
name_there cs p n d e = let r = candidate_at cs p n e in ap (λ (c : Candidate). c.recipe.name) (get_or_from_slice_get cs p r.0 d r.1) ∙ r.2

pub within_there : (cs : List Candidate) (p : ℕ) (n : List ℕ) → name_of (members cs) p ≡ Some n → p < length cs
within_there cs p n e = let r = candidate_at cs p n e in slice_get_within cs p r.0 r.1

pub name_is : (cs : List Candidate) (p : ℕ) (d : Candidate) → p < length cs → name_of (members cs) p ≡ Some (get_or cs p d).recipe.name
name_is cs p d lt = ap name_in (slice_get-map member cs p ∙ ap (option_map member) (slice_get-get_or cs p d lt))

-- names rise with places
pub names_rise : (cs : List Candidate) (i j : ℕ) (d : Candidate) → IsRising (members cs) → i ≤ j → j < length cs →
    IsUpTo (get_or cs i d).recipe.name (get_or cs j d).recipe.name
names_rise cs i j d up le lt = elim (cases_eq i j) [
  | inl e ↦ subst (λ z. IsUpTo (get_or cs i d).recipe.name (get_or cs z d).recipe.name) e (up_to_refl (get_or cs i d).recipe.name)
  | inr ne ↦ elim (before_at cs i j d up (omega (arith, le, ne)) lt) [
    | inl less ↦ up_to_from_before (get_or cs i d).recipe.name (get_or cs j d).recipe.name less
    | inr later ↦ subst (IsUpTo (get_or cs i d).recipe.name) later.0 (up_to_refl (get_or cs i d).recipe.name)
  ]
]

pub numbers_rise : (cs : List Candidate) (i j : ℕ) (n m : List ℕ) → IsRising (members cs) → i ≤ j → name_of (members cs) i ≡ Some n →
    name_of (members cs) j ≡ Some m → IsUpTo n m
numbers_rise cs i j n m up le e f =
    let r = candidate_at cs i n e in
    let d = r.0 in
    subst (λ z. IsUpTo z m) (name_there cs i n d e)
    (subst (IsUpTo (get_or cs i d).recipe.name) (name_there cs j m d f) (names_rise cs i j d up le (within_there cs j m f)))

pub up_to_parted : (cs : List Candidate) (n : List ℕ) → IsRising (members cs) → IsPartitionedBy (λ (c : Candidate). is_up_to c.recipe.name n) cs
up_to_parted cs n up = λ i j d le lt t.
    up_to_test (get_or cs i d).recipe.name n
    (up_to_trans (get_or cs i d).recipe.name (get_or cs j d).recipe.name n (names_rise cs i j d up le lt) (up_to_tested (get_or cs j d).recipe.name n t))

pub less_parted : (cs : List Candidate) (n : List ℕ) → IsRising (members cs) → IsPartitionedBy (λ (c : Candidate). is_less c.recipe.name n) cs
less_parted cs n up = λ i j d le lt t.
    is_less_from (slice_cmp nat_cmp (get_or cs i d).recipe.name n)
    (less_up_to (get_or cs i d).recipe.name (get_or cs j d).recipe.name n (names_rise cs i j d up le lt) (less_true (slice_cmp nat_cmp
    (get_or cs j d).recipe.name n) t))

-- ---- what halving finds

module _ (cs : List Candidate) (n : List ℕ) (end : ℕ) (h : IsPartitionPoint (λ (c : Candidate). is_up_to c.recipe.name n ≡ true) (λ (c : Candidate). is_up_to
    c.recipe.name n ≡ false) cs end) where
  -- no place from there on has the name
  none_from : (p : ℕ) → end ≤ p → name_of (members cs) p ≡ Some n → ⊥
  none_from p le e =
      let r = candidate_at cs p n e in
      after_tested (get_or cs p r.0).recipe.name n (h.1 p r.0 le (within_there cs p n e)) (name_there cs p n r.0 e)

  below_end : (p : ℕ) → name_of (members cs) p ≡ Some n → p < end
  below_end p e = elim (cases_lt p end) [ inl lt ↦ lt | inr le ↦ absurd (none_from p le e) ]

  pub unknown_from_start : end ≡ 0 → IsUnknown (members cs) n
  unknown_from_start z = λ p e. none_from p (omega (arith, z)) e

  pub unknown_from_other : (m : List ℕ) → IsRising (members cs) → 0 < end → name_of (members cs) (end - 1) ≡ Some m → (m ≡ n → ⊥) → IsUnknown (members cs) n
  unknown_from_other m up some e other = λ p f.
      let below = below_end p f in
      let le : p ≤ end - 1 = omega (arith, below) in
      let lt : end - 1 < end = omega (arith, some) in
      let r = candidate_at cs (end - 1) m e in
      let up_to = subst (λ z. IsUpTo z n) (name_there cs (end - 1) m r.0 e) (up_to_tested (get_or cs (end - 1) r.0).recipe.name n (h.0 (end - 1) r.0
      (omega arith) lt)) in
      other (up_to_antisym m n up_to (numbers_rise cs p (end - 1) n m up le f e))

  pub number_found : 0 < end → name_of (members cs) (end - 1) ≡ Some n → IsNumber (members cs) n (end - 1)
  number_found some e = record { named = e; last = λ p f. (let lt = below_end p f in omega (arith, lt)) }

pub first_found : (cs : List Candidate) (n : List ℕ) (start p : ℕ) → IsPartitionPoint (λ (c : Candidate). is_less c.recipe.name n ≡ true)
    (λ (c : Candidate). is_less c.recipe.name n ≡ false) cs start → IsRising (members cs) → name_of (members cs) p ≡ Some n → IsFirstPlace (members cs) n start
first_found cs n start p h up e =
    let from : (q : ℕ) → name_of (members cs) q ≡ Some n → start ≤ q =
    λ q f. elim (cases_lt q start) [
      | inl lt ↦ (let r = candidate_at cs q n f in absurd (less_tested (get_or cs q r.0).recipe.name n (h.0 q r.0 (omega arith) lt) (name_there cs q n r.0 f)))
      | inr le ↦ le
    ] in
    let le = from p e in
    let r = candidate_at cs p n e in
    let within : start < length cs = (let lt = within_there cs p n e in omega (arith, le, lt)) in
    let m = (get_or cs start r.0).recipe.name in
    let here = name_is cs start r.0 within in
    let down = numbers_rise cs start p m n up le here e in
    let same : m ≡ n = up_to_antisym m n down (not_less_up_to m n (h.1 start r.0 (omega arith) within)) in
    record { named = here ∙ ap Some same; least = from }

-- between two places of a name all have it
pub named_between : (cs : List Candidate) (n : List ℕ) (first p last : ℕ) → IsRising (members cs) → name_of (members cs) first ≡ Some n →
    name_of (members cs) last ≡ Some n → first ≤ p → p ≤ last → name_of (members cs) p ≡ Some n
named_between cs n first p last up e f low high =
    let r = candidate_at cs last n f in
    let within : p < length cs = (let lt = within_there cs last n f in omega (arith, lt, high)) in
    let here = name_is cs p r.0 within in
    let m = (get_or cs p r.0).recipe.name in
    here ∙ ap Some (up_to_antisym m n (numbers_rise cs p last m n up high here f) (numbers_rise cs first p n m up low e here))
