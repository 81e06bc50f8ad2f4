-- Numbers that stand once, in rising order.
use Rattle.std.proofs.Common.{◌≡◌, ◌<◌, ◌≤◌, ◌+◌, ◌==◌, ◌++◌, ℕ, suc, zero, List, [], ◌∷◌, length, get_or, drop, add-one, Bool, true, false, Option, Some}
use Rattle.std.proofs.Common.{None, refl, sym, ap, ◌∙◌, arith, subst, filter, inl, inr, MatchOption}
use Rattle.std.specs.Prelude.{◌||◌, nat_lt, min, if◌then◌else◌, IsSome}
use Rattle.std.specs.List.{AllByRecursion}
use Rattle.std.proofs.lemmas.Bool.{cases_eq, cases_lt, eq-eqb, eqb-true, ne_eqb, lt-ltb, le-ltb, ltb-true, ltb-false}
use Rattle.components.specs.Deadlines.{earlier}
use Rattle.components.specs.Numbers.{among, is_above, number_above, least_above, below, IsNumberAt}
use Rattle.components.specs.Readied.{AreApart}
use Rattle.nuc_base.specs.declared.kinds.Step.{Step}
use Rattle.components.specs.Answers.{living_numbers, child_numbers, IsLivingAt, IsNextLiving}
use Rattle.components.specs.Components.{Components, ComponentState, Child, owner, owner_from, child_of}
use Rattle.components.proofs.Apart.{no_child}
use Rattle.components.proofs.Deadline.{earlier_assoc}

-- ---- the least number above the last one

-- none of these is above
abbrev NoneAbove : Option ℕ → List ℕ → Type 0
NoneAbove last ns = AllByRecursion (λ x. is_above last x ≡ false) ns

-- it is above, it stands there, and none above is less
abbrev IsLeastAbove : Option ℕ → List ℕ → ℕ → Type 0
IsLeastAbove last ns m = (is_above last m ≡ true) × (among m ns ≡ true) × AllByRecursion (λ x. is_above last x ≡ true → m ≤ x) ns

or_last : (a b : Bool) → b ≡ true → (a || b) ≡ true
or_last true b e = refl
or_last false b e = e

or_first : (a b : Bool) → a ≡ true → (a || b) ≡ true
or_first a b e = rw e refl

none_lower : (last : Option ℕ) (n : ℕ) (ns : List ℕ) → NoneAbove last ns → AllByRecursion (λ x. is_above last x ≡ true → n ≤ x) ns
none_lower last n [] h = tt
none_lower last n (x ∷ xs) h = ((λ e. let f = h.0 in absurd (cc)), none_lower last n xs h.1)

lower : (last : Option ℕ) (n m : ℕ) (ns : List ℕ) → n ≤ m → AllByRecursion (λ x. is_above last x ≡ true → m ≤ x) ns →
    AllByRecursion (λ x. is_above last x ≡ true → n ≤ x) ns
lower last n m [] l h = tt
lower last n m (x ∷ xs) l h = ((λ e. let f = h.0 e in omega (arith, l, f)), lower last n m xs l h.1)

least_step : (last : Option ℕ) (n : ℕ) (ns : List ℕ) (b : Bool) → is_above last n ≡ b → (r : Option ℕ) →
    MatchOption r (NoneAbove last ns) (IsLeastAbove last ns)
    → MatchOption (earlier (if b then Some n else None) r) (NoneAbove last (n ∷ ns)) (IsLeastAbove last (n ∷ ns))
least_step last n ns false e None i = (e, i)
least_step last n ns false e (Some m) i = (i.0, or_last (n == m) (among m ns) i.1, ((λ h. absurd (cc)), i.2))
least_step last n ns true e None i = (e, or_first (n == n) (among n ns) (eq-eqb n n refl), ((λ h. omega arith), none_lower last n ns i))
least_step last n ns true e (Some m) i = elim (cases_lt n m) [
  | inl l ↦ subst (IsLeastAbove last (n ∷ ns)) (let q : n ≡ min n m = omega (arith, l) in q) (
    e,
    or_first (n == n) (among n ns) (eq-eqb n n refl),
    ((λ h. omega arith), lower last n m ns (omega (arith, l)) i.2),
  )
  | inr l ↦ subst (IsLeastAbove last (n ∷ ns)) (let q : m ≡ min n m = omega (arith, l) in q) (
    i.0,
    or_last (n == m) (among m ns) i.1,
    ((λ h. omega (arith, l)), i.2),
  )
]

least_is : (last : Option ℕ) (ns : List ℕ) → MatchOption (least_above last ns) (NoneAbove last ns) (IsLeastAbove last ns)
least_is last [] = tt
least_is last (n ∷ ns) = least_step last n ns (is_above last n) refl (least_above last ns) (least_is last ns)

-- ---- how many are below

first_below : (m : ℕ) (ns : List ℕ) → AllByRecursion (λ x. true ≡ true → m ≤ x) ns → below m ns ≡ 0
first_below m [] h = refl
first_below m (x ∷ xs) h =
    let f = h.0 refl in
    let g : nat_lt x m ≡ false = le-ltb x m f in
    let i = first_below m xs h.1 in
    rw g (omega (arith, i))

others_below : (n m : ℕ) (ns : List ℕ) → n < m → AllByRecursion (λ x. nat_lt n x ≡ true → m ≤ x) ns → AllByRecursion (λ x. (x == n) ≡ false) ns →
    below m ns ≡ below n ns
others_below n m [] l h o = refl
others_below n m (x ∷ xs) l h o =
    let i = others_below n m xs l h.1 o.1 in
    elim (cases_lt n x) [
      | inl k ↦ (let a : nat_lt x m ≡ false = le-ltb x m (h.0 (lt-ltb n x k)) in let b : nat_lt x n ≡ false = le-ltb x n (omega (arith, k)) in
          rw (a, b) (omega (arith, i)))
      | inr k ↦ (let ne : (x ≡ n → ⊥) = λ q. (let t = eq-eqb x n q in let u = o.0 in absurd (cc)) in
          let s : x < n = omega (arith, k, ne) in
          let a : nat_lt x m ≡ true = lt-ltb x m (omega (arith, s, l)) in let b : nat_lt x n ≡ true = lt-ltb x n s in rw (a, b) (omega (arith, i)))
    ]

not_among : (n : ℕ) (ns : List ℕ) → among n ns ≡ false → AllByRecursion (λ x. (x == n) ≡ false) ns
not_among n [] e = tt
not_among n (x ∷ xs) e = not_among_at (x == n) (among n xs) e (not_among n xs) where
  not_among_at : (a b : Bool) → (a || b) ≡ false → (b ≡ false → AllByRecursion (λ x. (x == n) ≡ false) xs) → (a ≡ false) ×
      AllByRecursion (λ x. (x == n) ≡ false) xs
  not_among_at true b f k = absurd (cc)
  not_among_at false b f k = (refl, k f)

-- one more comes before the next number
next_below : (n m : ℕ) (ns : List ℕ) → n < m → AreApart ns → among n ns ≡ true → AllByRecursion (λ x. nat_lt n x ≡ true → m ≤ x) ns →
    below m ns ≡ below n ns + 1
next_below n m [] l a e h = absurd (cc)
next_below n m (x ∷ xs) l a e h = elim (cases_eq x n) [
  | inl q ↦ (let o : among n xs ≡ false = subst (λ y. among y xs ≡ false) q a.0 in
      let i = others_below n m xs l h.1 (not_among n xs o) in
      let s : nat_lt x m ≡ true = lt-ltb x m (omega (arith, l, q)) in
      let t : nat_lt x n ≡ false = le-ltb x n (omega (arith, q)) in rw (s, t) (omega (arith, i)))
  | inr ne ↦ (let f : (x == n) ≡ false = ne_eqb x n ne in
      let g : among n xs ≡ true = subst (λ (b : Bool). (b || among n xs) ≡ true) f e in
      let i = next_below n m xs l a.1 g h.1 in
      elim (cases_lt n x) [
        | inl k ↦ (let s : nat_lt x m ≡ false = le-ltb x m (h.0 (lt-ltb n x k)) in let t : nat_lt x n ≡ false = le-ltb x n (omega (arith, k)) in
            rw (s, t) (omega (arith, i)))
        | inr k ↦ (let y : x < n = omega (arith, k, ne) in
            let s : nat_lt x m ≡ true = lt-ltb x m (omega (arith, y, l)) in let t : nat_lt x n ≡ true = lt-ltb x n y in rw (s, t) (omega (arith, i)))
      ])
]

-- where none is above, all but the last come before it
all_others : (n : ℕ) (ns : List ℕ) → NoneAbove (Some n) ns → AllByRecursion (λ x. (x == n) ≡ false) ns → length ns ≡ below n ns
all_others n [] h o = refl
all_others n (x ∷ xs) h o =
    let k = ltb-false n x h.0 in
    let ne : (x ≡ n → ⊥) = λ q. (let t = eq-eqb x n q in let u = o.0 in absurd (cc)) in
    let t : nat_lt x n ≡ true = lt-ltb x n (omega (arith, k, ne)) in
    let i = all_others n xs h.1 o.1 in
    rw t (omega (arith, i))

all_below : (n : ℕ) (ns : List ℕ) → AreApart ns → among n ns ≡ true → NoneAbove (Some n) ns → length ns ≡ below n ns + 1
all_below n [] a e h = absurd (cc)
all_below n (x ∷ xs) a e h = elim (cases_eq x n) [
  | inl q ↦ (let o : among n xs ≡ false = subst (λ y. among y xs ≡ false) q a.0 in
      let i = all_others n xs h.1 (not_among n xs o) in
      let t : nat_lt x n ≡ false = le-ltb x n (omega (arith, q)) in rw t (omega (arith, i)))
  | inr ne ↦ (let f : (x == n) ≡ false = ne_eqb x n ne in
      let g : among n xs ≡ true = subst (λ (b : Bool). (b || among n xs) ≡ true) f e in
      let k = ltb-false n x h.0 in
      let t : nat_lt x n ≡ true = lt-ltb x n (omega (arith, k, ne)) in
      let i = all_below n xs a.1 g h.1 in rw t (omega (arith, i)))
]

no_numbers : (ns : List ℕ) → NoneAbove None ns → length ns ≡ 0
no_numbers [] h = refl
no_numbers (x ∷ xs) h = let e = h.0 in absurd (cc)

-- ---- one number after another

first_by : (ns : List ℕ) (r : Option ℕ) → MatchOption r (NoneAbove None ns) (IsLeastAbove None ns) → IsNumberAt ns 0 r
first_by ns None h = let e = no_numbers ns h in omega (arith, e)
first_by ns (Some m) h = (h.1, first_below m ns h.2)

pub first_number : (ns : List ℕ) → IsNumberAt ns 0 (least_above None ns)
first_number ns = first_by ns (least_above None ns) (least_is None ns)

next_by : (ns : List ℕ) (at n : ℕ) (r : Option ℕ) → AreApart ns → IsNumberAt ns at (Some n) → MatchOption r (NoneAbove (Some n) ns) (IsLeastAbove (Some n) ns)
    → IsNumberAt ns (at + 1) r
next_by ns at n None a i h = let e = all_below n ns a i.0 h in let f = i.1 in omega (arith, e, f)
next_by ns at n (Some m) a i h = (h.1, next_below n m ns (ltb-true n m h.0) a i.0 h.2 ∙ ap (λ (k : ℕ). k + 1) i.1)

pub next_number : (ns : List ℕ) (at n : ℕ) → AreApart ns → IsNumberAt ns at (Some n) → IsNumberAt ns (at + 1) (least_above (Some n) ns)
next_number ns at n a i = next_by ns at n (least_above (Some n) ns) a i (least_is (Some n) ns)

pub none_later : (ns : List ℕ) (i at : ℕ) → i ≤ at → IsNumberAt ns i None → IsNumberAt ns at None
none_later ns i at l h = omega (arith, l, h)

-- ---- over all components

least_append : (last : Option ℕ) (xs ys : List ℕ) → least_above last (xs ++ ys) ≡ earlier (least_above last xs) (least_above last ys)
least_append last [] ys = refl
least_append last (x ∷ xs) ys =
    ap (λ (o : Option ℕ). earlier (number_above last x) o) (least_append last xs ys)
    ∙ sym (earlier_assoc (number_above last x) (least_above last xs) (least_above last ys))

pub number_next : (last : Option ℕ) (ps : List ComponentState) (k : ℕ) (d : ComponentState) (o r : Option ℕ) (cs : List Child) → k < length ps →
    d ≡ get_or ps k d → cs ≡ d.children → r ≡ earlier o (least_above last (child_numbers cs))
    → earlier o (least_above last (living_numbers (drop k ps))) ≡ earlier r (least_above last (living_numbers (drop (k + 1) ps)))
number_next last [] k d o r cs l e f g = absurd (omega (arith, l))
number_next last (p ∷ ps) zero d o r cs l e f g =
    let q : cs ≡ p.children = f ∙ ap (λ (x : ComponentState). x.children) e in
    ap (λ (x : Option ℕ). earlier o x) (least_append last (child_numbers p.children) (living_numbers ps))
    ∙ sym (earlier_assoc o (least_above last (child_numbers p.children)) (least_above last (living_numbers ps)))
    ∙ ap (λ (x : Option ℕ). earlier x (least_above last (living_numbers ps)))
    (sym (g ∙ ap (λ (ds : List Child). earlier o (least_above last (child_numbers ds))) q))
number_next last (p ∷ ps) (suc k) d o r cs l e f g = rw (add-one (suc k)) (rw (add-one k) at (number_next last ps k d o r cs (omega (arith, l)) e f g))

-- ---- a number that stands there has an owner

abbrev owner_at : ℕ → ℕ → List ComponentState → Option Child → Option (ℕ × Step)
owner_at k n ps o = elim o [ None ↦ owner_from (k + 1) n ps | Some c ↦ Some (k, c.of) ]

left_among : (n : ℕ) (xs ys : List ℕ) → among n xs ≡ false → among n (xs ++ ys) ≡ true → among n ys ≡ true
left_among n [] ys e f = f
left_among n (x ∷ xs) ys e f = left_at (x == n) (among n xs) (among n (xs ++ ys)) e f (λ g h. left_among n xs ys g h) where
  left_at : (a b d : Bool) → (a || b) ≡ false → (a || d) ≡ true → (b ≡ false → d ≡ true → among n ys ≡ true) → among n ys ≡ true
  left_at true b d g h k = absurd (cc)
  left_at false b d g h k = k g h

owned_at : (k n : ℕ) (p : ComponentState) (ps : List ComponentState) (o : Option Child) → child_of n p.children ≡ o →
    among n (child_numbers p.children ++ living_numbers ps) ≡ true
    → (among n (living_numbers ps) ≡ true → IsSome (owner_from (k + 1) n ps)) → IsSome (owner_at k n ps o)
owned_at k n p ps (Some c) h e f = refl
owned_at k n p ps None h e f = f (left_among n (child_numbers p.children) (living_numbers ps) (no_child n p.children h) e)

pub owned : (k n : ℕ) (ps : List ComponentState) → among n (living_numbers ps) ≡ true → IsSome (owner_from k n ps)
owned k n [] e = absurd (cc)
owned k n (p ∷ ps) e = owned_at k n p ps (child_of n p.children) refl e (owned (k + 1) n ps)

below_filter : (n : ℕ) (ns : List ℕ) → length (filter (λ m. nat_lt m n) ns) ≡ below n ns
below_filter n [] = refl
below_filter n (x ∷ xs) = below_at (nat_lt x n) (below_filter n xs) where
  below_at : (b : Bool) → length (filter (λ m. nat_lt m n) xs) ≡ below n xs →
      length (if b then x ∷ filter (λ m. nat_lt m n) xs else filter (λ m. nat_lt m n) xs) ≡ (if b then 1 else 0) + below n xs
  below_at true e = omega (arith, e)
  below_at false e = omega (arith, e)

pub living_is : (w : Components) (at : ℕ) (r : Option ℕ) → IsNumberAt (living_numbers w.parts) at r → IsLivingAt w at r
living_is w at None h = h
living_is w at (Some n) h = (owned 0 n w.parts h.0, below_filter n (living_numbers w.parts) ∙ h.1)

-- ---- and who has an owner stands there

pub has_number : (n : ℕ) (cs : List Child) (c : Child) → child_of n cs ≡ Some c → among n (child_numbers cs) ≡ true
has_number n [] c e = absurd (cc)
has_number n (d ∷ ds) c e = has_at (d.number == n) e (has_number n ds c) where
  has_at : (b : Bool) → (if b then Some d else child_of n ds) ≡ Some c → (child_of n ds ≡ Some c → among n (child_numbers ds) ≡ true) →
      (b || among n (child_numbers ds)) ≡ true
  has_at true q i = refl
  has_at false q i = i q

among_prefix : (n : ℕ) (xs ys : List ℕ) → among n xs ≡ true → among n (xs ++ ys) ≡ true
among_prefix n [] ys e = absurd (cc)
among_prefix n (x ∷ xs) ys e = prefix_at (x == n) e (among_prefix n xs ys) where
  prefix_at : (b : Bool) → (b || among n xs) ≡ true → (among n xs ≡ true → among n (xs ++ ys) ≡ true) → (b || among n (xs ++ ys)) ≡ true
  prefix_at true q i = refl
  prefix_at false q i = i q

among_back : (n : ℕ) (xs ys : List ℕ) → among n ys ≡ true → among n (xs ++ ys) ≡ true
among_back n [] ys e = e
among_back n (x ∷ xs) ys e = or_last (x == n) (among n (xs ++ ys)) (among_back n xs ys e)

owner_stands_at : (k n : ℕ) (p : ComponentState) (ps : List ComponentState) (o : Option Child) → child_of n p.children ≡ o → IsSome (owner_at k n ps o) →
    (IsSome (owner_from (k + 1) n ps) → among n (living_numbers ps) ≡ true)
    → among n (child_numbers p.children ++ living_numbers ps) ≡ true
owner_stands_at k n p ps None q e i = among_back n (child_numbers p.children) (living_numbers ps) (i e)
owner_stands_at k n p ps (Some c) q e i = among_prefix n (child_numbers p.children) (living_numbers ps) (has_number n p.children c q)

pub owner_stands : (k n : ℕ) (ps : List ComponentState) → IsSome (owner_from k n ps) → among n (living_numbers ps) ≡ true
owner_stands k n [] e = absurd (cc)
owner_stands k n (p ∷ ps) e = owner_stands_at k n p ps (child_of n p.children) refl e (owner_stands (k + 1) n ps)

-- ---- the next one that lives

one_of : (P : ℕ → Type 0) (n : ℕ) (ns : List ℕ) → AllByRecursion P ns → among n ns ≡ true → P n
one_of P n [] a e = absurd (cc)
one_of P n (x ∷ xs) a e = one_at (x == n) refl e (one_of P n xs a.1) where
  one_at : (b : Bool) → (x == n) ≡ b → (b || among n xs) ≡ true → (among n xs ≡ true → P n) → P n
  one_at true q h i = subst P (eqb-true x n q) a.0
  one_at false q h i = i h

living_by : (w : Components) (last r : Option ℕ) → MatchOption r (NoneAbove last (living_numbers w.parts)) (IsLeastAbove last (living_numbers w.parts)) →
    IsNextLiving w last r
living_by w last None h = λ n o. one_of (λ x. is_above last x ≡ false) n (living_numbers w.parts) h (owner_stands 0 n w.parts o)
living_by w last (Some m) h = (
  owned 0 m w.parts h.1,
  h.0,
  (λ n o above. one_of (λ x. is_above last x ≡ true → m ≤ x) n (living_numbers w.parts) h.2
      (owner_stands 0 n w.parts o) above),
)

pub next_living : (w : Components) (last r : Option ℕ) → r ≡ least_above last (living_numbers w.parts) → IsNextLiving w last r
next_living w last r is = subst (IsNextLiving w last) (sym is)
    (living_by w last (least_above last (living_numbers w.parts)) (least_is last (living_numbers w.parts)))
