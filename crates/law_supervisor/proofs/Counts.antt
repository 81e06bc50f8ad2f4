-- How often a child's number stands, and who owns it.
use Rattle.std.proofs.Common.{◌≡◌, ◌≢◌, ◌≤◌, ◌+◌, ◌==◌, ℕ, suc, zero, List, [], ◌∷◌, ◌++◌, map, Option, Some, None, Bool, true, false, refl, sym, ap, ◌∙◌}
use Rattle.std.proofs.Common.{inl, inr, arith, subst}
use Rattle.std.specs.Prelude.{slice_get, if◌then◌else◌, IsSome}
use Rattle.std.specs.List.{AllByRecursion}
use Rattle.std.proofs.lemmas.Bool.{eqb-true, eq-eqb}
use Rattle.std.proofs.lemmas.List.Elements.{All-from_recursion, recursion_from_All}
use Rattle.nuc_base.specs.declared.kinds.Step.{Step}
use Rattle.components.specs.Components.{ComponentState, Child, changed_at, child_of, owner, owner_from}
use Rattle.components.specs.Answers.{child_numbers, living_numbers}
use Rattle.law_supervisor.specs.Sound.{AreDistinct}
use Rattle.law_supervisor.proofs.Lists.{either, clash, some_same, no_some}
use Rattle.law_supervisor.proofs.Alone.{but}

abbrev pub count : ℕ → List ℕ → ℕ
count n [] = 0
count n (m ∷ ms) = (if m == n then 1 else 0) + count n ms

pub count_append : (n : ℕ) (ms ns : List ℕ) → count n (ms ++ ns) ≡ count n ms + count n ns
count_append n [] ns = omega arith
count_append n (m ∷ ms) ns = let i = count_append n ms ns in omega (arith, i)

-- ---- no number stands twice

none_count : (n : ℕ) (ms : List ℕ) → AllByRecursion (λ (m : ℕ). m ≢ n) ms → count n ms ≡ 0
none_count n [] a = refl
none_count n (m ∷ ms) a = elim (either (m == n)) [
  | inl e ↦ absurd (a.0 (eqb-true m n e))
  | inr e ↦ (let i = none_count n ms a.1 in rw e (omega (arith, i)))
]

count_none : (n : ℕ) (ms : List ℕ) → count n ms ≡ 0 → AllByRecursion (λ (m : ℕ). m ≢ n) ms
count_none n [] e = tt
count_none n (m ∷ ms) e = elim (m == n) as (λ (b : Bool). (m == n) ≡ b → (if b then 1 else 0) + count n ms ≡ 0 → AllByRecursion (λ (x : ℕ). x ≢ n) (m ∷ ms)) [
  | true ↦ λ q h. absurd (omega (arith, h))
  | false ↦ λ q h. ((λ i. clash (m == n) (eq-eqb m n i) q), count_none n ms (omega (arith, h)))
] refl e

pub differ_few : (ns : List ℕ) → AreDistinct ns → (n : ℕ) → count n ns ≤ 1
differ_few [] d n = omega arith
differ_few (m ∷ ms) d n = elim (either (m == n)) [
  | inl e ↦ (let z = none_count n ms (subst (λ (x : ℕ). AllByRecursion (λ (y : ℕ). y ≢ x) ms) (eqb-true m n e) (recursion_from_All (λ (y : ℕ). y ≢ m) ms d.0))
      in rw e (omega (arith, z)))
  | inr e ↦ (let i = differ_few ms d.1 n in rw e (omega (arith, i)))
]

rest_none : (b : Bool) (n : ℕ) → b ≡ true → (if b then 1 else 0) + n ≤ 1 → n ≡ 0
rest_none true n e l = omega (arith, l)
rest_none false n e l = absurd (cc)

pub few_differ : (ns : List ℕ) → ((n : ℕ) → count n ns ≤ 1) → AreDistinct ns
few_differ [] f = tt
few_differ (m ∷ ms) f = (
  All-from_recursion (λ (y : ℕ). y ≢ m) ms (count_none m ms (rest_none (m == m) (count m ms) (eq-eqb m m refl) (f m))),
  few_differ ms (λ n. let a = f n in omega (arith, a)),
)

-- ---- the children of one

pub count_but_self : (n : ℕ) (cs : List Child) → count n (child_numbers (but n cs)) ≡ 0
count_but_self n [] = refl
count_but_self n (c ∷ cs) = let i = count_but_self n cs in elim (either (c.number == n)) [ inl e ↦ rw e i | inr e ↦ rw e (rw e (omega (arith, i))) ]

pub count_but_other : (m n : ℕ) (cs : List Child) → (n == m) ≡ false → count m (child_numbers (but n cs)) ≡ count m (child_numbers cs)
count_but_other m n [] e = refl
count_but_other m n (c ∷ cs) e = let i = count_but_other m n cs e in elim (either (c.number == n)) [
  | inl y ↦ (let z : (c.number == m) ≡ false = subst (λ (x : ℕ). (x == m) ≡ false) (sym (eqb-true c.number n y)) e in rw y (rw z (omega (arith, i))))
  | inr y ↦ rw y (omega (arith, i))
]

pub count_but : (m n : ℕ) (cs : List Child) → count m (child_numbers (but n cs)) ≤ count m (child_numbers cs)
count_but m n cs = elim (either (n == m)) [
  | inl e ↦ (let i = subst (λ (x : ℕ). count x (child_numbers (but n cs)) ≡ 0) (eqb-true n m e) (count_but_self n cs) in omega (arith, i))
  | inr e ↦ (let i = count_but_other m n cs e in omega (arith, i))
]

-- ---- the children of all

-- one has other children
pub count_changed : (m k : ℕ) (g : ComponentState → ComponentState) (ps : List ComponentState) (p : ComponentState) → slice_get ps k ≡ Some p
    → count m (living_numbers (changed_at k g ps)) + count m (child_numbers p.children) ≡ count m (living_numbers ps) + count m (child_numbers (g p).children)
count_changed m k g [] p e = no_some p e
count_changed m zero g (q ∷ qs) p e =
    let y = ap (λ (x : ComponentState). count m (child_numbers x.children)) (some_same q p e) in
    let z = ap (λ (x : ComponentState). count m (child_numbers (g x).children)) (some_same q p e) in
    let a = count_append m (child_numbers (g q).children) (living_numbers qs) in
    let b = count_append m (child_numbers q.children) (living_numbers qs) in omega (arith, y, z, a, b)
count_changed m (suc k) g (q ∷ qs) p e =
    let i = count_changed m k g qs p e in
    let a = count_append m (child_numbers q.children) (living_numbers (changed_at k g qs)) in
    let b = count_append m (child_numbers q.children) (living_numbers qs) in omega (arith, i, a, b)

abbrev living_of : List (List Child) → List ℕ
living_of [] = []
living_of (cs ∷ css) = child_numbers cs ++ living_of css

living_is : (ps : List ComponentState) → living_numbers ps ≡ living_of (map (λ (p : ComponentState). p.children) ps)
living_is [] = refl
living_is (p ∷ ps) = ap (λ (ns : List ℕ). child_numbers p.children ++ ns) (living_is ps)

pub same_living : (ps qs : List ComponentState) → map (λ (p : ComponentState). p.children) qs ≡ map (λ (p : ComponentState). p.children) ps →
    living_numbers qs ≡ living_numbers ps
same_living ps qs e = living_is qs ∙ ap living_of e ∙ sym (living_is ps)

-- ---- owners

abbrev owner_of : ℕ → ℕ → List (List Child) → Option (ℕ × Step)
owner_of k n [] = None
owner_of k n (cs ∷ css) = elim (child_of n cs) [ None ↦ owner_of (k + 1) n css | Some c ↦ Some (k, c.of) ]

owner_is : (k n : ℕ) (ps : List ComponentState) → owner_from k n ps ≡ owner_of k n (map (λ (p : ComponentState). p.children) ps)
owner_is k n [] = refl
owner_is k n (p ∷ ps) = ap (λ (o : Option (ℕ × Step)). elim (child_of n p.children) [ None ↦ o | Some c ↦ Some (k, c.of) ]) (owner_is (k + 1) n ps)

pub same_owner : (n : ℕ) (ps qs : List ComponentState) → map (λ (p : ComponentState). p.children) qs ≡ map (λ (p : ComponentState). p.children) ps →
    owner n qs ≡ owner n ps
same_owner n ps qs e = owner_is 0 n qs ∙ ap (owner_of 0 n) e ∙ sym (owner_is 0 n ps)

child_count : (n : ℕ) (cs : List Child) → child_of n cs ≡ None → count n (child_numbers cs) ≡ 0
child_count n [] e = refl
child_count n (c ∷ cs) e = elim (c.number == n) as (λ (b : Bool). (if b then Some c else child_of n cs) ≡ None →
    (if b then 1 else 0) + count n (child_numbers cs) ≡ 0)
    [ true ↦ λ y. no_some c (sym y) | false ↦ λ y. (let i = child_count n cs y in omega (arith, i)) ] e

pub child_counted : (n : ℕ) (cs : List Child) (c : Child) → child_of n cs ≡ Some c → 1 ≤ count n (child_numbers cs)
child_counted n [] c e = no_some c e
child_counted n (d ∷ cs) c e = elim (d.number == n) as (λ (b : Bool). (if b then Some d else child_of n cs) ≡ Some c →
    1 ≤ (if b then 1 else 0) + count n (child_numbers cs))
    [ true ↦ λ y. omega arith | false ↦ λ y. (let i = child_counted n cs c y in omega (arith, i)) ] e

abbrev NoOwner : Option (ℕ × Step) → Type 0
NoOwner o = o ≡ None

some_owner : {A : Type 0} (x : ℕ × Step) → NoOwner (Some x) → A
some_owner x e = absurd (cc)

pub none_owns : (k n : ℕ) (ps : List ComponentState) → owner_from k n ps ≡ None → count n (living_numbers ps) ≡ 0
none_owns k n [] e = refl
none_owns k n (p ∷ ps) e = elim (child_of n p.children) as (λ (o : Option Child). child_of n p.children ≡ o →
    NoOwner (elim o [ None ↦ owner_from (k + 1) n ps | Some c ↦ Some (k, c.of) ]) → count n (child_numbers p.children ++ living_numbers ps) ≡ 0) [
      | None ↦ λ q y. (let i = none_owns (k + 1) n ps y in let a = child_count n p.children q in let b =
          count_append n (child_numbers p.children) (living_numbers ps) in omega (arith, i, a, b))
      | Some c ↦ λ q y. some_owner (k, c.of) y
    ] refl e

pub one_owns : (k n : ℕ) (ps : List ComponentState) → IsSome (owner_from k n ps) → 1 ≤ count n (living_numbers ps)
one_owns k n [] e = clash false e refl
one_owns k n (p ∷ ps) e = elim (child_of n p.children) as (λ (o : Option Child). child_of n p.children ≡ o →
    IsSome (elim o [ None ↦ owner_from (k + 1) n ps | Some c ↦ Some (k, c.of) ]) → 1 ≤ count n (child_numbers p.children ++ living_numbers ps)) [
      | None ↦ λ q y. (let i = one_owns (k + 1) n ps y in let b = count_append n (child_numbers p.children) (living_numbers ps) in omega (arith, i, b))
      | Some c ↦ λ q y. (let a = child_counted n p.children c q in let b = count_append n (child_numbers p.children) (living_numbers ps) in omega (arith, a, b))
    ] refl e

pub owns_one : (n : ℕ) (ps : List ComponentState) → 1 ≤ count n (living_numbers ps) → IsSome (owner n ps)
owns_one n ps c = elim (owner n ps) as (λ (o : Option (ℕ × Step)). owner n ps ≡ o → IsSome o)
    [ None ↦ λ e. (let z = none_owns 0 n ps e in absurd (omega (arith, z, c))) | Some x ↦ λ e. refl ] refl
