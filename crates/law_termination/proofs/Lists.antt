-- What stands in a list.
use Rattle.std.proofs.Common.{◌≡◌, ◌≤◌, ℕ, List, [], ◌∷◌, Bool, true, false, refl, sym, ap, ◌∙◌, ◌⊎◌, inl, inr, subst, arith}
use Rattle.std.specs.Prelude.{◌||◌}
use Rattle.std.specs.List.{list_any, list_all, AllByRecursion}
use Rattle.std.proofs.lemmas.Bool.{or_parts, or_left, or_right, and_parts, cases_lt}
use Rattle.law_supervisor.proofs.Lists.{either, clash}

abbrev pub Has : {X : Type 0} → X → List X → Type 0
Has p [] = ⊥
Has p (q ∷ qs) = (p ≡ q) ⊎ Has p qs

pub each_has : {X : Type 0} (P : X → Type 0) (p : X) (ps : List X) → Has p ps → AllByRecursion P ps → P p
each_has P p [] h a = absurd h
each_has P p (q ∷ qs) (inl e) a = subst P (sym e) a.0
each_has P p (q ∷ qs) (inr h) a = each_has P p qs h a.1

pub any_has : {X : Type 0} (f : X → Bool) (p : X) (ps : List X) → Has p ps → list_any f ps ≡ false → f p ≡ false
any_has f p [] h a = absurd h
any_has f p (q ∷ qs) (inl e) a = ap f e ∙ (or_parts (f q) (list_any f qs) a).0
any_has f p (q ∷ qs) (inr h) a = any_has f p qs h (or_parts (f q) (list_any f qs) a).1

pub has_any : {X : Type 0} (f : X → Bool) (p : X) (ps : List X) → Has p ps → f p ≡ true → list_any f ps ≡ true
has_any f p [] h a = absurd h
has_any f p (q ∷ qs) (inl e) a = or_left (f q) (list_any f qs) (sym (ap f e) ∙ a)
has_any f p (q ∷ qs) (inr h) a = or_right (f q) (list_any f qs) (has_any f p qs h a)

pub all_has : {X : Type 0} (f : X → Bool) (p : X) (ps : List X) → Has p ps → list_all f ps ≡ true → f p ≡ true
all_has f p [] h a = absurd h
all_has f p (q ∷ qs) (inl e) a = ap f e ∙ (and_parts (f q) (list_all f qs) a).0
all_has f p (q ∷ qs) (inr h) a = all_has f p qs h (and_parts (f q) (list_all f qs) a).1

-- one that passes a test
pub record Passing {X : Type 0} (f : X → Bool) (ps : List X) : Type 0 where
  pub one : X
  pub here : Has one ps
  pub passes : f one ≡ true

pub passing : {X : Type 0} (f : X → Bool) (ps : List X) → list_any f ps ≡ true → Passing f ps
passing f [] e = absurd (cc)
passing f (q ∷ qs) e = elim (either (f q)) [
  | inl y ↦ record { one = q; here = inl refl; passes = y }
  | inr n ↦ (let x = passing f qs (sym (ap (λ b. b || list_any f qs) n) ∙ e) in record { one = x.one; here = inr x.here; passes = x.passes })
]

pub none_any : {X : Type 0} (f : X → Bool) (ps : List X) → ((p : X) → Has p ps → f p ≡ false) → list_any f ps ≡ false
none_any f [] h = refl
none_any f (q ∷ qs) h = rw (h q (inl refl)) (none_any f qs (λ p i. h p (inr i)))

-- the greatest of those that pass a test
pub record Greatest {X : Type 0} (test : X → Bool) (r : X → ℕ) (ps : List X) : Type 0 where
  pub one : X
  pub here : Has one ps
  pub passes : test one ≡ true
  pub greatest : (q : X) → Has q ps → test q ≡ true → r q ≤ r one

pub greatest : {X : Type 0} (test : X → Bool) (r : X → ℕ) (ps : List X) → ((q : X) → Has q ps → test q ≡ false) ⊎ Greatest test r ps
greatest test r [] = inl (λ q h. absurd h)
greatest {X} test r (p ∷ ps) = elim (either (test p)) [
  | inr e ↦ elim (greatest test r ps) [
    | inl none ↦ inl (λ q h. elim h [ inl i ↦ ap test i ∙ e | inr j ↦ none q j ])
    | inr g ↦ inr (record {
      one = g.one;
      here = inr g.here;
      passes = g.passes;
      greatest = λ q h t. elim h [ inl i ↦ clash (test p) (sym (ap test i) ∙ t) e | inr j ↦ g.greatest q j t ];
    })
  ]
  | inl e ↦ elim (greatest test r ps) [
    | inl none ↦ inr (record {
      one = p;
      here = inl refl;
      passes = e;
      greatest = λ q h t. elim h [ inl i ↦ (let f = ap r i in omega (arith, f)) | inr j ↦ clash (test q) t (none q j) ];
    })
    | inr g ↦ elim (cases_lt (r g.one) (r p)) [
      | inr le ↦ inr (record {
        one = g.one;
        here = inr g.here;
        passes = g.passes;
        greatest = λ q h t. elim h [ inl i ↦ (let f = ap r i in omega (arith, f, le)) | inr j ↦ g.greatest q j t ];
      })
      | inl lt ↦ inr (record {
        one = p;
        here = inl refl;
        passes = e;
        greatest =
            λ q h t. elim h [ inl i ↦ (let f = ap r i in omega (arith, f)) | inr j ↦ (let f = g.greatest q j t in omega (arith, f, lt)) ];
      })
    ]
  ]
]

-- the least of those that pass a test
pub record Least {X : Type 0} (test : X → Bool) (r : X → ℕ) (ps : List X) : Type 0 where
  pub one : X
  pub here : Has one ps
  pub passes : test one ≡ true
  pub least : (q : X) → Has q ps → test q ≡ true → r one ≤ r q

pub least : {X : Type 0} (test : X → Bool) (r : X → ℕ) (ps : List X) → ((q : X) → Has q ps → test q ≡ false) ⊎ Least test r ps
least test r [] = inl (λ q h. absurd h)
least {X} test r (p ∷ ps) = elim (either (test p)) [
  | inr e ↦ elim (least test r ps) [
    | inl none ↦ inl (λ q h. elim h [ inl i ↦ ap test i ∙ e | inr j ↦ none q j ])
    | inr g ↦ inr (record {
      one = g.one;
      here = inr g.here;
      passes = g.passes;
      least = λ q h t. elim h [ inl i ↦ clash (test p) (sym (ap test i) ∙ t) e | inr j ↦ g.least q j t ];
    })
  ]
  | inl e ↦ elim (least test r ps) [
    | inl none ↦ inr (record {
      one = p;
      here = inl refl;
      passes = e;
      least = λ q h t. elim h [ inl i ↦ (let f = ap r i in omega (arith, f)) | inr j ↦ clash (test q) t (none q j) ];
    })
    | inr g ↦ elim (cases_lt (r p) (r g.one)) [
      | inr le ↦ inr (record {
        one = g.one;
        here = inr g.here;
        passes = g.passes;
        least = λ q h t. elim h [ inl i ↦ (let f = ap r i in omega (arith, f, le)) | inr j ↦ g.least q j t ];
      })
      | inl lt ↦ inr (record {
        one = p;
        here = inl refl;
        passes = e;
        least =
            λ q h t. elim h [ inl i ↦ (let f = ap r i in omega (arith, f)) | inr j ↦ (let f = g.least q j t in omega (arith, f, lt)) ];
      })
    ]
  ]
]
