-- The least of some names, found one after another.
use Rattle.std.proofs.Common.{◌≡◌, ◌⊎◌, ℕ, ◌<◌, ◌≤◌, ◌+◌, List, [], ◌∷◌, ◌++◌, true, false, length, take, get_or, refl, sym, ap, subst, ◌∙◌}
use Rattle.std.proofs.Common.{inl, inr}
use Rattle.std.specs.Prelude.{Option, Some, None}
use Rattle.std.specs.Cmp.Lexicographic.{slice_cmp, nat_list_cmp_total}
use Rattle.std.specs.List.{Contains}
use Rattle.std.specs.Option.{is_some}
use Rattle.std.specs.Ordering.{nat_cmp, is_lt, ordering_reverse}
use Rattle.std.specs.declared.cmp.Ordering.{Ordering}
use Rattle.std.specs.declared.cmp.Ordering.TheVariants.{Less, Equal, Greater}
use Rattle.std.proofs.lemmas.List.{take_all, take_more}
use Rattle.std.proofs.lemmas.List.Elements.{Contains-append_cases, Contains-append_left, Contains-append_right}
use Rattle.nuc_base.proofs.Lists.{in_one, in_here}
use Rattle.local_deploy.specs.Documents.{IsLeastOf, IsNotAsked}
use Rattle.local_deploy.specs.Lists.{Asked, range_at}

-- ---- the order of names

abbrev pub Before : List ℕ → List ℕ → Type 0
Before x y = slice_cmp nat_cmp x y ≡ Less

flips : (x y : List ℕ) → slice_cmp nat_cmp x y ≡ ordering_reverse (slice_cmp nat_cmp y x)
flips x y = nat_list_cmp_total.antisymm x y

not_less : (o : Ordering) → o ≡ ordering_reverse o → o ≡ Less → ⊥
not_less Less same is = absurd cc
not_less Equal same is = absurd cc
not_less Greater same is = absurd cc

pub not_itself : (x : List ℕ) → Before x x → ⊥
not_itself x less = not_less (slice_cmp nat_cmp x x) (flips x x) less

pub not_back : (x y : List ℕ) → Before x y → Before y x → ⊥
not_back x y less back = not_itself x (nat_list_cmp_total.trans x y x less back)

pub less_from : (o : Ordering) → is_lt o ≡ true → o ≡ Less
less_from Less is = refl
less_from Equal is = absurd cc
less_from Greater is = absurd cc

-- q before x, and x no later than m
pub before_too : (q x m : List ℕ) → Before q x → (Before m x → ⊥) → Before q m
before_too q x m less not_before = by (slice_cmp nat_cmp q m) refl
  where
    by : (o : Ordering) → slice_cmp nat_cmp q m ≡ o → slice_cmp nat_cmp q m ≡ Less
    by Less is = is
    by Equal is = absurd (not_before (sym (nat_list_cmp_total.congr q m x is) ∙ less))
    by Greater is =
        let back : Before m q = flips m q ∙ ap ordering_reverse is in
        absurd (not_before (nat_list_cmp_total.trans m q x back less))

-- ---- one more name

pub none_at : {X : Type 0} (o : Option X) → is_some o ≡ false → o ≡ None
none_at None is = refl
none_at (Some x) is = absurd cc

pub some_not_none : {X : Type 0} (o : Option X) → is_some o ≡ true → o ≡ None → ⊥
some_not_none o is none = let both : true ≡ false = sym is ∙ ap is_some none in absurd cc

module _ (asked : Asked) (remove : List (List ℕ)) (i : ℕ) (x : List ℕ) (below : i < length remove) (at : x ≡ get_or remove i x) where
  grown : take (i + 1) remove ≡ take i remove ++ x ∷ []
  grown = take_more remove i x below ∙ ap (λ (y : List ℕ). take i remove ++ y ∷ []) (sym at)

  more_from : (q : List ℕ) → Contains (take (i + 1) remove) q → Contains (take i remove) q ⊎ (x ≡ q)
  more_from q has = elim (Contains-append_cases (take i remove) (x ∷ []) q (subst (λ (l : List (List ℕ)). Contains l q) grown has)) [
    | inl there ↦ inl there
    | inr here ↦ inr (in_one x q here)
  ]

  more_kept : (q : List ℕ) → Contains (take i remove) q → Contains (take (i + 1) remove) q
  more_kept q has = subst (λ (l : List (List ℕ)). Contains l q) (sym grown) (Contains-append_left (take i remove) (x ∷ []) q has)

  more_here : Contains (take (i + 1) remove) x
  more_here = subst (λ (l : List (List ℕ)). Contains l x) (sym grown) (Contains-append_right (take i remove) (x ∷ []) x (in_here x []))

  -- it is asked
  still : (q : List ℕ) → (range_at x asked ≡ None → ⊥) → IsNotAsked asked (take (i + 1) remove) q → IsNotAsked asked (take i remove) q
  still q is_asked p = elim (more_from q p.0) [
    | inl there ↦ (there, p.1)
    | inr same ↦ absurd (is_asked (subst (λ (n : List ℕ). range_at n asked ≡ None) (sym same) p.1))
  ]

  pub skips : (o : Option (List ℕ)) → (range_at x asked ≡ None → ⊥) → IsLeastOf (IsNotAsked asked (take i remove)) o
      → IsLeastOf (IsNotAsked asked (take (i + 1) remove)) o
  skips None is_asked h = λ q p. h q (still q is_asked p)
  skips (Some n) is_asked h = record {
    holds = (more_kept n h.holds.0, h.holds.1);
    least = λ q p less. h.least q (still q is_asked p) less;
  }

  -- it is the first that is not
  pub takes_first : range_at x asked ≡ None → IsLeastOf (IsNotAsked asked (take i remove)) None → IsLeastOf (IsNotAsked asked (take (i + 1) remove)) (Some x)
  takes_first none h = record {
    holds = (more_here, none);
    least = λ q p less. elim (more_from q p.0) [
      | inl there ↦ h q (there, p.1)
      | inr same ↦ not_itself q (subst (λ (n : List ℕ). Before q n) same less)
    ];
  }

  -- it is another, and y the lesser of the two
  pub takes_lesser : (m y : List ℕ) → range_at x asked ≡ None → IsLeastOf (IsNotAsked asked (take i remove)) (Some m) → (y ≡ x) ⊎ (y ≡ m)
      → (Before x y → ⊥) → (Before m y → ⊥) → IsLeastOf (IsNotAsked asked (take (i + 1) remove)) (Some y)
  takes_lesser m y none h one not_x not_m = record {
    holds = elim one [
      | inl is ↦ subst (IsNotAsked asked (take (i + 1) remove)) (sym is) (more_here, none)
      | inr is ↦ subst (IsNotAsked asked (take (i + 1) remove)) (sym is) (more_kept m h.holds.0, h.holds.1)
    ];
    least = λ q p less. elim (more_from q p.0) [
      | inl there ↦ h.least q (there, p.1) (before_too q y m less not_m)
      | inr same ↦ not_x (subst (λ (n : List ℕ). Before n y) (sym same) less)
    ];
  }

-- all of them
pub least_all : (asked : Asked) (remove : List (List ℕ)) (i : ℕ) (o : Option (List ℕ)) → length remove ≤ i → IsLeastOf (IsNotAsked asked (take i remove)) o
    → IsLeastOf (IsNotAsked asked remove) o
least_all asked remove i o past h = subst (λ (l : List (List ℕ)). IsLeastOf (IsNotAsked asked l) o) (take_all i remove past) h
