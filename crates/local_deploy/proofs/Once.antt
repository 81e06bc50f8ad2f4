-- Names of which each stands once.
use Rattle.std.proofs.Common.{◌≡◌, ◌⊎◌, ℕ, List, [], ◌∷◌, ◌++◌, Bool, true, false, refl, sym, subst, inl, inr}
use Rattle.std.specs.Prelude.{if◌then◌else◌}
use Rattle.std.specs.List.{AllZip, Contains, list_any}
use Rattle.std.specs.Str.{bytes_eq}
use Rattle.std.specs.Cmp.Lexicographic.{nat_list_eq_equiv}
use Rattle.std.proofs.lemmas.List.Elements.{Contains-append_cases, Contains-append_left, Contains-append_right}
use Rattle.std.proofs.lemmas.Map.Views.{Contains-from_any, list_any-from_Contains}
use Rattle.std.proofs.lemmas.Slice.Eq.{bytes_eq-Decides}
use Rattle.nuc_base.proofs.Lists.{in_nil, in_one, in_cons, in_here, in_there}
use Rattle.serde_json.specs.Data.{Data, string}
use Rattle.local_deploy.specs.Named.{IsNamed, with_name, with_names, once}

bytes_are : (x y : List ℕ) → bytes_eq x y ≡ true → x ≡ y
bytes_are x y is = (bytes_eq-Decides x y).0 is

pub any_in : (q : List ℕ) (names : List (List ℕ)) → list_any (bytes_eq q) names ≡ true → Contains names q
any_in q names is = Contains-from_any bytes_are q names is

pub in_any : (q : List ℕ) (names : List (List ℕ)) → Contains names q → list_any (bytes_eq q) names ≡ true
in_any q names has = list_any-from_Contains nat_list_eq_equiv q names has

-- ---- one more name

one_more : (names : List (List ℕ)) (n q : List ℕ) → Contains (with_name names n) q → Contains names q ⊎ (n ≡ q)
one_more names n q = by (list_any (bytes_eq n) names)
  where
    by : (b : Bool) → Contains (if b then names else names ++ n ∷ []) q → Contains names q ⊎ (n ≡ q)
    by true has = inl has
    by false has = elim (Contains-append_cases names (n ∷ []) q has) [
      | inl there ↦ inl there
      | inr here ↦ inr (in_one n q here)
    ]

one_kept : (names : List (List ℕ)) (n q : List ℕ) → Contains names q → Contains (with_name names n) q
one_kept names n q has = by (list_any (bytes_eq n) names)
  where
    by : (b : Bool) → Contains (if b then names else names ++ n ∷ []) q
    by true = has
    by false = Contains-append_left names (n ∷ []) q has

one_there : (names : List (List ℕ)) (n : List ℕ) → Contains (with_name names n) n
one_there names n = by (list_any (bytes_eq n) names) (any_in n names)
  where
    by : (b : Bool) → (b ≡ true → Contains names n) → Contains (if b then names else names ++ n ∷ []) n
    by true has = has refl
    by false has = Contains-append_right names (n ∷ []) n (in_here n [])

-- ---- all of them

all_from : (done names : List (List ℕ)) (q : List ℕ) → Contains (with_names done names) q → Contains done q ⊎ Contains names q
all_from done [] q has = inl has
all_from done (n ∷ names) q has = elim (all_from (with_name done n) names q has) [
  | inl before ↦ elim (one_more done n q before) [
    | inl there ↦ inl there
    | inr here ↦ inr (subst (Contains (n ∷ names)) here (in_here n names))
  ]
  | inr after ↦ inr (in_there n names q after)
]

all_kept : (done names : List (List ℕ)) (q : List ℕ) → Contains done q → Contains (with_names done names) q
all_kept done [] q has = has
all_kept done (n ∷ names) q has = all_kept (with_name done n) names q (one_kept done n q has)

all_in : (done names : List (List ℕ)) (q : List ℕ) → Contains names q → Contains (with_names done names) q
all_in done [] q has = absurd (in_nil q has)
all_in done (n ∷ names) q has = elim (in_cons n names q has) [
  | inl here ↦ subst (Contains (with_names (with_name done n) names)) here (all_kept (with_name done n) names n (one_there done n))
  | inr there ↦ all_in (with_name done n) names q there
]

-- ---- the names that texts are

named_from : (vs : List Data) (names : List (List ℕ)) → AllZip IsNamed vs names → (q : List ℕ) → Contains names q → Contains vs (string q)
named_from [] [] z q has = absurd (in_nil q has)
named_from [] (n ∷ names) z q has = absurd z
named_from (v ∷ vs) [] z q has = absurd z
named_from (v ∷ vs) (n ∷ names) z q has = elim (in_cons n names q has) [
  | inl here ↦ (let same : v ≡ string q = subst (λ (m : List ℕ). v ≡ string m) here z.0 in subst (Contains (v ∷ vs)) same (in_here v vs))
  | inr there ↦ in_there v vs (string q) (named_from vs names z.1 q there)
]

named_in : (vs : List Data) (names : List (List ℕ)) → AllZip IsNamed vs names → (q : List ℕ) → Contains vs (string q) → Contains names q
named_in [] names z q has = absurd (in_nil (string q) has)
named_in (v ∷ vs) [] z q has = absurd z
named_in (v ∷ vs) (n ∷ names) z q has = elim (in_cons v vs (string q) has) [
  | inl here ↦ (let is = z.0 in let same : n ≡ q = cc (is, here) in subst (Contains (n ∷ names)) same (in_here n names))
  | inr there ↦ in_there n names q (named_in vs names z.1 q there)
]

module _ (vs : List Data) (names remove : List (List ℕ)) (are : AllZip IsNamed vs names) (each_once : remove ≡ once names) where
  pub removed_from : (q : List ℕ) → Contains remove q → Contains vs (string q)
  removed_from q has = elim (all_from [] names q (subst (λ (l : List (List ℕ)). Contains l q) each_once has)) [
    | inl none ↦ absurd (in_nil q none)
    | inr there ↦ named_from vs names are q there
  ]

  pub removed_in : (q : List ℕ) → Contains vs (string q) → Contains remove q
  removed_in q has = subst (λ (l : List (List ℕ)). Contains l q) (sym each_once) (all_in [] names q (named_in vs names are q has))
