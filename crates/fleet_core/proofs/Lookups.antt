-- What a device took of a group, by its map.
use Rattle.std.proofs.Common.{◌≡◌, ℕ, ◌≤◌, Bool, true, false, cond, List, [], ◌∷◌, ◌++◌, Some, None, refl, sym, ap, subst, ◌∙◌, arith, append-nil}
use Rattle.std.specs.Prelude.{Option, Result, Ok, Err, OnOk, OnErr, option_map, map, filter, nat_lt, unwrap_or, if◌then◌else◌}
use Rattle.std.specs.Map.{lookup, keys_of}
use Rattle.std.specs.Str.{bytes_eq}
use Rattle.std.specs.List.{IsDistinct, AllByRecursion}
use Rattle.std.specs.declared.cmp.Ordering.TheVariants.{Less}
use Rattle.std.proofs.lemmas.Map.Entries.{option_filter, lookup-filter-values}
use Rattle.std.proofs.lemmas.Map.Keys.{IsDistinct-from_sorted}
use Rattle.std.specs.List.Sorted.{IsStrictlySortedBy}
use Rattle.std.specs.Ordering.{nat_cmp, eq_by_cmp}
use Rattle.std.specs.BTreeMap.{is_at}
use Rattle.std.specs.Cmp.Lexicographic.{slice_cmp, nat_list_eq_equiv}
use Rattle.std.proofs.lemmas.Map.Text.{is_eq-slice_cmp}
use Rattle.std.proofs.lemmas.Slice.Eq.{bytes_eq-Decides}
use Rattle.fleet_core.specs.declared.history.Taking.{Taking}
use Rattle.fleet_core.specs.Takings.{level}
use Rattle.fleet_core.specs.Keeping.{Keeping, takings_of, HasTakenOne}
use Rattle.fleet_core.specs.Replies.{IsListing}

abbrev pub Entry : Type 0
Entry = List ℕ × List Taking

abbrev pub by_order : List ℕ → List ℕ → Bool
by_order g = is_at (slice_cmp nat_cmp g)

abbrev pub among : List Entry → List ℕ → List Taking
among es g = unwrap_or (lookup (bytes_eq g) es) []

pub lookup-same : {X : Type 0} (g : List ℕ) (es : List (List ℕ × X)) → lookup (by_order g) es ≡ lookup (bytes_eq g) es
lookup-same g [] = refl
lookup-same g (e ∷ es) = ap (λ b. cond b (Some e.1) (lookup (by_order g) es)) (is_eq-slice_cmp g e.0) ∙ ap (λ o. cond (bytes_eq g e.0) (Some e.1) o)
    (lookup-same g es)

pub among-some : (g : List ℕ) (es : List Entry) (ts : List Taking) → Some ts ≡ lookup (by_order g) es → ts ≡ among es g
among-some g es ts is = ap (λ (o : Option (List Taking)). unwrap_or o []) (is ∙ lookup-same g es)

pub among-none : (g : List ℕ) (es : List Entry) → None ≡ lookup (by_order g) es → [] ≡ among es g
among-none g es is = ap (λ (o : Option (List Taking)). unwrap_or o []) (is ∙ lookup-same g es)

bytes_are : (x y : List ℕ) → bytes_eq x y ≡ true → x ≡ y
bytes_are x y is = (bytes_eq-Decides x y).0 is

-- the map has these takings of the group, and of others what it had
pub placed : (group : List ℕ) (old new : List Entry) (ts : List Taking) (t : Taking)
    → ((q : List ℕ) → lookup (by_order q) new ≡ cond (by_order group q) (Some ts) (lookup (by_order q) old)) → ts ≡ among old group ++ t ∷ []
    → (g : List ℕ) → among new g ≡ (if bytes_eq group g then among old g ++ t ∷ [] else among old g)
placed group old new ts t is more g =
    ap (λ (o : Option (List Taking)). unwrap_or o []) (sym (lookup-same g new) ∙ is g)
    ∙ ap (λ (b : Bool). unwrap_or (cond b (Some ts) (lookup (by_order g) old)) []) (is_eq-slice_cmp group g)
    ∙ by (bytes_eq group g) (λ same. bytes_are group g same)
  where
    by : (b : Bool) → (b ≡ true → group ≡ g) → unwrap_or (cond b (Some ts) (lookup (by_order g) old)) [] ≡ (if b then among old g ++ t ∷ [] else among old g)
    by true same = more ∙ ap (λ (x : List ℕ). among old x ++ t ∷ []) (same refl)
    by false same = ap (λ (o : Option (List Taking)). unwrap_or o []) (lookup-same g old)

-- ---- a device that takes one more

-- what is known of the takings of a device, of the takings that its map has
pub at_device : (P : List Taking → Type 0) (es : List Entry) (heard : ℕ) (device : Keeping) (g : List ℕ) (ts : List Taking) →
    record { groups = es; heard = heard } ≡ device
    → Some ts ≡ lookup (by_order g) es → P (takings_of device g) → P ts
at_device P es heard device g ts is found holds = subst P (sym (among-some g es ts found)) (subst (λ (k : Keeping). P (takings_of k g)) (sym is) holds)

pub at_device_none : (P : List Taking → Type 0) (es : List Entry) (heard : ℕ) (device : Keeping) (g : List ℕ) → record { groups = es; heard = heard } ≡ device
    → None ≡ lookup (by_order g) es → P (takings_of device g) → P []
at_device_none P es heard device g is found holds = subst P (sym (among-none g es found)) (subst (λ (k : Keeping). P (takings_of k g)) (sym is) holds)

pub takes_one : (es fs : List Entry) (heard : ℕ) (device : Keeping) (g : List ℕ) (ts : List Taking) (t : Taking) → record { groups = es; heard = heard }
    ≡ device
    → ((q : List ℕ) → lookup (by_order q) fs ≡ cond (by_order g q) (Some ts) (lookup (by_order q) es)) → ts ≡ among es g ++ t ∷ []
    → HasTakenOne device g t (record { groups = fs; heard = heard })
takes_one es fs heard device g ts t is updates more =
    subst (λ (k : Keeping). HasTakenOne k g t (record { groups = fs; heard = heard })) is (record { taken = placed g es fs ts t updates more; heard = refl })

pub ok_then : {T E A B : Type 0} (r : Result T E) → (A → B) → OnOk r A → OnOk r B
ok_then (Ok x) step holds = step holds
ok_then (Err e) step holds = tt

pub err_then : {T E A B : Type 0} (r : Result T E) → (A → B) → OnErr r A → OnErr r B
err_then (Ok x) step holds = tt
err_then (Err e) step holds = step holds

-- ---- the listing of a device

-- the groups with a revision, as the map has them
abbrev pub listed : ℕ → List Entry → List (List ℕ × ℕ)
listed k es = filter (λ e. nat_lt 0 e.1) (map (λ e. (e.0, level k e.1)) es)

lookup-levels : (k : ℕ) (g : List ℕ) (es : List Entry) → lookup (bytes_eq g) (map (λ e. (e.0, level k e.1)) es) ≡ option_map (level k) (lookup (bytes_eq g) es)
lookup-levels k g [] = refl
lookup-levels k g (e ∷ es) = by (bytes_eq g e.0) (lookup-levels k g es)
  where
    by : (b : Bool) → lookup (bytes_eq g) (map (λ e. (e.0, level k e.1)) es) ≡ option_map (level k) (lookup (bytes_eq g) es)
        → cond b (Some (level k e.1)) (lookup (bytes_eq g) (map (λ e. (e.0, level k e.1)) es)) ≡ option_map (level k)
        (cond b (Some e.1) (lookup (bytes_eq g) es))
    by true rest = refl
    by false rest = rest

keys-levels : (k : ℕ) (es : List Entry) → keys_of (map (λ e. (e.0, level k e.1)) es) ≡ keys_of es
keys-levels k [] = refl
keys-levels k (e ∷ es) = ap (λ l. e.0 ∷ l) (keys-levels k es)

kept-levels : (k : ℕ) (o : Option (List Taking)) → option_filter (λ n. nat_lt 0 n) (option_map (level k) o)
    ≡ (if nat_lt 0 (level k (unwrap_or o [])) then Some (level k (unwrap_or o [])) else None)
kept-levels k None = refl
kept-levels k (Some ts) = refl

no_less : (g : List ℕ) (es : List (List ℕ × ℕ)) → AllByRecursion (λ y. slice_cmp nat_cmp g y ≡ Less) (keys_of es) →
    AllByRecursion (λ y. slice_cmp nat_cmp g y ≡ Less) (keys_of (filter (λ e. nat_lt 0 e.1) es))
no_less g [] below = tt
no_less g (e ∷ es) below = by (nat_lt 0 e.1) (no_less g es below.1)
  where
    by : (b : Bool) → AllByRecursion (λ y. slice_cmp nat_cmp g y ≡ Less) (keys_of (filter (λ e. nat_lt 0 e.1) es)) →
        AllByRecursion (λ y. slice_cmp nat_cmp g y ≡ Less) (keys_of (cond b (e ∷ filter (λ e. nat_lt 0 e.1) es) (filter (λ e. nat_lt 0 e.1) es)))
    by true rest = (below.0, rest)
    by false rest = rest

ordered : (es : List (List ℕ × ℕ)) → IsStrictlySortedBy (slice_cmp nat_cmp) (keys_of es) →
    IsStrictlySortedBy (slice_cmp nat_cmp) (keys_of (filter (λ e. nat_lt 0 e.1) es))
unfolding IsStrictlySortedBy
ordered [] rises = tt
ordered (e ∷ es) rises = by (nat_lt 0 e.1) (no_less e.0 es rises.0) (ordered es rises.1)
  where
    by : (b : Bool) → AllByRecursion (λ y. slice_cmp nat_cmp e.0 y ≡ Less) (keys_of (filter (λ e. nat_lt 0 e.1) es)) →
        IsStrictlySortedBy (slice_cmp nat_cmp) (keys_of (filter (λ e. nat_lt 0 e.1) es)) →
        IsStrictlySortedBy (slice_cmp nat_cmp) (keys_of (cond b (e ∷ filter (λ e. nat_lt 0 e.1) es) (filter (λ e. nat_lt 0 e.1) es)))
    by true first rest = (first, rest)
    by false first rest = rest

same_tests : (k : List ℕ) (ks : List (List ℕ)) → AllByRecursion (λ y. eq_by_cmp (slice_cmp nat_cmp) k y ≡ false) ks →
    AllByRecursion (λ y. bytes_eq k y ≡ false) ks
same_tests k [] all = tt
same_tests k (y ∷ ks) all = (sym (is_eq-slice_cmp k y) ∙ all.0, same_tests k ks all.1)

distinct_by : (ks : List (List ℕ)) → IsDistinct (eq_by_cmp (slice_cmp nat_cmp)) ks → IsDistinct bytes_eq ks
unfolding IsDistinct
distinct_by [] apart = tt
distinct_by (k ∷ ks) apart = (same_tests k ks apart.0, distinct_by ks apart.1)

distinct : (es : List (List ℕ × ℕ)) → IsStrictlySortedBy (slice_cmp nat_cmp) (keys_of es) → IsDistinct bytes_eq (keys_of es)
distinct es rises = distinct_by (keys_of es) (IsDistinct-from_sorted (slice_cmp nat_cmp) (keys_of es) rises)

pub listed_is : (k heard : ℕ) (es : List Entry) (device : Keeping) → record { groups = es; heard = heard } ≡ device →
    IsStrictlySortedBy (slice_cmp nat_cmp) (keys_of es)
    → IsListing (λ g. level k (takings_of device g)) (listed k es)
listed_is k heard es device is rises =
    let leveled = map (λ (e : Entry). (e.0, level k e.1)) es in
    let sorted : IsStrictlySortedBy (slice_cmp nat_cmp) (keys_of leveled) = subst (IsStrictlySortedBy (slice_cmp nat_cmp)) (sym (keys-levels k es)) rises in
    subst (λ (x : Keeping). IsListing (λ g. level k (takings_of x g)) (listed k es)) is (record {
      ordered = ordered leveled sorted;
      levels = λ g. lookup-filter-values nat_list_eq_equiv (λ n. nat_lt 0 n) g leveled (distinct leveled sorted) ∙ ap (option_filter (λ n. nat_lt 0 n))
          (lookup-levels k g es) ∙ kept-levels k (lookup (bytes_eq g) es);
    })

pub listed-push : (k : ℕ) (es : List Entry) (e : Entry) → listed k (es ++ e ∷ []) ≡ listed k es
    ++ (if nat_lt 0 (level k e.1) then (e.0, level k e.1) ∷ [] else [])
listed-push k [] e = refl
listed-push k (f ∷ es) e = by (nat_lt 0 (level k f.1)) (listed-push k es e)
  where
    by : (b : Bool) → listed k (es ++ e ∷ []) ≡ listed k es ++ (if nat_lt 0 (level k e.1) then (e.0, level k e.1) ∷ [] else [])
        → cond b ((f.0, level k f.1) ∷ listed k (es ++ e ∷ [])) (listed k (es ++ e ∷ [])) ≡ cond b ((f.0, level k f.1) ∷ listed k es) (listed k es)
        ++ (if nat_lt 0 (level k e.1) then (e.0, level k e.1) ∷ [] else [])
    by true rest = ap (λ l. (f.0, level k f.1) ∷ l) rest
    by false rest = rest

pub listed-none : (k : ℕ) (es : List Entry) (e : Entry) → level k e.1 ≤ 0 → listed k (es ++ e ∷ []) ≡ listed k es
listed-none k es e none = listed-push k es e ∙ by (nat_lt 0 (level k e.1)) refl
  where
    by : (b : Bool) → nat_lt 0 (level k e.1) ≡ b → listed k es ++ (if b then (e.0, level k e.1) ∷ [] else []) ≡ listed k es
    by true is = absurd (grind (arith, is, none))
    by false is = append-nil (listed k es)
