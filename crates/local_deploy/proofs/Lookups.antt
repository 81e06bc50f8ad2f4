-- Maps by names, and lists of entries that are put into them one after another.
use Rattle.std.proofs.Common.{◌≡◌, ℕ, ◌<◌, ◌≤◌, ◌+◌, List, [], ◌∷◌, ◌++◌, Bool, true, false, cond, length, take, get_or, refl, sym, ap, subst, ◌∙◌}
use Rattle.std.proofs.Common.{append_assoc, arith}
use Rattle.std.specs.Prelude.{Option, Some, None, if◌then◌else◌}
use Rattle.std.specs.BTreeMap.{is_at}
use Rattle.std.specs.Cmp.Lexicographic.{slice_cmp, nat_list_cmp_total}
use Rattle.std.specs.List.{list_any}
use Rattle.std.specs.List.Sorted.{IsStrictlySortedBy}
use Rattle.std.specs.Map.{keys_of, lookup, update_all}
use Rattle.std.specs.Option.{option_or}
use Rattle.std.specs.Ordering.{nat_cmp, eq_by_cmp}
use Rattle.std.specs.Str.{bytes_eq}
use Rattle.std.proofs.lemmas.Cmp.{eq_by_cmp_equiv}
use Rattle.std.proofs.lemmas.List.{append-nil, length_push, map-append, take_all, take_more}
use Rattle.std.proofs.lemmas.Map.{update_all_push}
use Rattle.std.proofs.lemmas.Map.Keys.{IsDistinct-from_sorted}
use Rattle.std.proofs.lemmas.Map.Made.{update_all_distinct, update_all_none}
use Rattle.std.proofs.lemmas.Map.Text.{is_eq-slice_cmp}
use Rattle.std.proofs.lemmas.Slice.Eq.{bytes_eq-Decides}
use Rattle.records.specs.declared.record.Requirement.{Requirement}
use Rattle.local_deploy.specs.Lists.{asked_in, range_at}

-- ---- by order and by bytes

abbrev pub Entries : Type 0 → Type 0
Entries X = List (List ℕ × X)

abbrev pub by_order : {X : Type 0} → List ℕ → Entries X → Option X
by_order q es = lookup (is_at (slice_cmp nat_cmp q)) es

tied : (x y : List ℕ) → bytes_eq x y ≡ eq_by_cmp (slice_cmp nat_cmp) x y
tied x y = sym (is_eq-slice_cmp x y)

module _ {X : Type 0} where
  pub by_bytes : (q : List ℕ) (es : Entries X) → by_order q es ≡ range_at q es
  by_bytes q [] = refl
  by_bytes q (e ∷ es) = ap (λ b. cond b (Some e.1) (by_order q es)) (is_eq-slice_cmp q e.0) ∙ ap (λ o. cond (bytes_eq q e.0) (Some e.1) o) (by_bytes q es)

  -- fs is es with v at k
  abbrev pub Puts : Entries X → List ℕ → Option X → Entries X → Type 0
  Puts es k v fs = (q : List ℕ) → by_order q fs ≡ cond (is_at (slice_cmp nat_cmp k) q) v (by_order q es)

  pub put_at : (es fs : Entries X) (k : List ℕ) (v : Option X) → Puts es k v fs → (q : List ℕ) → range_at q fs ≡ cond (bytes_eq k q) v (range_at q es)
  put_at es fs k v is q =
      sym (by_bytes q fs) ∙ is q ∙ ap (λ b. cond b v (by_order q es)) (is_eq-slice_cmp k q) ∙ ap (λ o. cond (bytes_eq k q) v o) (by_bytes q es)

  -- ---- entries that are put in one after another, over what is there

  -- what stands at q then
  abbrev pub put_all : (List ℕ → Option X) → Entries X → List ℕ → Option X
  put_all f xs q = update_all bytes_eq f xs q

  pub puts_push : (f : List ℕ → Option X) (done : Entries X) (p : List ℕ × X) (es fs : Entries X) → ((q : List ℕ) → range_at q es ≡ put_all f done q)
      → Puts es p.0 (Some p.1) fs → (q : List ℕ) → range_at q fs ≡ put_all f (done ++ p ∷ []) q
  puts_push f done p es fs so_far puts q =
      put_at es fs p.0 (Some p.1) puts q ∙ update_all_push bytes_eq f (λ n. range_at n es) done p q (so_far q)

  by_cmp : (q : List ℕ) (es : Entries X) → lookup (eq_by_cmp (slice_cmp nat_cmp) q) es ≡ range_at q es
  by_cmp q es = by_bytes q es

  pub put_over : (f : List ℕ → Option X) (xs : Entries X) (q : List ℕ) → IsStrictlySortedBy (slice_cmp nat_cmp) (keys_of xs)
      → put_all f xs q ≡ option_or (range_at q xs) (f q)
  put_over f xs q rises =
      update_all_distinct (eq_by_cmp_equiv nat_list_cmp_total) bytes_eq tied f xs q (IsDistinct-from_sorted (slice_cmp nat_cmp) (keys_of xs) rises)
      ∙ ap (λ o. option_or o (f q)) (by_cmp q xs)

  pub put_new : (xs : Entries X) (q : List ℕ) → IsStrictlySortedBy (slice_cmp nat_cmp) (keys_of xs) → put_all (λ _. None) xs q ≡ range_at q xs
  put_new xs q rises =
      update_all_none (eq_by_cmp_equiv nat_list_cmp_total) bytes_eq tied xs q (IsDistinct-from_sorted (slice_cmp nat_cmp) (keys_of xs) rises) ∙ by_cmp q xs

-- ---- what is asked and not removed

-- asked among the first requirements, unless it is removed
abbrev pub kept_at : List (List ℕ) → List Requirement → List ℕ → Option (List ℕ)
kept_at remove rs q = if list_any (bytes_eq q) remove then None else put_all (λ _. None) (asked_in rs) q

abbrev pub pair : Requirement → List ℕ × List ℕ
pair r = (r.name, r.range)

-- the names that a test tells from those that are removed
not_both : (remove : List (List ℕ)) (n q : List ℕ) (b : Bool) → list_any (bytes_eq n) remove ≡ b → bytes_eq n q ≡ true → list_any (bytes_eq q) remove ≡ b
not_both remove n q b is same = subst (λ (x : List ℕ). list_any (bytes_eq x) remove ≡ b) ((bytes_eq-Decides n q).0 same) is

module _ (remove : List (List ℕ)) (rs : List Requirement) (i : ℕ) (r : Requirement) (below : i < length rs) (at : r ≡ get_or rs i r) where
  grown : asked_in (take (i + 1) rs) ≡ asked_in (take i rs) ++ pair r ∷ []
  grown = ap asked_in (take_more rs i r below ∙ ap (λ x. take i rs ++ x ∷ []) (sym at)) ∙ map-append pair (take i rs) (r ∷ [])

  asked_more : (q : List ℕ) → put_all (λ _. None) (asked_in (take (i + 1) rs)) q ≡ cond (bytes_eq r.name q) (Some r.range)
      (put_all (λ _. None) (asked_in (take i rs)) q)
  asked_more q =
      ap (λ (l : Entries (List ℕ)). put_all (λ _. None) l q) grown
      ∙ sym (update_all_push bytes_eq (λ _. None) (put_all (λ _. None) (asked_in (take i rs))) (asked_in (take i rs)) (pair r) q refl)

  -- one that is removed changes nothing
  pub kept_without : (es : Entries (List ℕ)) → list_any (bytes_eq r.name) remove ≡ true → ((q : List ℕ) → range_at q es ≡ kept_at remove (take i rs) q)
      → (q : List ℕ) → range_at q es ≡ kept_at remove (take (i + 1) rs) q
  kept_without es removed so_far q = so_far q ∙ by (list_any (bytes_eq q) remove) (bytes_eq r.name q) refl refl ∙ ap (λ o. if list_any (bytes_eq q) remove then
      None else o) (sym (asked_more q))
    where
      rest : Option (List ℕ)
      rest = put_all (λ _. None) (asked_in (take i rs)) q

      by : (a b : Bool) → list_any (bytes_eq q) remove ≡ a → bytes_eq r.name q ≡ b
          → (if a then None else rest) ≡ (if a then None else cond b (Some r.range) rest)
      by true b here same = refl
      by false false here same = refl
      by false true here same = absurd (let both : true ≡ false = sym (not_both remove r.name q true removed same) ∙ here in cc)

  -- one that is not is put in
  pub kept_with : (es fs : Entries (List ℕ)) → list_any (bytes_eq r.name) remove ≡ false → ((q : List ℕ) → range_at q es ≡ kept_at remove (take i rs) q)
      → Puts es r.name (Some r.range) fs → (q : List ℕ) → range_at q fs ≡ kept_at remove (take (i + 1) rs) q
  kept_with es fs stays so_far puts q =
      put_at es fs r.name (Some r.range) puts q ∙ ap (λ o. cond (bytes_eq r.name q) (Some r.range) o) (so_far q)
      ∙ by (list_any (bytes_eq q) remove) (bytes_eq r.name q) refl refl ∙ ap (λ o. if list_any (bytes_eq q) remove then None else o) (sym (asked_more q))
    where
      rest : Option (List ℕ)
      rest = put_all (λ _. None) (asked_in (take i rs)) q

      by : (a b : Bool) → list_any (bytes_eq q) remove ≡ a → bytes_eq r.name q ≡ b
          → cond b (Some r.range) (if a then None else rest) ≡ (if a then None else cond b (Some r.range) rest)
      by false b here same = refl
      by true false here same = refl
      by true true here same = absurd (let both : true ≡ false = sym here ∙ not_both remove r.name q false stays same in cc)

-- all of them
pub kept_all : (remove : List (List ℕ)) (rs : List Requirement) (i : ℕ) (es : Entries (List ℕ)) → length rs ≤ i
    → IsStrictlySortedBy (slice_cmp nat_cmp) (keys_of (asked_in rs)) → ((q : List ℕ) → range_at q es ≡ kept_at remove (take i rs) q)
    → (q : List ℕ) → range_at q es ≡ (if list_any (bytes_eq q) remove then None else range_at q (asked_in rs))
kept_all remove rs i es past rises so_far q =
    so_far q ∙ ap (λ (l : List Requirement). kept_at remove l q) (take_all i rs past)
    ∙ ap (λ o. if list_any (bytes_eq q) remove then None else o) (put_new (asked_in rs) q rises)

-- one more entry at most
pub one_at_most : (b : Bool) (n before i : ℕ) → n ≡ before + (if b then 0 else 1) → before ≤ i → n ≤ i + 1
one_at_most true n before i is few = omega (arith, is, few)
one_at_most false n before i is few = omega (arith, is, few)

-- ---- a loop over a list by value

pub none_left : {X : Type 0} (xs : List X) → length xs ≡ 0 → xs ≡ []
none_left [] none = refl
none_left (x ∷ xs) none = absurd (omega (arith, none))

pub yielded_more : {X : Type 0} (done left rest all : List X) (x : X) → left ≡ x ∷ rest → done ++ left ≡ all → (done ++ x ∷ []) ++ rest ≡ all
yielded_more done left rest all x is so_far = append_assoc done (x ∷ []) rest ∙ ap (λ l. done ++ l) (sym is) ∙ so_far

pub yielded_all : {X : Type 0} (done left all : List X) → left ≡ [] → done ++ left ≡ all → done ≡ all
yielded_all done left all none so_far = sym (append-nil done) ∙ ap (λ l. done ++ l) (sym none) ∙ so_far

pub few_more : {X : Type 0} (done : List X) (x : X) (b : Bool) (n before asked : ℕ) → n ≡ before + (if b then 0 else 1) → before ≤ asked + length done
    → n ≤ asked + length (done ++ x ∷ [])
few_more done x b n before asked is few =
    let long = length_push done x in
    let one = one_at_most b n before (asked + length done) is few in
    omega (arith, long, one)
