-- The last outcome of what closed, written anew.
use Rattle.std.proofs.Common.{◌≡◌, ℕ, ◌-◌, Bool, true, false, List, [], ◌∷◌, ◌++◌, map, length, get_or, Option, Some, None, refl, sym, ap, ◌∙◌, arith}
use Rattle.std.specs.Prelude.{option_map, option_and_then, slice_get, slice_set, if◌then◌else◌}
use Rattle.std.specs.Map.{lookup}
use Rattle.std.specs.Str.{bytes_eq}
use Rattle.std.specs.Cmp.Lexicographic.{slice_cmp}
use Rattle.std.specs.Ordering.{nat_cmp}
use Rattle.std.specs.BTreeMap.{BTreeMap, get}
use Rattle.std.proofs.lemmas.List.{map-append, length-append}
use Rattle.std.proofs.Math.Seq.{set-append_seam}
use Rattle.std.proofs.lemmas.Option.{slice_get-map}
use Rattle.std.proofs.lemmas.Slice.Eq.{bytes_eq-Decides}
use Rattle.nuc_base.specs.declared.kinds.Outcome.{Outcome}
use Rattle.device.specs.Closings.{found_at, outcome_for, IsIndexed}

module _ (id : List ℕ) (o : Outcome) where
  -- a deployment of this id closed so
  abbrev told : List ℕ → Outcome → Outcome
  told k other = if bytes_eq id k then o else other

  abbrev entry : List ℕ × Outcome → List ℕ × Outcome
  entry e = (e.0, told e.0 e.1)

  abbrev told_too : List ℕ → Option Outcome → Option Outcome
  told_too k = option_map (told k)

  lookup_told : (k : List ℕ) (es : List (List ℕ × Outcome)) → lookup (bytes_eq k) (map entry es) ≡ told_too k (lookup (bytes_eq k) es)
  lookup_told k [] = refl
  lookup_told k (e ∷ es) = by (bytes_eq k e.0) refl (lookup_told k es)
    where
      by : (b : Bool) → bytes_eq k e.0 ≡ b → lookup (bytes_eq k) (map entry es) ≡ told_too k (lookup (bytes_eq k) es)
          → (if b then Some (told e.0 e.1) else lookup (bytes_eq k) (map entry es)) ≡ told_too k (if b then Some e.1 else lookup (bytes_eq k) es)
      by true is later = ap (λ (n : List ℕ). Some (told n e.1)) (sym ((bytes_eq-Decides k e.0).0 is))
      by false is later = later

  one_told : (k : List ℕ) (found : Option (List ℕ × Outcome)) → option_and_then (outcome_for k) (option_map entry found) ≡ told_too k
      (option_and_then (outcome_for k) found)
  one_told k None = refl
  one_told k (Some e) = by (bytes_eq k e.0) refl
    where
      by : (b : Bool) → bytes_eq k e.0 ≡ b → (if b then Some (told e.0 e.1) else None) ≡ told_too k (if b then Some e.1 else None)
      by true is = ap (λ (n : List ℕ). Some (told n e.1)) (sym ((bytes_eq-Decides k e.0).0 is))
      by false is = refl

  found_told : (k : List ℕ) (es : List (List ℕ × Outcome)) (place : Option ℕ) → found_at k (map entry es) place ≡ told_too k (found_at k es place)
  found_told k es None = refl
  found_told k es (Some at) = ap (option_and_then (outcome_for k)) (slice_get-map entry es at) ∙ one_told k (slice_get es at)

  others_stay : (es : List (List ℕ × Outcome)) → lookup (bytes_eq id) es ≡ None → map entry es ≡ es
  others_stay [] fresh = refl
  others_stay (e ∷ es) fresh = by (bytes_eq id e.0) refl fresh (others_stay es)
    where
      by : (b : Bool) → bytes_eq id e.0 ≡ b → (if b then Some e.1 else lookup (bytes_eq id) es) ≡ None → (lookup (bytes_eq id) es ≡ None → map entry es ≡ es)
          → map entry (e ∷ es) ≡ e ∷ es
      by true is none later = absurd cc
      by false is none later = ap (λ (x : Outcome). (e.0, x) ∷ map entry es) (ap (λ (b : Bool). if b then o else e.1) is) ∙ ap
          (λ (l : List (List ℕ × Outcome)). e ∷ l) (later none)

  last_told : (closed : List (List ℕ × Outcome)) (other : Outcome) → lookup (bytes_eq id) closed ≡ None → map entry (closed ++ (id, other) ∷ []) ≡ closed
      ++ (id, o) ∷ []
  last_told closed other fresh =
      let same : bytes_eq id id ≡ true = (bytes_eq-Decides id id).1 refl in
      map-append entry closed ((id, other) ∷ [])
      ∙ ap (λ (l : List (List ℕ × Outcome)). l ++ entry (id, other) ∷ []) (others_stay closed fresh)
      ∙ ap (λ (b : Bool). closed ++ (id, if b then o else other) ∷ []) same

  pub indexed_so : (closed : List (List ℕ × Outcome)) (other : Outcome) (index : BTreeMap (List ℕ) ℕ) → lookup (bytes_eq id) closed ≡ None →
      IsIndexed (closed ++ (id, other) ∷ []) index → IsIndexed (closed ++ (id, o) ∷ []) index
  indexed_so closed other index fresh is = λ k.
      let place = get (slice_cmp nat_cmp) index k in
      let old = closed ++ (id, other) ∷ [] in
      let new = last_told closed other fresh in
      ap (λ (l : List (List ℕ × Outcome)). found_at k l place) (sym new) ∙ found_told k old place ∙ ap (told_too k) (is k) ∙ sym (lookup_told k old) ∙ ap
      (lookup (bytes_eq k)) new

-- ---- written in its place

seam : {A : Type 0} (xs : List A) (y d : A) → get_or (xs ++ y ∷ []) (length xs) d ≡ y
seam [] y d = refl
seam (x ∷ xs) y d = seam xs y d

pub ends_anew : (items closed : List (List ℕ × Outcome)) (id : List ℕ) (other o : Outcome) (x : List ℕ × Outcome) (long : ℕ) →
    items ≡ closed ++ (id, other) ∷ [] → long ≡ length items → x ≡ get_or items (long - 1) x
    → slice_set items (long - 1) (x.0, o) ≡ closed ++ (id, o) ∷ []
ends_anew items closed id other o x long is many at_is =
    let all = ap length is in
    let one = length-append closed ((id, other) ∷ []) in
    let place : long - 1 ≡ length closed = omega (arith, all, one, many) in
    let here : x ≡ (id, other) = at_is ∙ ap (λ (k : ℕ). get_or items k x) place ∙ ap (λ (l : List (List ℕ × Outcome)). get_or l (length closed) x) is ∙ seam
    closed (id, other) x in
    ap (λ (k : ℕ). slice_set items k (x.0, o)) place
    ∙ ap (λ (l : List (List ℕ × Outcome)). slice_set l (length closed) (x.0, o)) is
    ∙ set-append_seam closed (id, other) [] (x.0, o)
    ∙ ap (λ (y : List ℕ × Outcome). closed ++ (y.0, o) ∷ []) here
