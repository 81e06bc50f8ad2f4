-- A look-up by halves among fields whose keys rise.
use Rattle.std.proofs.Common.{◌≡◌, ℕ, zero, suc, ◌+◌, ◌<◌, List, [], ◌∷◌, length, get_or, true, false, true≢false, Option, Some, None, Ordering, Less, Equal}
use Rattle.std.proofs.Common.{Greater, nat_cmp, is_eq, inl, inr, refl, sym, ap, ◌∙◌, subst, arith}
use Rattle.std.specs.Ordering.{is_lt, match_ordering, ordering_index, ordering_reverse}
use Rattle.std.specs.Str.{bytes_eq}
use Rattle.std.specs.List.Sorted.{IsNonDecreasingBy, IsPartitionPoint, IsSortedBy}
use Rattle.std.specs.Cmp.Lexicographic.{slice_cmp, nat_list_cmp_total}
use Rattle.std.proofs.lemmas.List.Sorted.{searchable_from_sorted}
use Rattle.std.proofs.lemmas.Cmp.{tied_itself}
use Rattle.std.proofs.lemmas.Map.Text.{is_eq-slice_cmp}
use Rattle.std.proofs.lemmas.Bool.{cases_lt}
use Rattle.std.proofs.lemmas.Slice.Eq.{bytes_eq-Decides}
use Rattle.serde_json.specs.Data.{Data, Members, member}
use Rattle.serde_json.specs.Find.{get_member}
use Rattle.tree_core.specs.View.{view, fields_view}
use Rattle.tree_core.specs.Regular.{IsBelowAll, MembersAreOrderly}
use Rattle.tree_core.proofs.Fields.{Field}

pub same_key : (k l : List ℕ) → slice_cmp nat_cmp k l ≡ Equal → k ≡ l
same_key k l is = (bytes_eq-Decides k l).0 (sym (is_eq-slice_cmp k l) ∙ ap is_eq is)

pub above : (k l : List ℕ) → slice_cmp nat_cmp k l ≡ Less → slice_cmp nat_cmp l k ≡ Greater
above k l is = nat_list_cmp_total.antisymm l k ∙ ap ordering_reverse is

-- how a field's key stands to the one that is looked for
abbrev pub ranked : List ℕ → Field → Ordering
ranked k f = slice_cmp nat_cmp f.0 k

below_at : (k : List ℕ) (xs : List Field) (i : ℕ) (d : Field) → IsBelowAll k (fields_view xs) → i < length xs → slice_cmp nat_cmp k (get_or xs i d).0 ≡ Less
below_at k [] i d h within = absurd (omega arith)
below_at k (f ∷ xs) zero d h within = h.0
below_at k (f ∷ xs) (suc i) d h within = below_at k xs i d h.1 (omega arith)

-- ---- found

found_here : (k l : List ℕ) (d : Data) (ms : Members) → slice_cmp nat_cmp k l ≡ Equal → get_member k (member l d ms) ≡ Some d
found_here k l d ms is = rw is refl

found_later : (k l : List ℕ) (d : Data) (ms : Members) → slice_cmp nat_cmp k l ≡ Greater → get_member k (member l d ms) ≡ get_member k ms
found_later k l d ms is = rw is refl

flipped : (k l : List ℕ) → slice_cmp nat_cmp k l ≡ Equal → slice_cmp nat_cmp l k ≡ Equal
flipped k l is = nat_list_cmp_total.antisymm l k ∙ ap ordering_reverse is

pub found_at : (k : List ℕ) (xs : List Field) (i : ℕ) (d : Field) → MembersAreOrderly (fields_view xs) → i < length xs → ranked k (get_or xs i d) ≡ Equal →
    get_member k (fields_view xs) ≡ Some (view (get_or xs i d).1)
found_at k [] i d h within is = absurd (omega arith)
found_at k (f ∷ xs) zero d h within is = found_here k f.0 (view f.1) (fields_view xs) (flipped f.0 k is)
found_at k (f ∷ xs) (suc i) d h within is =
    let small : i < length xs = omega arith in
    let first : slice_cmp nat_cmp f.0 k ≡ Less = subst (λ l. slice_cmp nat_cmp f.0 l ≡ Less) (same_key (get_or xs i d).0 k is) (below_at f.0 xs i d h.0
    small) in
    found_later k f.0 (view f.1) (fields_view xs) (above f.0 k first) ∙ found_at k xs i d h.2 small is

-- ---- one field after the other

passed : (o : Ordering) (d : Data) (rest : Option Data) → (o ≡ Equal → ⊥) → match_ordering o rest (Some d) rest ≡ rest
passed Less d rest other = refl
passed Equal d rest other = absurd (other refl)
passed Greater d rest other = refl

pub field_here : (k : List ℕ) (f : Field) (fs : List Field) → bytes_eq f.0 k ≡ true → get_member k (fields_view (f ∷ fs)) ≡ Some (view f.1)
field_here k f fs is =
    let same : f.0 ≡ k = (bytes_eq-Decides f.0 k).0 is in
    found_here k f.0 (view f.1) (fields_view fs) (ap (slice_cmp nat_cmp k) same ∙ tied_itself nat_list_cmp_total k)

pub field_passed : (k : List ℕ) (f : Field) (fs : List Field) → bytes_eq f.0 k ≡ false → get_member k (fields_view (f ∷ fs)) ≡ get_member k (fields_view fs)
field_passed k f fs is =
    passed (slice_cmp nat_cmp k f.0) (view f.1) (get_member k (fields_view fs)) (λ same. true≢false (sym ((bytes_eq-Decides f.0 k).1
    (sym (same_key k f.0 same))) ∙ is))

-- ---- not found

none_of : (k : List ℕ) (xs : List Field) → ((i : ℕ) (d : Field) → i < length xs → ranked k (get_or xs i d) ≡ Equal → ⊥) → None ≡ get_member k (fields_view xs)
none_of k [] other = refl
none_of k (f ∷ xs) other =
    none_of k xs (λ i d within. other (suc i) d (omega arith))
    ∙ sym (passed (slice_cmp nat_cmp k f.0) (view f.1) (get_member k (fields_view xs)) (λ is. other 0 f (omega arith) (flipped k f.0 is)))

next_above : (xs : List Field) (i : ℕ) (d : Field) → MembersAreOrderly (fields_view xs) → suc i < length xs →
    slice_cmp nat_cmp (get_or xs (suc i) d).0 (get_or xs i d).0 ≡ Greater
next_above [] i d h within = absurd (omega arith)
next_above (f ∷ xs) zero d h within = above f.0 (get_or xs 0 d).0 (below_at f.0 xs 0 d h.0 (omega arith))
next_above (f ∷ xs) (suc i) d h within = next_above xs i d h.2 (omega arith)

sorted : (xs : List Field) → MembersAreOrderly (fields_view xs) → IsSortedBy (λ a b. is_lt (slice_cmp nat_cmp a.0 b.0)) xs
sorted xs h i d low within =
    let one : i + 1 ≡ suc i = omega arith in
    ap (λ j. is_lt (slice_cmp nat_cmp (get_or xs j d).0 (get_or xs i d).0)) one ∙ ap is_lt (next_above xs i d h (omega arith))

pub rising : (k : List ℕ) (xs : List Field) → MembersAreOrderly (fields_view xs) → IsNonDecreasingBy (λ f. ordering_index (ranked k f)) xs
rising k xs h = searchable_from_sorted nat_list_cmp_total (λ (f : Field). f.0) xs k (sorted xs h)

pub not_found : (k : List ℕ) (xs : List Field) (i : ℕ) → IsPartitionPoint (λ f. ranked k f ≡ Less) (λ f. ranked k f ≡ Greater) xs i →
    None ≡ get_member k (fields_view xs)
not_found k xs i parts = none_of k xs (λ j d within is. elim (cases_lt j i) [
  | inl before ↦ let is_less = parts.0 j d (omega arith) before in cc
  | inr behind ↦ let is_greater = parts.1 j d behind within in cc
])
