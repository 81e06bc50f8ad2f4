-- A name at a place of a list.
use Rattle.std.proofs.Common.{◌≡◌, ℕ, ◌<◌, ◌≤◌, Bool, false, List, length, map, get_or, Option, Some, None, sym, ap, ◌∙◌, inl, inr, arith}
use Rattle.std.specs.Prelude.{IsTrue, slice_get, option_map}
use Rattle.std.specs.Str.{bytes_eq}
use Rattle.std.proofs.lemmas.Option.{slice_get-get_or, slice_get_cases, slice_get-map}
use Rattle.records.specs.declared.record.Item as code
use Rattle.records.specs.Stored.{item_view}
use Rattle.std.proofs.lemmas.Slice.Eq.{bytes_eq-Decides}

some_is : {A : Type 0} (x y : A) → ◌≡◌ {A = Option A} (Some x) (Some y) → x ≡ y
some_is x y e = cc

not_none : {A : Type 0} (o : Option A) (x : A) → o ≡ None → o ≡ Some x → ⊥
not_none None x p q = absurd cc
not_none (Some y) x p q = absurd cc

pub same_name : (o : Option (List ℕ)) (x n : List ℕ) (b : Bool) → o ≡ Some x → b ≡ bytes_eq x n → (IsTrue b → o ≡ Some n) × (o ≡ Some n → IsTrue b)
same_name o x n b is test =
    (λ yes. is ∙ ap (λ y. Some y) ((bytes_eq-Decides x n).0 (sym test ∙ yes)), λ same. test ∙ (bytes_eq-Decides x n).1 (some_is x n (sym is ∙ same)))

pub no_name : (o : Option (List ℕ)) (n : List ℕ) → o ≡ None → (IsTrue false → o ≡ Some n) × (o ≡ Some n → IsTrue false)
no_name o n is = (λ no. absurd cc, λ same. absurd (not_none o n is same))

pub there : {A : Type 0} (xs : List A) (i : ℕ) (x : A) → i < length xs → x ≡ get_or xs i x → slice_get xs i ≡ Some x
there xs i x lt is = slice_get-get_or xs i x lt ∙ ap (λ y. Some y) (sym is)

pub past : {A : Type 0} (xs : List A) (i : ℕ) → length xs ≤ i → slice_get xs i ≡ None
past xs i le = elim (slice_get_cases xs i).1 [ inl h ↦ absurd (omega (arith, h.1)) | inr h ↦ h.1 ]

pub name_at : (items : List code.Item) (k : ℕ) (x : code.Item) → slice_get items k ≡ Some x → slice_get (map (λ i. i.name) (map item_view items)) k
    ≡ Some x.name
name_at items k x is =
    slice_get-map (λ i. i.name) (map item_view items) k ∙ ap (option_map (λ i. i.name)) (slice_get-map item_view items k ∙ ap (option_map item_view) is)

pub no_name_at : (items : List code.Item) (k : ℕ) → slice_get items k ≡ None → slice_get (map (λ i. i.name) (map item_view items)) k ≡ None
no_name_at items k is =
    slice_get-map (λ i. i.name) (map item_view items) k ∙ ap (option_map (λ i. i.name)) (slice_get-map item_view items k ∙ ap (option_map item_view) is)
