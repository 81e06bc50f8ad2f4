-- Whether a file is needed.
use Rattle.std.proofs.Common.{◌≡◌, ℕ, ◌+◌, ◌<◌, ◌≤◌, List, [], ◌∷◌, ◌++◌, length, map, take, get_or, refl, sym, ap, subst, ◌∙◌, inl, inr}
use Rattle.std.specs.Prelude.{Bool, true, false, ◌||◌, cond}
use Rattle.std.specs.List.{Contains, list_any}
use Rattle.std.specs.Str.{bytes_eq}
use Rattle.std.specs.Cmp.Lexicographic.{bytes_decides}
use Rattle.std.proofs.lemmas.Bool.{or_cases, false≢true}
use Rattle.std.proofs.lemmas.List.{take_more, take_all}
use Rattle.std.proofs.lemmas.List.Folds.{list_any-append}
use Rattle.nuc_base.proofs.Lists.{in_here, in_there, in_nil, in_cons}
use Rattle.records.specs.Stored.{Item}
use Rattle.records.specs.declared.record.Held.{Held}
use Rattle.artifact_store.specs.Needed.{is_file_of, is_file_among}
use Rattle.artifact_store.specs.Paths.{path, IsFileAmong}

or_one : (a b c : Bool) → cond a true (b || c) ≡ (b || (c || (a || false)))
or_one true true c = refl
or_one true false true = refl
or_one true false false = refl
or_one false true c = refl
or_one false false true = refl
or_one false false false = refl

or_also : (a b c : Bool) → ((b || c) || a) ≡ (b || (c || (a || false)))
or_also a true c = refl
or_also a false true = refl
or_also true false false = refl
or_also false false false = refl

any_next : {X : Type 0} (P : X → Bool) (xs : List X) (i : ℕ) (x : X) → i < length xs → x ≡ get_or xs i x →
    list_any P (take (i + 1) xs) ≡ (list_any P (take i xs) || (P x || false))
any_next P xs i x below is = ap (list_any P) (take_more xs i x below ∙ ap (λ y. take i xs ++ y ∷ []) (sym is)) ∙ list_any-append P (take i xs) (x ∷ [])

-- one key more
pub need_next : {X : Type 0} (P : X → Bool) (xs : List X) (i : ℕ) (x : X) (was mid now at : Bool) → i < length xs → x ≡ get_or xs i x → at ≡ P x →
    now ≡ cond at true mid → mid ≡ (was || list_any P (take i xs))
    → now ≡ (was || list_any P (take (i + 1) xs))
need_next P xs i x was mid now at below is same updated so =
    updated ∙ ap (λ m. cond at true m) so ∙ ap (λ a. cond a true (was || list_any P (take i xs))) same ∙ or_one (P x) was (list_any P (take i xs)) ∙ ap
    (λ b. was || b) (sym (any_next P xs i x below is))

-- the keys of one value more
pub need_also : {X : Type 0} (P : X → Bool) (xs : List X) (i : ℕ) (x : X) (was mid now : Bool) → i < length xs → x ≡ get_or xs i x → now ≡ (mid || P x) →
    mid ≡ (was || list_any P (take i xs))
    → now ≡ (was || list_any P (take (i + 1) xs))
need_also P xs i x was mid now below is updated so =
    updated ∙ ap (λ m. m || P x) so ∙ or_also (P x) was (list_any P (take i xs)) ∙ ap (λ b. was || b) (sym (any_next P xs i x below is))

pub any_map : {X Y : Type 0} (f : X → Y) (P : Y → Bool) (xs : List X) → list_any P (map f xs) ≡ list_any (λ x. P (f x)) xs
any_map f P [] = refl
any_map f P (x ∷ xs) = ap (λ b. P (f x) || b) (any_map f P xs)

pub or_none : (b : Bool) → b ≡ (b || false)
or_none true = refl
or_none false = refl

-- ---- the test is true of the needed files, and of no others

files_named : (i : Item) (helds : List Held) (file : List ℕ) → list_any (λ h. bytes_eq (path i.name i.version h.file) file) helds ≡ true → (h : Held) ×
    Contains helds h × (file ≡ path i.name i.version h.file)
files_named i [] file h = absurd (false≢true h)
files_named i (g ∷ helds) file h = elim (or_cases (bytes_eq (path i.name i.version g.file) file)
    (list_any (λ (k : Held). bytes_eq (path i.name i.version k.file) file) helds) h) [
      | inl e ↦ (g, in_here g helds, sym ((bytes_decides (path i.name i.version g.file) file).0 e))
      | inr r ↦ let k = files_named i helds file r in (k.0, in_there g helds k.0 k.1, k.2)
    ]

pub among_found : (items : List Item) (file : List ℕ) → is_file_among items file ≡ true → IsFileAmong items file
among_found [] file h = absurd (false≢true h)
among_found (i ∷ items) file h = elim (or_cases (is_file_of i file) (is_file_among items file) h) [
  | inl e ↦ (i, in_here i items, files_named i i.artifacts file e)
  | inr r ↦ let k = among_found items file r in (k.0, in_there i items k.0 k.1, k.2)
]

or_left : (b c : Bool) → (b || c) ≡ false → b ≡ false
or_left true c e = absurd (false≢true (sym e))
or_left false c e = refl

or_right : (b c : Bool) → (b || c) ≡ false → c ≡ false
or_right true c e = absurd (false≢true (sym e))
or_right false c e = e

not_any : {X : Type 0} (P : X → Bool) (xs : List X) (x : X) → list_any P xs ≡ false → Contains xs x → P x ≡ false
not_any P [] x none has = absurd (in_nil x has)
not_any P (y ∷ xs) x none has = elim (in_cons y xs x has) [
  | inl e ↦ subst (λ z. P z ≡ false) e (or_left (P y) (list_any P xs) none)
  | inr more ↦ not_any P xs
      x (or_right (P y) (list_any P xs) none) more
]

pub not_among : (items : List Item) (file : List ℕ) → is_file_among items file ≡ false → IsFileAmong items file → ⊥
not_among items file none among =
    let i = among.0 in
    let h = among.2.0 in
    let item = not_any (λ (x : Item). is_file_of x file) items i none among.1 in
    let one = not_any (λ (k : Held). bytes_eq (path i.name i.version k.file) file) i.artifacts h item among.2.1 in
    false≢true (sym one ∙ (bytes_decides (path i.name i.version h.file) file).1 (sym among.2.2))

-- ---- a walk by index

pub placed : {A : Type 0} (xs all : List A) (i : ℕ) (x : A) → xs ≡ all → i < length xs → x ≡ get_or xs i x → (i < length all) × (x ≡ get_or all i x)
placed xs all i x same below is = subst (λ ys. (i < length ys) × (x ≡ get_or ys i x)) same (below, is)

pub any_whole : {A : Type 0} (P : A → Bool) (xs all : List A) (i : ℕ) (was now : Bool) → xs ≡ all → length xs ≤ i → now ≡ (was || list_any P (take i all)) →
    now ≡ (was || list_any P all)
any_whole P xs all i was now same past so = so ∙ ap (λ ys. was || list_any P ys) (subst (λ ys. take i ys ≡ ys) same (take_all i xs past))
