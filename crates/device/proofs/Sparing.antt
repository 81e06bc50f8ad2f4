-- Copies of what closed and of the groups, element by element.
use Rattle.std.proofs.Common.{◌≡◌, ℕ, zero, suc, ◌+◌, ◌<◌, false, List, [], ◌∷◌, ◌++◌, length, map, take, drop, get_or, Some, None, refl, sym, ap, subst, ◌∙◌}
use Rattle.std.proofs.Common.{arith}
use Rattle.std.specs.Prelude.{slice_get}
use Rattle.std.specs.Str.{bytes_eq}
use Rattle.std.specs.Map.{lookup}
use Rattle.std.specs.List.{AllByRecursion, IsDistinct}
use Rattle.std.proofs.lemmas.Bool.{false_from_ne_true, false≢true}
use Rattle.std.proofs.lemmas.List.{drop_more, take-append-drop, map-append}
use Rattle.std.proofs.lemmas.Map.Keys.{IsDistinct-head, IsDistinct-tail}
use Rattle.std.proofs.lemmas.Slice.Eq.{bytes_eq-Decides}
use Rattle.nuc_base.specs.declared.kinds.Outcome.{Outcome}
use Rattle.records.specs.declared.record.Group.{Group}
use Rattle.device.specs.Grouped.{put_group}
use Rattle.device.specs.Sound.{arns, ids}
use Rattle.device.proofs.FirstPlaces.{some_is}

all_at : (P : List ℕ → Type 0) (ys : List (List ℕ)) (x : List ℕ) (zs : List (List ℕ)) → AllByRecursion P (ys ++ x ∷ zs) → P x
all_at P [] x zs h = h.0
all_at P (y ∷ ys) x zs h = all_at P ys x zs h.1

flip_false : (x y : List ℕ) → bytes_eq y x ≡ false → bytes_eq x y ≡ false
flip_false x y h = false_from_ne_true (bytes_eq x y) (λ e. false≢true (sym h ∙ (bytes_eq-Decides y x).1 (sym ((bytes_eq-Decides x y).0 e))))

-- one of texts that differ is none of those before it
pub none_before : (ys : List (List ℕ)) (x : List ℕ) (zs : List (List ℕ)) → IsDistinct bytes_eq (ys ++ x ∷ zs) → AllByRecursion (λ y. bytes_eq x y ≡ false) ys
none_before [] x zs differ = tt
none_before (y ∷ ys) x zs differ = (
  flip_false x y (all_at (λ z. bytes_eq y z ≡ false) ys x zs (IsDistinct-head bytes_eq y (ys ++ x ∷ zs) differ)),
  none_before ys x zs (IsDistinct-tail bytes_eq y (ys ++ x ∷ zs) differ),
)

split : {A : Type 0} (xs : List A) (i : ℕ) (x : A) → i < length xs → x ≡ get_or xs i x → xs ≡ take i xs ++ x ∷ drop (i + 1) xs
split xs i x below is = sym (take-append-drop i xs) ∙ ap (λ (l : List _). take i xs ++ l) (drop_more xs i x below ∙ ap (λ y. y ∷ drop (i + 1) xs) (sym is))

-- the keys before this place
keys_before : {A : Type 0} (key : A → List ℕ) (xs : List A) (i : ℕ) (x : A) → i < length xs → x ≡ get_or xs i x → IsDistinct bytes_eq (map key xs) →
    AllByRecursion (λ y. bytes_eq (key x) y ≡ false) (map key (take i xs))
keys_before key xs i x below is differ =
    let whole : map key xs ≡ map key (take i xs) ++ key x ∷ map key (drop (i + 1) xs) = ap (map key) (split xs i x below is) ∙ map-append key (take i xs)
    (x ∷ drop (i + 1) xs) in
    none_before (map key (take i xs)) (key x) (map key (drop (i + 1) xs)) (subst (IsDistinct bytes_eq) whole differ)

pub fresh : (id : List ℕ) (es : List (List ℕ × Outcome)) → AllByRecursion (λ y. bytes_eq id y ≡ false) (ids es) → lookup (bytes_eq id) es ≡ None
fresh id [] h = refl
fresh id (e ∷ es) h = rw h.0 (fresh id es h.1)

pub next_fresh : (es : List (List ℕ × Outcome)) (i : ℕ) (e : List ℕ × Outcome) → i < length es → e ≡ get_or es i e → IsDistinct bytes_eq (ids es) →
    lookup (bytes_eq e.0) (take i es) ≡ None
next_fresh es i e below is differ = fresh e.0 (take i es) (keys_before (λ (e : List ℕ × Outcome). e.0) es i e below is differ)

joins_end : (g : Group) (gs : List Group) → AllByRecursion (λ y. bytes_eq g.arn y ≡ false) (arns gs) → put_group gs g ≡ gs ++ g ∷ []
joins_end g [] h = refl
joins_end g (x ∷ gs) h = rw h.0 (ap (λ (l : List Group). x ∷ l) (joins_end g gs h.1))

pub next_joins : (gs : List Group) (i : ℕ) (g : Group) → i < length gs → g ≡ get_or gs i g → IsDistinct bytes_eq (arns gs) →
    put_group (take i gs) g ≡ take i gs ++ g ∷ []
next_joins gs i g below is differ = joins_end g (take i gs) (keys_before (λ (g : Group). g.arn) gs i g below is differ)

-- the element at a place
pub got : {A : Type 0} (xs : List A) (k : ℕ) (x : A) → slice_get xs k ≡ Some x → (k < length xs) × (x ≡ get_or xs k x)
got [] k x h = absurd cc
got (y ∷ xs) zero x h = (omega arith, sym (some_is y x h))
got (y ∷ xs) (suc k) x h = let rest = got xs k x h in (omega (arith, rest.0), rest.1)
