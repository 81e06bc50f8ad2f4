-- What loops over a plan's lists keep.
use Rattle.std.proofs.Common.{◌≡◌, ℕ, ◌<◌, ◌≤◌, ◌+◌, Bool, true, false, ◌||◌, List, [], ◌∷◌, ◌++◌, length, drop, get_or, IsTrue, ◌↔◌, refl, sym, ap, subst}
use Rattle.std.proofs.Common.{◌∙◌, append_assoc}
use Rattle.std.specs.List.{AllByRecursion, AllZip, IsDistinct, list_any}
use Rattle.std.proofs.lemmas.List.{drop_more, drop_all, append-nil}
use Rattle.std.proofs.lemmas.Bool.{false≢true}
use Rattle.std.proofs.lemmas.Map.Keys.{IsDistinct-head, IsDistinct-tail, IsDistinct-cons}

-- a test that answers yes, and one that answers no
pub yes : (P : Type 0) → P → IsTrue true ↔ P
yes P p = (λ e. p, λ q. refl)

pub no : (P : Type 0) → (P → ⊥) → IsTrue false ↔ P
no P bad = (λ e. absurd (false≢true e), λ p. absurd (bad p))

-- the next element comes first of those that are left
pub next : {X : Type 0} (xs : List X) (i : ℕ) (x : X) → i < length xs → x ≡ get_or xs i x → drop i xs ≡ x ∷ drop (i + 1) xs
next xs i x below is = drop_more xs i x below ∙ ap (λ y. y ∷ drop (i + 1) xs) (sym is)

-- ---- a test of each element

-- P holds of all where it holds of those that are left, and the other way round
pub record Left {A : Type 0} (P : A → Type 0) (all rest : List A) : Type 0 where
  pub back : AllByRecursion P rest → AllByRecursion P all
  pub forth : AllByRecursion P all → AllByRecursion P rest

pub left_start : {A : Type 0} (P : A → Type 0) (all : List A) → Left P all all
left_start P all = record { back = λ h. h; forth = λ h. h }

pub left_more : {A : Type 0} (P : A → Type 0) (all xs : List A) (i : ℕ) (x : A) → i < length xs → x ≡ get_or xs i x → Left P all (drop i xs) → P x →
    Left P all (drop (i + 1) xs)
left_more P all xs i x below is l h =
    let m : Left P all (x ∷ drop (i + 1) xs) = subst (Left P all) (next xs i x below is) l in
    record { back = λ r. m.back (h, r); forth = λ r. (m.forth r).1 }

pub left_bad : {A : Type 0} (P : A → Type 0) (all xs : List A) (i : ℕ) (x : A) → i < length xs → x ≡ get_or xs i x → Left P all (drop i xs) → (P x → ⊥) →
    AllByRecursion P all → ⊥
left_bad P all xs i x below is l bad h =
    let m : Left P all (x ∷ drop (i + 1) xs) = subst (Left P all) (next xs i x below is) l in
    bad (m.forth h).0

pub left_end : {A : Type 0} (P : A → Type 0) (all xs : List A) (i : ℕ) → length xs ≤ i → Left P all (drop i xs) → AllByRecursion P all
left_end P all xs i past l =
    let m : Left P all [] = subst (Left P all) (drop_all i xs past) l in
    m.back tt

-- ---- a value for each element

-- each element that is left has a value where each has, and the values so far are those of the elements before
pub record Goes {A B : Type 0} (P : A → Type 0) (R : A → B → Type 0) (all rest : List A) (done : List B) : Type 0 where
  pub forth : AllByRecursion P all → AllByRecursion P rest
  pub values : (more : List B) → AllZip R rest more → AllZip R all (done ++ more)

pub goes_start : {A B : Type 0} (P : A → Type 0) (R : A → B → Type 0) (all : List A) → Goes P R all all []
goes_start P R all = record { forth = λ h. h; values = λ more h. h }

pub goes_more : {A B : Type 0} (P : A → Type 0) (R : A → B → Type 0) (all xs : List A) (i : ℕ) (x : A) (done : List B) (y : B)
    → i < length xs → x ≡ get_or xs i x → Goes P R all (drop i xs) done → R x y → Goes P R all (drop (i + 1) xs) (done ++ y ∷ [])
goes_more P R all xs i x done y below is g h =
    let m : Goes P R all (x ∷ drop (i + 1) xs) done = subst (λ r. Goes P R all r done) (next xs i x below is) g in
    record {
      forth = λ r. (m.forth r).1;
      values = λ more r. subst (AllZip R all) (sym (append_assoc done (y ∷ []) more)) (m.values (y ∷ more) (h, r));
    }

pub goes_bad : {A B : Type 0} (P : A → Type 0) (R : A → B → Type 0) (all xs : List A) (i : ℕ) (x : A) (done : List B)
    → i < length xs → x ≡ get_or xs i x → Goes P R all (drop i xs) done → (P x → ⊥) → AllByRecursion P all → ⊥
goes_bad P R all xs i x done below is g bad h =
    let m : Goes P R all (x ∷ drop (i + 1) xs) done = subst (λ r. Goes P R all r done) (next xs i x below is) g in
    bad (m.forth h).0

pub goes_end : {A B : Type 0} (P : A → Type 0) (R : A → B → Type 0) (all xs : List A) (i : ℕ) (done : List B) → length xs ≤ i →
    Goes P R all (drop i xs) done → AllZip R all done
goes_end P R all xs i done past g =
    let m : Goes P R all [] done = subst (λ r. Goes P R all r done) (drop_all i xs past) g in
    subst (AllZip R all) (append-nil done) (m.values [] tt)

-- ---- two lists side by side

pub record Beside {A B : Type 0} (R : A → B → Type 0) (all : List A) (also : List B) (rest : List A) (left : List B) : Type 0 where
  pub back : AllZip R rest left → AllZip R all also
  pub forth : AllZip R all also → AllZip R rest left

pub beside_start : {A B : Type 0} (R : A → B → Type 0) (xs : List A) (ys : List B) → Beside R xs ys xs ys
beside_start R xs ys = record { back = λ h. h; forth = λ h. h }

module _ {A B : Type 0} (R : A → B → Type 0) (all : List A) (also : List B) (xs : List A) (ys : List B) (i : ℕ) (x : A) (y : B) where
  opened : i < length xs → i < length ys → x ≡ get_or xs i x → y ≡ get_or ys i y → Beside R all also (drop i xs) (drop i ys)
      → Beside R all also (x ∷ drop (i + 1) xs) (y ∷ drop (i + 1) ys)
  opened below under is at b =
      subst (λ r. Beside R all also (x ∷ drop (i + 1) xs) r) (next ys i y under at) (subst (λ r. Beside R all also r (drop i ys)) (next xs i x below is) b)

  pub beside_more : i < length xs → i < length ys → x ≡ get_or xs i x → y ≡ get_or ys i y → Beside R all also (drop i xs) (drop i ys) → R x y
      → Beside R all also (drop (i + 1) xs) (drop (i + 1) ys)
  beside_more below under is at b h =
      let m = opened below under is at b in
      record { back = λ r. m.back (h, r); forth = λ r. (m.forth r).1 }

  pub beside_bad : i < length xs → i < length ys → x ≡ get_or xs i x → y ≡ get_or ys i y → Beside R all also (drop i xs) (drop i ys) → (R x y → ⊥) →
      AllZip R all also → ⊥
  beside_bad below under is at b bad h =
      let m = opened below under is at b in
      bad (m.forth h).0

pub beside_end : {A B : Type 0} (R : A → B → Type 0) (all : List A) (also : List B) (xs : List A) (ys : List B) (i : ℕ) → length xs ≤ i → length ys ≤ i
    → Beside R all also (drop i xs) (drop i ys) → AllZip R all also
beside_end R all also xs ys i past out b =
    let m : Beside R all also [] [] = subst (λ r. Beside R all also [] r) (drop_all i ys out)
    (subst (λ r. Beside R all also r (drop i ys)) (drop_all i xs past) b) in
    m.back tt

-- ---- names that differ

neither : (a b : Bool) → (a || b) ≡ false → (a ≡ false) × (b ≡ false)
neither true b h = absurd (false≢true (sym h))
neither false b h = (refl, h)

none_pass : {A : Type 0} (p : A → Bool) (xs : List A) → list_any p xs ≡ false → AllByRecursion (λ x. p x ≡ false) xs
none_pass p [] h = tt
none_pass p (x ∷ xs) h =
    let both = neither (p x) (list_any p xs) h in
    (both.0, none_pass p xs both.1)

one_passes : {A : Type 0} (p : A → Bool) (xs : List A) → list_any p xs ≡ true → AllByRecursion (λ x. p x ≡ false) xs → ⊥
one_passes p [] h none = absurd (false≢true h)
one_passes p (x ∷ xs) h none = one_passes p xs (subst (λ b. (b || list_any p xs) ≡ true) none.0 h) none.1

-- all differ where those that are left do, and the other way round
pub record Apart {A : Type 0} (same : A → A → Bool) (all rest : List A) : Type 0 where
  pub back : IsDistinct same rest → IsDistinct same all
  pub forth : IsDistinct same all → IsDistinct same rest

pub apart_start : {A : Type 0} (same : A → A → Bool) (all : List A) → Apart same all all
apart_start same all = record { back = λ h. h; forth = λ h. h }

pub apart_more : {A : Type 0} (same : A → A → Bool) (all xs : List A) (i : ℕ) (x : A) → i < length xs → x ≡ get_or xs i x → Apart same all (drop i xs)
    → list_any (same x) (drop (i + 1) xs) ≡ false → Apart same all (drop (i + 1) xs)
apart_more same all xs i x below is l h =
    let m : Apart same all (x ∷ drop (i + 1) xs) = subst (Apart same all) (next xs i x below is) l in
    record {
      back = λ r. m.back (IsDistinct-cons same x (drop (i + 1) xs) (none_pass (same x) (drop (i + 1) xs) h) r);
      forth = λ r. IsDistinct-tail same x (drop (i + 1) xs) (m.forth r);
    }

pub apart_bad : {A : Type 0} (same : A → A → Bool) (all xs : List A) (i : ℕ) (x : A) → i < length xs → x ≡ get_or xs i x → Apart same all (drop i xs)
    → list_any (same x) (drop (i + 1) xs) ≡ true → IsDistinct same all → ⊥
apart_bad same all xs i x below is l h d =
    let m : Apart same all (x ∷ drop (i + 1) xs) = subst (Apart same all) (next xs i x below is) l in
    one_passes (same x) (drop (i + 1) xs) h (IsDistinct-head same x (drop (i + 1) xs) (m.forth d))

pub apart_end : {A : Type 0} (same : A → A → Bool) (all xs : List A) (i : ℕ) → length xs ≤ i → Apart same all (drop i xs) → IsDistinct same all
unfolding IsDistinct
apart_end same all xs i past l =
    let m : Apart same all [] = subst (Apart same all) (drop_all i xs past) l in
    m.back tt
