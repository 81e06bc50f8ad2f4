-- Components changed one at a time.
use Rattle.std.proofs.Common.{◌≡◌, ◌<◌, ◌+◌, ℕ, suc, zero, List, [], ◌∷◌, length, refl, ap, ◌∙◌, get_or, take, drop, arith, subst, add-one, map}
use Rattle.std.proofs.Math.ListN.{set}
use Rattle.components.specs.Components.{ComponentState, At, changed_at}

-- what a loop over all has done so far
pub more_done : (u : ComponentState → ComponentState) (xs ys : List ComponentState) (k : ℕ) (d t : ComponentState) → k < length xs → t ≡ u (get_or xs k d) →
    take k xs ≡ map u (take k ys) → drop k xs ≡ drop k ys
    → (take (k + 1) (set xs k t) ≡ map u (take (k + 1) ys)) × (drop (k + 1) (set xs k t) ≡ drop (k + 1) ys)
more_done u [] ys k d t l h a b = absurd (omega arith)
more_done u (x ∷ xs) [] zero d t l h a b = absurd (cc)
more_done u (x ∷ xs) (y ∷ ys) zero d t l h a b =
    let r : x ≡ y = cc in let e : xs ≡ ys = cc in (ap (λ (p : ComponentState). p ∷ []) (h ∙ ap u r), e)
more_done u (x ∷ xs) [] (suc k) d t l h a b = absurd (cc)
more_done u (x ∷ xs) (y ∷ ys) (suc k) d t l h a b =
    let c : take k xs ≡ map u (take k ys) = cc in
    let e : x ≡ u y = cc in
    let i = more_done u xs ys k d t (omega arith) h c b in
    rw add-one (
      let j = rw add-one at i.0 in ap (λ (p : ComponentState). p ∷ take (suc k) (set xs k t)) e ∙ ap (λ (ps : List ComponentState). u y ∷ ps) j,
      rw add-one at i.1,
    )

-- one was changed
pub set_changed : (f : ComponentState → ComponentState) (xs : List ComponentState) (k : ℕ) (d t : ComponentState) → k < length xs → t ≡ f (get_or xs k d) →
    set xs k t ≡ changed_at k f xs
set_changed f [] k d t l h = absurd (omega arith)
set_changed f (x ∷ xs) zero d t l h = ap (λ (p : ComponentState). p ∷ xs) h
set_changed f (x ∷ xs) (suc k) d t l h = ap (λ (ps : List ComponentState). x ∷ ps) (set_changed f xs k d t (omega arith) h)

pub at_below : (P : ComponentState → Type 0) (xs : List ComponentState) (k : ℕ) → At k P xs → k < length xs
at_below P [] k h = absurd h
at_below P (x ∷ xs) zero h = omega arith
at_below P (x ∷ xs) (suc k) h = let a = at_below P xs k h in omega arith

pub at_got : (P : ComponentState → Type 0) (xs : List ComponentState) (k : ℕ) (d : ComponentState) → k < length xs → P (get_or xs k d) → At k P xs
at_got P [] k d l h = absurd (omega arith)
at_got P (x ∷ xs) zero d l h = h
at_got P (x ∷ xs) (suc k) d l h = at_got P xs k d (omega arith) h

pub at_is : (P : ComponentState → Type 0) (xs : List ComponentState) (k : ℕ) (t : ComponentState) → k < length xs → t ≡ get_or xs k t → P t → At k P xs
at_is P [] k t l e h = absurd (omega (arith, l))
at_is P (x ∷ xs) zero t l e h = subst P e h
at_is P (x ∷ xs) (suc k) t l e h = at_is P xs k t (omega (arith, l)) e h

pub got_at : (P : ComponentState → Type 0) (xs : List ComponentState) (k : ℕ) (d : ComponentState) → At k P xs → P (get_or xs k d)
got_at P [] k d h = absurd h
got_at P (x ∷ xs) zero d h = h
got_at P (x ∷ xs) (suc k) d h = got_at P xs k d h

pub length_changed : (k : ℕ) (f : ComponentState → ComponentState) (xs : List ComponentState) → length (changed_at k f xs) ≡ length xs
length_changed k f [] = refl
length_changed zero f (x ∷ xs) = refl
length_changed (suc k) f (x ∷ xs) = ap suc (length_changed k f xs)

pub at_more : (P Q : ComponentState → Type 0) (xs : List ComponentState) (k : ℕ) → ((p : ComponentState) → P p → Q p) → At k P xs → At k Q xs
at_more P Q [] k f h = absurd h
at_more P Q (x ∷ xs) zero f h = f x h
at_more P Q (x ∷ xs) (suc k) f h = at_more P Q xs k f h
