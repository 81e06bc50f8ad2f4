-- What stands in a list of components.
use Rattle.std.proofs.Common.{◌≡◌, ℕ, suc, zero, List, [], ◌∷◌, map, Option, Some, None, Bool, true, false, refl, sym, ap, ◌∙◌, ◌⊎◌, inl, inr, subst}
use Rattle.std.specs.Prelude.{◌||◌, not, is_some, slice_get}
use Rattle.std.specs.List.{AllByRecursion, list_any}
use Rattle.components.specs.Components.{ComponentState, changed_at}

pub either : (b : Bool) → (b ≡ true) ⊎ (b ≡ false)
either true = inl refl
either false = inr refl

pub clash : {A : Type 0} (b : Bool) → b ≡ true → b ≡ false → A
clash true e f = absurd (cc)
clash false e f = absurd (cc)

pub not_so : (b : Bool) → not b ≡ true → b ≡ false
not_so true e = absurd (cc)
not_so false e = refl

pub none_of : {X : Type 0} (o : Option X) → is_some o ≡ false → o ≡ None
none_of None e = refl
none_of (Some x) e = absurd (cc)

pub second_true : (a b : Bool) → (a || b) ≡ true → a ≡ false → b ≡ true
second_true true b e f = absurd (cc)
second_true false b e f = e

pub some_same : {X : Type 0} (x y : X) → Some x ≡ Some y → x ≡ y
some_same x y e = ap (λ o. elim o [ None ↦ x | Some z ↦ z ]) e

pub no_some : {A : Type 0} {X : Type 0} (x : X) → None ≡ Some x → A
no_some x e = absurd (cc)

-- ---- by places, and by recursion

pub from_places : (P : ComponentState → Type 0) (ps : List ComponentState) → ((k : ℕ) (p : ComponentState) → slice_get ps k ≡ Some p → P p) →
    AllByRecursion P ps
from_places P [] f = tt
from_places P (p ∷ ps) f = (f 0 p refl, from_places P ps (λ k q e. f (suc k) q e))

pub at_places : (P : ComponentState → Type 0) (ps : List ComponentState) → AllByRecursion P ps → (k : ℕ) (p : ComponentState) → slice_get ps k ≡ Some p → P p
at_places P [] a k p e = no_some p e
at_places P (q ∷ qs) a zero p e = subst P (some_same q p e) a.0
at_places P (q ∷ qs) a (suc k) p e = at_places P qs a.1 k p e

-- ---- one changes

pub changed_all : (P : ComponentState → Type 0) (k : ℕ) (g : ComponentState → ComponentState) (ps : List ComponentState) → AllByRecursion P ps →
    ((p : ComponentState) → slice_get ps k ≡ Some p → P p → P (g p)) → AllByRecursion P (changed_at k g ps)
changed_all P k g [] a f = tt
changed_all P zero g (p ∷ ps) a f = (f p refl a.0, a.1)
changed_all P (suc k) g (p ∷ ps) a f = (a.0, changed_all P k g ps a.1 f)

pub changed_same : {X : Type 0} (v : ComponentState → X) (k : ℕ) (g : ComponentState → ComponentState) (ps : List ComponentState) →
    ((p : ComponentState) → slice_get ps k ≡ Some p → v (g p) ≡ v p) → map v (changed_at k g ps) ≡ map v ps
changed_same v k g [] f = refl
changed_same v zero g (p ∷ ps) f = ap (λ x. x ∷ map v ps) (f p refl)
changed_same v (suc k) g (p ∷ ps) f = ap (λ xs. v p ∷ xs) (changed_same v k g ps f)

pub twice : (k : ℕ) (g h : ComponentState → ComponentState) (ps : List ComponentState) → changed_at k g (changed_at k h ps) ≡ changed_at k (λ p. g (h p)) ps
twice k g h [] = refl
twice zero g h (p ∷ ps) = refl
twice (suc k) g h (p ∷ ps) = ap (λ (qs : List ComponentState). p ∷ qs) (twice k g h ps)

pub changed_nothing : (k : ℕ) (ps : List ComponentState) → changed_at k (λ p. p) ps ≡ ps
changed_nothing k [] = refl
changed_nothing zero (p ∷ ps) = refl
changed_nothing (suc k) (p ∷ ps) = ap (λ (qs : List ComponentState). p ∷ qs) (changed_nothing k ps)

-- where none stands none changes
pub changed_past : (k : ℕ) (g : ComponentState → ComponentState) (ps : List ComponentState) → slice_get ps k ≡ None → changed_at k g ps ≡ ps
changed_past k g [] e = refl
changed_past zero g (p ∷ ps) e = no_some p (sym e)
changed_past (suc k) g (p ∷ ps) e = ap (λ (qs : List ComponentState). p ∷ qs) (changed_past k g ps e)

-- what one becomes was something
pub changed_here : (k : ℕ) (g : ComponentState → ComponentState) (ps : List ComponentState) (q : ComponentState) → slice_get (changed_at k g ps) k ≡ Some q →
    (p : ComponentState) × (slice_get ps k ≡ Some p) × (g p ≡ q)
changed_here k g [] q e = no_some q e
changed_here zero g (p ∷ ps) q e = (p, refl, some_same (g p) q e)
changed_here (suc k) g (p ∷ ps) q e = changed_here k g ps q e

-- ---- all change

pub mapped_all : (Q P : ComponentState → Type 0) (g : ComponentState → ComponentState) → ((p : ComponentState) → Q p → P (g p)) →
    (ps : List ComponentState) → AllByRecursion Q ps → AllByRecursion P (map g ps)
mapped_all Q P g f [] a = tt
mapped_all Q P g f (p ∷ ps) a = (f p a.0, mapped_all Q P g f ps a.1)

pub mapped_same : {X : Type 0} (v : ComponentState → X) (g : ComponentState → ComponentState) → ((p : ComponentState) → v (g p) ≡ v p) →
    (ps : List ComponentState) → map v (map g ps) ≡ map v ps
mapped_same v g f [] = refl
mapped_same v g f (p ∷ ps) = ap (λ x. x ∷ map v (map g ps)) (f p) ∙ ap (λ xs. v p ∷ xs) (mapped_same v g f ps)

-- what none changes is met as before
pub any_same : (test : ComponentState → Bool) (ps qs : List ComponentState) → map test qs ≡ map test ps → list_any test qs ≡ list_any test ps
any_same test ps qs e = any_is qs ∙ ap (λ (bs : List Bool). list_any (λ b. b) bs) e ∙ sym (any_is ps)
  where
    any_is : (rs : List ComponentState) → list_any test rs ≡ list_any (λ b. b) (map test rs)
    any_is [] = refl
    any_is (r ∷ rs) = ap (λ (b : Bool). test r || b) (any_is rs)
