-- Lists that grow at their end.
use Rattle.std.proofs.Common.{◌≡◌, ◌⊎◌, inl, inr, ◌∙◌, ℕ, zero, suc, ◌+◌, Bool, true, false, List, [], ◌∷◌, ◌++◌, Some, refl, sym, ap, subst, append_assoc}
use Rattle.std.proofs.Common.{add-one}
use Rattle.std.specs.Prelude.{◌||◌, ◌&&◌, slice_get, take}
use Rattle.std.specs.List.{list_any, list_all}

module _ {A : Type 0} where
  pub more : (a b : List A) (x : A) (c : List A) → c ≡ a ++ b → c ++ x ∷ [] ≡ a ++ (b ++ x ∷ [])
  more a b x c is = ap (λ (l : List A). l ++ x ∷ []) is ∙ append_assoc a b (x ∷ [])

  pub none_more : (p : A → Bool) (xs : List A) (x : A) → list_any p xs ≡ false → p x ≡ false → list_any p (xs ++ x ∷ []) ≡ false
  none_more p [] x none is = subst (λ (b : Bool). (b || false) ≡ false) (sym is) refl
  none_more p (y ∷ xs) x none is = by (p y) none (λ none. none_more p xs x none is)
    where
      by : (b : Bool) → (b || list_any p xs) ≡ false → (list_any p xs ≡ false → list_any p (xs ++ x ∷ []) ≡ false) → (b || list_any p (xs ++ x ∷ [])) ≡ false
      by true none on = none
      by false none on = on none

  -- and backwards
  pub none_before : (p : A → Bool) (xs : List A) (x : A) → list_any p (xs ++ x ∷ []) ≡ false → (list_any p xs ≡ false) × (p x ≡ false)
  none_before p [] x none = by (p x) none
    where
      by : (b : Bool) → (b || false) ≡ false → (list_any p [] ≡ false) × (b ≡ false)
      by true none = (refl, none)
      by false none = (refl, refl)
  none_before p (y ∷ xs) x none = by (p y) none (λ none. none_before p xs x none)
    where
      by : (b : Bool) → (b || list_any p (xs ++ x ∷ [])) ≡ false → (list_any p (xs ++ x ∷ []) ≡ false → (list_any p xs ≡ false) × (p x ≡ false)) →
          ((b || list_any p xs) ≡ false) × (p x ≡ false)
      by true none on = absurd cc
      by false none on = on none

  pub all_more : (p : A → Bool) (xs : List A) (x : A) → list_all p xs ≡ true → p x ≡ true → list_all p (xs ++ x ∷ []) ≡ true
  all_more p [] x all is = subst (λ (b : Bool). (b && true) ≡ true) (sym is) refl
  all_more p (y ∷ xs) x all is = by (p y) all (λ all. all_more p xs x all is)
    where
      by : (b : Bool) → (b && list_all p xs) ≡ true → (list_all p xs ≡ true → list_all p (xs ++ x ∷ []) ≡ true) → (b && list_all p (xs ++ x ∷ [])) ≡ true
      by true all on = on all
      by false all on = all

  -- no list with an element is empty
  pub not_empty : (a : List A) (x : A) (b : List A) → [] ≡ a ++ x ∷ b → ⊥
  not_empty [] x b e = absurd cc
  not_empty (y ∷ a) x b e = absurd cc

  pub head_same : (x y : A) (xs ys : List A) → x ∷ xs ≡ y ∷ ys → x ≡ y
  head_same x y xs ys e = cc

  pub tail_same : (x y : A) (xs ys : List A) → x ∷ xs ≡ y ∷ ys → xs ≡ ys
  tail_same x y xs ys e = cc

  -- An element of a list that has grown is the new one, or one of before.
  pub cut_last : (xs : List A) (y : A) (a : List A) (x : A) (b : List A) → xs ++ y ∷ [] ≡ a ++ x ∷ b
      → ((b ≡ []) × (y ≡ x) × (xs ≡ a)) ⊎ ((c : List A) × (b ≡ c ++ y ∷ []) × (xs ≡ a ++ x ∷ c))
  cut_last [] y [] x b e = inl (sym (tail_same y x [] b e), head_same y x [] b e, refl)
  cut_last [] y (z ∷ a) x b e = absurd (not_empty a x b (tail_same y z [] (a ++ x ∷ b) e))
  cut_last (w ∷ xs) y [] x b e = inr (xs, sym (tail_same w x (xs ++ y ∷ []) b e), ap (λ (v : A). v ∷ xs) (head_same w x (xs ++ y ∷ []) b e))
  cut_last (w ∷ xs) y (z ∷ a) x b e =
      let head = ap (λ (v : A). v ∷ xs) (head_same w z (xs ++ y ∷ []) (a ++ x ∷ b) e) in
      elim (cut_last xs y a x b (tail_same w z (xs ++ y ∷ []) (a ++ x ∷ b) e)) [
        | inl f ↦ inl (f.0, f.1, head ∙ ap (λ (l : List A). z ∷ l) f.2)
        | inr f ↦ inr (f.0, f.1, head ∙ ap (λ (l : List A). z ∷ l) f.2)
      ]

  -- the first ones, and the next
  take_suc : (xs : List A) (k : ℕ) (x : A) → slice_get xs k ≡ Some x → take (suc k) xs ≡ take k xs ++ x ∷ []
  take_suc [] k x is = absurd cc
  take_suc (y ∷ xs) zero x is = let same : y ≡ x = cc in ap (λ (v : A). v ∷ []) same
  take_suc (y ∷ xs) (suc k) x is = ap (λ (l : List A). y ∷ l) (take_suc xs k x is)

  pub take_next : (xs : List A) (k : ℕ) (x : A) → slice_get xs k ≡ Some x → take (k + 1) xs ≡ take k xs ++ x ∷ []
  take_next xs k x is = subst (λ (m : ℕ). take m xs ≡ take k xs ++ x ∷ []) (sym (add-one k)) (take_suc xs k x is)
