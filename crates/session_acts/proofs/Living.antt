-- Who lives once one lives no more.
use Rattle.std.specs.Prelude.{ℕ, suc, zero, ◌==◌, Bool, true, false, not, List, [], ◌∷◌, Contains, if◌then◌else◌}
use Rattle.std.specs.List.{filter}
use Rattle.std.proofs.Common.{◌≡◌, ◌≢◌, ◌↔◌, ◌⊎◌, inl, inr, refl, sym, ap, subst, arith}
use Rattle.std.proofs.lemmas.Bool.{eqb-false, ne_eqb}
use Rattle.step_runner.specs.Entries.{without}

pub contains_none : {A : Type 0} (x : A) → Contains [] x → ⊥
contains_none x h = omega (arith, h.1)

uncons : (x m : ℕ) (xs : List ℕ) → Contains (x ∷ xs) m → (x ≡ m) ⊎ Contains xs m
uncons x m xs (zero, less, is) = inl is
uncons x m xs (suc k, less, is) = inr (k, omega (arith, less), is)

here : (x m : ℕ) (xs : List ℕ) → x ≡ m → Contains (x ∷ xs) m
here x m xs is = (zero, omega arith, is)

there : (x m : ℕ) (xs : List ℕ) → Contains xs m → Contains (x ∷ xs) m
there x m xs h = (suc h.0, omega (arith, h.1), h.2)

-- whoever is kept was there, and passes
kept_first : (p : ℕ → Bool) (x m : ℕ) (xs : List ℕ) → (Contains (filter p xs) m → Contains xs m × (p m ≡ true)) → p x ≡ true → (x ≡ m) ⊎
    Contains (filter p xs) m → Contains (x ∷ xs) m × (p m ≡ true)
kept_first p x m xs rest is (inl same) = (here x m xs same, subst (λ (y : ℕ). p y ≡ true) same is)
kept_first p x m xs rest is (inr more) = let k = rest more in (there x m xs k.0, k.1)

kept_by : (p : ℕ → Bool) (x m : ℕ) (xs : List ℕ) (b : Bool) → (Contains (filter p xs) m → Contains xs m × (p m ≡ true)) → p x ≡ b →
    Contains (if b then x ∷ filter p xs else filter p xs) m → Contains (x ∷ xs) m × (p m ≡ true)
kept_by p x m xs true rest is h = kept_first p x m xs rest is (uncons x m (filter p xs) h)
kept_by p x m xs false rest is h = let k = rest h in (there x m xs k.0, k.1)

kept : (p : ℕ → Bool) (xs : List ℕ) (m : ℕ) → Contains (filter p xs) m → Contains xs m × (p m ≡ true)
kept p [] m h = absurd (contains_none m h)
kept p (x ∷ xs) m h = kept_by p x m xs (p x) (λ more. kept p xs m more) refl h

keeps_by : (p : ℕ → Bool) (x m : ℕ) (xs : List ℕ) (b : Bool) → (Contains xs m → Contains (filter p xs) m) → p m ≡ true → p x ≡ b → (x ≡ m) ⊎ Contains xs m →
    Contains (if b then x ∷ filter p xs else filter p xs) m
keeps_by p x m xs true rest passes is (inl same) = here x m (filter p xs) same
keeps_by p x m xs true rest passes is (inr more) = there x m (filter p xs) (rest more)
keeps_by p x m xs false rest passes is (inl same) = let no_pass = subst (λ (y : ℕ). p y ≡ false) same is in absurd cc
keeps_by p x m xs false rest passes is (inr more) = rest more

keeps : (p : ℕ → Bool) (xs : List ℕ) (m : ℕ) → Contains xs m → p m ≡ true → Contains (filter p xs) m
keeps p [] m h passes = absurd (contains_none m h)
keeps p (x ∷ xs) m h passes = keeps_by p x m xs (p x) (λ more. keeps p xs m more passes) passes refl (uncons x m xs h)

not_same : (m n : ℕ) → not (m == n) ≡ true → m ≢ n
not_same m n h = by (m == n) refl h
  where
    by : (b : Bool) → (m == n) ≡ b → not b ≡ true → m ≢ n
    by true is h = absurd cc
    by false is h = eqb-false m n is

pub lives_without : (n : ℕ) (xs : List ℕ) (m : ℕ) → Contains (without n xs) m ↔ ((m ≢ n) × Contains xs m)
lives_without n xs m = (
  (λ h. let k = kept (λ (x : ℕ). not (x == n)) xs m h in (not_same m n k.1, k.0)),
  (λ h. keeps (λ (x : ℕ). not (x == n)) xs m h.1 (ap not (ne_eqb m n h.0))),
)

pub lives_cons : (n : ℕ) (xs : List ℕ) (m : ℕ) → Contains (n ∷ xs) m ↔ ((m ≡ n) ⊎ Contains xs m)
lives_cons n xs m = (
  (λ h. swapped (uncons n m xs h)),
  (λ h. joined h),
)
  where
    swapped : (n ≡ m) ⊎ Contains xs m → (m ≡ n) ⊎ Contains xs m
    swapped (inl is) = inl (sym is)
    swapped (inr h) = inr h

    joined : (m ≡ n) ⊎ Contains xs m → Contains (n ∷ xs) m
    joined (inl is) = here n m xs (sym is)
    joined (inr h) = there n m xs h
