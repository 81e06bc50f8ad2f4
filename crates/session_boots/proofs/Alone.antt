-- The only child that lives.
use Rattle.std.specs.Prelude.{ℕ, ◌==◌, ◌<◌, ◌≤◌, ◌+◌, ◌-◌, ◌⊎◌, true, List, [], ◌∷◌, Contains, length, slice_index_or, zero}
use Rattle.std.proofs.Common.{◌≡◌, ◌∙◌, suc, inl, inr, refl, sym, ap, subst, arith, eq-eqb}
use Rattle.step_runner.specs.Entries.{without}

pub is_alone : (n : ℕ) (living : List ℕ) → living ≡ n ∷ [] → Contains living n
is_alone n living is = subst (λ (l : List ℕ). Contains l n) (sym is) (zero, omega arith, refl)

pub the_only : (n m : ℕ) (living : List ℕ) → living ≡ n ∷ [] → Contains living m → m ≡ n
the_only n m living is h = let k = subst (λ (l : List ℕ). Contains l m) is h in by k.0 k.1 k.2
  where
    by : (k : ℕ) → k < length (n ∷ []) → slice_index_or (n ∷ []) k m ≡ m → m ≡ n
    by zero lt same = sym same
    by (suc k) lt same = absurd (omega (arith, lt))

pub none_after : (n : ℕ) (living : List ℕ) → living ≡ n ∷ [] → without n living ≡ []
none_after n living is = let same : (n == n) ≡ true = eq-eqb n n refl in ap (λ (l : List ℕ). without n l) is ∙ rw same refl

-- a wait to the deadline elapsed, and a moment was asked for: the deadline has passed, or the time stands at its end
pub late_after : (last told clock after now deadline : ℕ) → told ≤ clock → told < deadline → deadline < last → (clock ≤ after) ×
    ((clock + (deadline - told) ≤ after) ⊎ (after ≡ last - 1)) → after ≤ now → deadline ≤ now
late_after last told clock after now deadline past lt in_time waited later = by waited.1
  where
    by : (clock + (deadline - told) ≤ after) ⊎ (after ≡ last - 1) → deadline ≤ now
    by (inl h) = omega (arith, h, past, lt, later)
    by (inr h) = omega (arith, h, in_time, later)
