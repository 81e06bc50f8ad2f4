-- Blanks at the ends of a text.
use Rattle.std.proofs.Common.{◌≡◌, ◌≢◌, ◌⊎◌, ℕ, ◌==◌, Bool, true, false, List, [], ◌∷◌, ◌++◌, Option, Some, None, MatchOption, Bor, refl, ap, ◌∙◌, inl, inr}
use Rattle.std.specs.Prelude.{if◌then◌else◌}
use Rattle.std.proofs.lemmas.Bool.{or_cases, eqb-true}
use Rattle.recipe_reader.specs.Steps.{is_blank, before, trim_start, trim_end}

which : (x : ℕ) → is_blank x ≡ true → (x ≡ 32) ⊎ (x ≡ 9)
which x h = elim (or_cases (x == 32) (x == 9) h) [ inl e ↦ inl (eqb-true x 32 e) | inr e ↦ inr (eqb-true x 9 e) ]

pub no_first : (s : List ℕ) → ((rest : List ℕ) → s ≢ 32 ∷ rest) → ((rest : List ℕ) → s ≢ 9 ∷ rest) → (x : ℕ) (rest : List ℕ) → is_blank x ≡ true → s ≢ x ∷ rest
no_first s space tab x rest h e = elim (which x h) [
  | inl is ↦ space rest (e ∙ ap (λ y. y ∷ rest) is)
  | inr is ↦ tab rest (e ∙ ap (λ y. y ∷ rest) is)
]

pub no_last : (s : List ℕ) → ((prefix : List ℕ) → s ≢ prefix ++ 32 ∷ []) → ((prefix : List ℕ) → s ≢ prefix ++ 9 ∷ []) → (x : ℕ) (prefix : List ℕ) →
    is_blank x ≡ true → s ≢ prefix ++ x ∷ []
no_last s space tab x prefix h e = elim (which x h) [
  | inl is ↦ space prefix (e ∙ ap (λ y. prefix ++ y ∷ []) is)
  | inr is ↦ tab prefix (e ∙ ap (λ y. prefix ++ y ∷ []) is)
]

-- ---- at the beginning

pub start_step : (x : ℕ) (rest : List ℕ) → is_blank x ≡ true → trim_start (x ∷ rest) ≡ trim_start rest
start_step x rest h = ap (λ b. if b then trim_start rest else x ∷ rest) h

start_at : (x : ℕ) (rest : List ℕ) (b : Bool) → is_blank x ≡ b → (is_blank x ≡ true → ⊥) → (if b then trim_start rest else x ∷ rest) ≡ x ∷ rest
start_at x rest true e h = absurd (h e)
start_at x rest false e h = refl

pub start_end : (s : List ℕ) → ((x : ℕ) (rest : List ℕ) → is_blank x ≡ true → s ≢ x ∷ rest) → trim_start s ≡ s
start_end [] h = refl
start_end (x ∷ rest) h = start_at x rest (is_blank x) refl (λ e. h x rest e refl)

-- ---- at the end

pub end_step : (prefix : List ℕ) (x : ℕ) → is_blank x ≡ true → trim_end (prefix ++ x ∷ []) ≡ trim_end prefix
end_step [] x h = ap (λ b. if b then [] else x ∷ []) h
end_step (y ∷ prefix) x h = ap (before y) (end_step prefix x h)

before_at : (x : ℕ) (b : Bool) → is_blank x ≡ b → (is_blank x ≡ true → ⊥) → (if b then [] else x ∷ []) ≡ x ∷ []
before_at x true e h = absurd (h e)
before_at x false e h = refl

pub end_end : (s : List ℕ) → ((x : ℕ) (prefix : List ℕ) → is_blank x ≡ true → s ≢ prefix ++ x ∷ []) → trim_end s ≡ s
end_end [] h = refl
end_end (x ∷ []) h = before_at x (is_blank x) refl (λ e. h x [] e refl)
end_end (x ∷ y ∷ rest) h = ap (before x) (end_end (y ∷ rest) (λ z prefix e is. h z (x ∷ prefix) e (ap (λ l. x ∷ l) is)))

-- ---- either blank stripped

pub start_either : (s : List ℕ) (r : Option (Bor (List ℕ))) → ((rest : List ℕ) → s ≢ 32 ∷ rest) →
    MatchOption r ((rest : List ℕ) → s ≢ 9 ∷ rest) (λ x. s ≡ 9 ∷ x.now)
    → MatchOption r ((x : ℕ) (rest : List ℕ) → is_blank x ≡ true → s ≢ x ∷ rest) (λ after. (x : ℕ) × (is_blank x ≡ true) × (s ≡ x ∷ after.now))
start_either s None space h = no_first s space h
start_either s (Some x) space h = (9, refl, h)

pub end_either : (s : List ℕ) (r : Option (Bor (List ℕ))) → ((prefix : List ℕ) → s ≢ prefix ++ 32 ∷ []) →
    MatchOption r ((prefix : List ℕ) → s ≢ prefix ++ 9 ∷ []) (λ x. s ≡ x.now ++ 9 ∷ [])
    → MatchOption r ((x : ℕ) (prefix : List ℕ) → is_blank x ≡ true → s ≢ prefix ++ x ∷ [])
    (λ prefix. (x : ℕ) × (is_blank x ≡ true) × (s ≡ prefix.now ++ x ∷ []))
end_either s None space h = no_last s space h
end_either s (Some x) space h = (9, refl, h)
