-- What holds of each element so far, in a loop.
use Rattle.std.proofs.Common.{◌≡◌, ◌⊎◌, [], ◌∷◌, ℕ, ◌+◌, ◌<◌, ◌≤◌, List, length, get_or, take, sym, subst, inl, inr}
use Rattle.std.specs.List.{Contains}
use Rattle.std.proofs.lemmas.List.{take_more, take_all}
use Rattle.std.proofs.lemmas.List.Elements.{Contains-append_left, Contains-push, Contains-push_cases}

pub each_more : {X : Type 0} (P : X → Type 0) (xs : List X) (i : ℕ) (d : X) → i < length xs → ((x : X) → Contains (take i xs) x → P x) → P (get_or xs i d) →
    (x : X) → Contains (take (i + 1) xs) x → P x
each_more P xs i d lt h here = λ x j. elim (Contains-push_cases (take i xs) (get_or xs i d) x (subst (λ l. Contains l x) (take_more xs i d lt) j))
    [ inl k ↦ h x k | inr e ↦ subst P e here ]

pub each_all : {X : Type 0} (P : X → Type 0) (xs : List X) (i : ℕ) → length xs ≤ i → ((x : X) → Contains (take i xs) x → P x) → (x : X) → Contains xs x → P x
each_all P xs i le h = λ x j. h x (subst (λ l. Contains l x) (sym (take_all i xs le)) j)

-- ---- numbers so far, and one more

module _ (xs : List ℕ) (i : ℕ) (lt : i < length xs) where
  pub this : Contains (take (i + 1) xs) (get_or xs i 0)
  this = subst (λ l. Contains l (get_or xs i 0)) (sym (take_more xs i 0 lt)) (Contains-push (take i xs) (get_or xs i 0))

  pub before : (x : ℕ) → Contains (take i xs) x → Contains (take (i + 1) xs) x
  before x j = subst (λ l. Contains l x) (sym (take_more xs i 0 lt)) (Contains-append_left (take i xs) (get_or xs i 0 ∷ []) x j)

  pub cases : (x : ℕ) → Contains (take (i + 1) xs) x → Contains (take i xs) x ⊎ (get_or xs i 0 ≡ x)
  cases x j = Contains-push_cases (take i xs) (get_or xs i 0) x (subst (λ l. Contains l x) (take_more xs i 0 lt) j)
