-- What happens to a list of children, by their numbers.
use Rattle.std.proofs.Common.{◌≡◌, ◌≢◌, ◌==◌, ◌<◌, ◌+◌, ◌∙◌, ◌∷◌, [], ℕ, zero, suc, Bool, true, false, not, cond, List, All, Contains, Option, Some, None}
use Rattle.std.proofs.Common.{is_some, IfNone, refl, sym, ap, subst, arith, length, map, filter, get_or, set, eq-eqb}
use Rattle.std.proofs.Math.Seq.{map-set_same}
use Rattle.std.proofs.lemmas.Bool.{false≢true}
use Rattle.std.proofs.lemmas.List.{get_or-map, length-map}
use Rattle.std.proofs.lemmas.List.Elements.{All-cons, All-filter, Contains-get_or}
use Rattle.step_runner.specs.Entries.{without}

-- one is replaced by one with its number
pub numbers_set : {X : Type 0} (number : X → ℕ) (xs : List X) (i : ℕ) (v d : X) → number v ≡ number (get_or xs i d) → map number (set xs i v) ≡ map number xs
numbers_set number xs i v d same = map-set_same number xs i v d same

-- one that is left out is replaced by another one that is
filter_set_out : {X : Type 0} (p : X → Bool) (xs : List X) (i : ℕ) (v d : X) → p v ≡ false → p (get_or xs i d) ≡ false → filter p (set xs i v) ≡ filter p xs
filter_set_out p [] i v d new old = refl
filter_set_out p (x ∷ xs) zero v d new old = rw new (rw old refl)
filter_set_out p (x ∷ xs) (suc i) v d new old = ap (λ ys. cond (p x) (x ∷ ys) ys) (filter_set_out p xs i v d new old)

-- the one with this number is replaced by one with it: the others stay
pub others_set : {X : Type 0} (number : X → ℕ) (n : ℕ) (xs : List X) (i : ℕ) (v d : X) → number v ≡ number (get_or xs i d) → number (get_or xs i d) ≡ n →
    filter (λ c. not (number c == n)) (set xs i v) ≡ filter (λ c. not (number c == n)) xs
others_set number n xs i v d same is = filter_set_out (λ c. not (number c == n)) xs i v d (ap not (eq-eqb (number v) n (same ∙ is)))
    (ap not (eq-eqb (number (get_or xs i d)) n is))

-- the numbers of those that are left
pub map_without : {X : Type 0} (number : X → ℕ) (n : ℕ) (xs : List X) → map number (filter (λ c. not (number c == n)) xs) ≡ without n (map number xs)
map_without number n [] = refl
map_without number n (x ∷ xs) =
    elim (number x == n) as (λ b. map number (cond (not b) (x ∷ filter (λ c. not (number c == n)) xs) (filter (λ c. not (number c == n)) xs)) ≡ cond (not b)
    (number x ∷ without n (map number xs)) (without n (map number xs))) [
      | true ↦ map_without number n xs
      | false ↦ ap (λ ys. number x ∷ ys) (map_without number n xs)
    ]

-- they are below what all were below
pub numbers_left : (n next : ℕ) (xs : List ℕ) → All (λ c. c < next) xs → All (λ c. c < next) (without n xs)
numbers_left n next xs all = All-filter (λ x. not (x == n)) (λ c. c < next) xs all

-- the one with this number may be another one with it, and any other stays: so do those that do not have it
pub kept_set : {X : Type 0} (number : X → ℕ) (n : ℕ) (xs : List X) (i : ℕ) (v d : X) → number v ≡ number (get_or xs i d) →
    (number (get_or xs i d) ≢ n → v ≡ get_or xs i d) → filter (λ c. not (number c == n)) (set xs i v) ≡ filter (λ c. not (number c == n)) xs
kept_set number n [] i v d same other = refl
kept_set {X} number n (x ∷ xs) zero v d same other = by (number x == n) refl
  where
    by : (b : Bool) → (number x == n) ≡ b → filter (λ c. not (number c == n)) (v ∷ xs) ≡ filter (λ c. not (number c == n)) (x ∷ xs)
    by true e = filter_set_out (λ c. not (number c == n)) (x ∷ xs) zero v d (ap not (ap (λ m. m == n) same ∙ e)) (ap not e)
    by false e = ap (λ (y : X). filter (λ c. not (number c == n)) (y ∷ xs)) (other (λ is. absurd (false≢true (sym e ∙ eq-eqb (number x) n is))))
kept_set number n (x ∷ xs) (suc i) v d same other = ap (λ ys. cond (not (number x == n)) (x ∷ ys) ys) (kept_set number n xs i v d same other)

-- they are the same
pub numbers_kept : {X : Type 0} (number : X → ℕ) (n : ℕ) (xs ys : List X) → ys ≡ xs → All (λ (c : ℕ). c < n) (map number xs) →
    All (λ (c : ℕ). c < n) (map number ys)
numbers_kept number n xs ys same all = subst (λ zs. All (λ (c : ℕ). c < n) (map number zs)) (sym same) all

-- one more, with the next number
pub numbers_more : {X : Type 0} (number : X → ℕ) (n : ℕ) (x : X) (xs zs ys : List X) → ys ≡ x ∷ zs → zs ≡ xs → number x ≡ n →
    All (λ (c : ℕ). c < n) (map number xs) → All (λ (c : ℕ). c < n + 1) (map number ys)
numbers_more number n x xs zs ys more same is all =
    subst (λ l. All (λ (c : ℕ). c < n + 1) (map number l)) (sym (more ∙ ap (λ l. x ∷ l) same))
    (All-cons (λ (c : ℕ). c < n + 1) (number x) (map number xs) (subst (λ m. m < n + 1) (sym is) (omega arith)) (λ k d l. let a = all k d l in omega arith))

-- the number of one of them
pub number_is_there : {X : Type 0} (number : X → ℕ) (xs : List X) (i : ℕ) (d : X) → i < length xs → Contains (map number xs) (number (get_or xs i d))
number_is_there number xs i d l =
    subst (λ m. Contains (map number xs) m) (get_or-map number xs i d (number d) l)
    (Contains-get_or (map number xs) i (number d) (subst (λ n. i < n) (sym (length-map xs number)) l))

-- of this one
pub its_number : {X : Type 0} (number : X → ℕ) (xs : List X) (i : ℕ) (x : X) → i < length xs → x ≡ get_or xs i x → Contains (map number xs) (number x)
its_number number xs i x l is = subst (λ m. Contains (map number xs) m) (sym (ap number is)) (number_is_there number xs i x l)

-- ---- whether there is one

pub not_none : {X : Type 0} (r : Option X) (P : Type 0) → true ≡ is_some r → IfNone r P
not_none None P is = absurd (false≢true (sym is))
not_none (Some x) P is = tt

pub gives_none : {X : Type 0} (r : Option X) (P : Type 0) → false ≡ is_some r → IfNone r P → P
gives_none None P is p = p
gives_none (Some x) P is p = absurd (false≢true is)
