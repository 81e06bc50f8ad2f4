-- Where a byte stands first, and how line feeds and blanks part bytes.
use Rattle.std.proofs.Common.{◌≡◌, ◌∙◌, ℕ, zero, suc, ◌+◌, ◌-◌, ◌<◌, ◌≤◌, List, [], ◌∷◌, ◌++◌, length, take, drop, get_or, Some, None, Bool, true, false}
use Rattle.std.proofs.Common.{true≢false, inl, inr, refl, ap, arith}
use Rattle.std.specs.Prelude.{◌==◌, position}
use Rattle.std.specs.List.{position_or_len}
use Rattle.std.specs.Str.Parse.{AllDigits}
use Rattle.std.proofs.lemmas.Bool.{cases_lt, lt-ltb, ne_eqb}
use Rattle.std.proofs.lemmas.Bool.Decides.{Decides-eqb}
use Rattle.std.proofs.lemmas.List.{get_or_append_left, length-append, length-drop, take_all}
use Rattle.std.proofs.lemmas.List.Quantifiers.{position-Some}
use Rattle.std.proofs.Math.Seq.{get_or-append_seam}
use Rattle.std.proofs.lemmas.List.Sums.{fails_before_first, position_or_len_is}
use Rattle.std.proofs.lemmas.Str.Parse.{digit_at}
use Rattle.fleet.specs.Commands.{Line, beginning, lines_of, IsUnended}

-- a byte that stands nowhere
pub nowhere : (p : ℕ → Bool) (xs : List ℕ) → position p xs ≡ None → (k : ℕ) → k < length xs → p (get_or xs k 0) ≡ false
nowhere p xs none k less = fails_before_first p xs k 0 (let past = end none in omega arith)
  where
    end : position p xs ≡ None → length xs ≤ position_or_len p xs
    end none = elim (cases_lt (position_or_len p xs) (length xs)) [
      | inl below ↦ cc (rw (lt-ltb (position_or_len p xs) (length xs) below) at none)
      | inr past ↦ past
    ]

-- the first line of bytes where the first line feed stands at n
pub ended : (bytes : List ℕ) (n : ℕ) → n < length bytes → (get_or bytes n 0 == 10) ≡ true → ((k : ℕ) → k < n → (get_or bytes k 0 == 10) ≡ false)
    → lines_of bytes ≡ record { text = take n bytes; is_ended = true } ∷ lines_of (drop (suc n) bytes)
ended [] n below here before = absurd (omega arith)
ended (b ∷ bs) zero below here before = let feed : (b == 10) ≡ true = here in rw feed refl
ended (b ∷ bs) (suc n) below here before =
    let other : (b == 10) ≡ false = before 0 (omega arith) in
    rw other (ap (beginning b) (ended bs n (omega arith) here (λ k less. before (suc k) (omega arith))))

pub behind_is : (xs : List ℕ) (n : ℕ) → take (length xs - n) (drop n xs) ≡ drop n xs
behind_is xs n = let size = length-drop n xs in take_all (length xs - n) (drop n xs) (omega arith)

-- the first line, and what stands behind its line feed
pub first_ended : (bytes : List ℕ) (n : ℕ) → position (λ b. b == 10) bytes ≡ Some n
    → (lines_of bytes ≡ record { text = take n bytes; is_ended = true } ∷ lines_of (take (length bytes - (n + 1)) (drop (n + 1) bytes)))
    × (length (take (length bytes - (n + 1)) (drop (n + 1) bytes)) < length bytes)
first_ended bytes n is =
    let at = position-Some (λ b. b == 10) bytes n 0 is in
    let next : suc n ≡ n + 1 = omega arith in
    let size = length-drop (n + 1) bytes in
    let first : Line = record { text = take n bytes; is_ended = true } in
    rw (behind_is bytes (n + 1)) (
      ended bytes n at.0 at.1 at.2 ∙ ap (λ (k : ℕ). first ∷ lines_of (drop k bytes)) next,
      omega (arith, at.0),
    )

-- bytes without a line feed
pub unended : (bytes : List ℕ) → ((k : ℕ) → k < length bytes → (get_or bytes k 0 == 10) ≡ false) → IsUnended bytes (lines_of bytes)
unended [] none = refl
unended (b ∷ []) none = let other : (b == 10) ≡ false = none 0 (omega arith) in rw other refl
unended (b ∷ c ∷ bs) none =
    let other : (b == 10) ≡ false = none 0 (omega arith) in
    let rest : lines_of (c ∷ bs) ≡ record { text = c ∷ bs; is_ended = false } ∷ [] = unended (c ∷ bs) (λ k less. none (suc k) (omega arith)) in
    rw other (ap (beginning b) rest)

-- a blank behind digits is the first one
pub blank_behind : (ds rest : List ℕ) → AllDigits 10 ds → position (λ b. b == 32) (ds ++ 32 ∷ rest) ≡ Some (length ds)
blank_behind ds rest digits =
    let whole : List ℕ = ds ++ 32 ∷ rest in
    let size : length whole ≡ length ds + length (32 ∷ rest) = length-append ds (32 ∷ rest) in
    let within : length ds < length whole = omega arith in
    let at : position_or_len (λ b. b == 32) whole ≡ length ds =
    position_or_len_is (λ b. b == 32) whole (length ds) 0 (omega arith)
    (λ k less. let digit = digit_at ds k digits less in let same = get_or_append_left ds (32 ∷ rest) 0 k less in
    ne_eqb (get_or whole k 0) 32 (λ e. omega arith))
    (λ less. ap (λ x. x == 32) (get_or-append_seam ds 32 rest 0)) in
    rw (at, lt-ltb (length ds) (length whole) within) refl

-- ---- no bytes, or some

is_zero : (n : ℕ) → (n == 0) ≡ true → n ≡ 0
is_zero zero h = refl
is_zero (suc n) h = (Decides-eqb (suc n) 0).0 h

pub no_lines : (bytes : List ℕ) → (length bytes == 0) ≡ true → lines_of bytes ≡ []
no_lines [] h = refl
no_lines (b ∷ bs) h = let none = is_zero (length (b ∷ bs)) h in absurd (omega arith)

pub some_bytes : (n : ℕ) → (n == 0) ≡ false → 0 < n
some_bytes zero h = absurd (true≢false h)
some_bytes (suc n) h = omega arith
