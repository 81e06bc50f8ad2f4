-- Hexadecimal digits make a label.
use Rattle.std.proofs.Common.{◌≡◌, ℕ, zero, suc, ◌/◌, ◌%◌, ◌<◌, Bool, true, ◌&&◌, List, [], ◌∷◌, length, slice_index, inl, inr, refl, arith}
use Rattle.std.specs.List.{AllPass}
use Rattle.std.proofs.lemmas.Bool.{and_parts, cases_lt}
use Rattle.std.proofs.lemmas.List.Elements.{All-cons, All-nil}
use Rattle.hex.specs.Hex.{IsBytes, encode_with, encode_lower, lower_digits}
use Rattle.hex.proofs.HexLemmas.{length-encode_with}
use Rattle.nuc_base.specs.Names.{IsLabel, is_label_byte}

-- the first n digits are visible characters
abbrev are_visible : ℕ → Bool
are_visible zero = true
are_visible (suc n) = is_label_byte (slice_index lower_digits n) && are_visible n

visible_at : (n k : ℕ) → are_visible n ≡ true → k < n → is_label_byte (slice_index lower_digits k) ≡ true
visible_at zero k h lt = absurd (omega arith)
visible_at (suc n) k h lt =
    let parts = and_parts (is_label_byte (slice_index lower_digits n)) (are_visible n) h in
    elim (cases_lt k n) [
      | inl below ↦ visible_at n k parts.1 below
      | inr top ↦
          let e : k ≡ n = omega arith in
          rw e parts.0
    ]

encoding_visible : (xs : List ℕ) → IsBytes xs → AllPass is_label_byte (encode_with lower_digits xs)
unfolding encode_with
encoding_visible [] h = All-nil (λ x. is_label_byte x ≡ true)
encoding_visible (b ∷ rest) h =
    let fits : b < 256 = h 0 in
    let high : b / 16 < 16 = omega arith in
    let low : b % 16 < 16 = omega arith in
    let passes : ℕ → Type 0 = λ x. is_label_byte x ≡ true in
    let first = slice_index lower_digits (b / 16) in
    let second = slice_index lower_digits (b % 16) in
    let more = encode_with lower_digits rest in
    All-cons passes first (second ∷ more) (visible_at 16 (b / 16) refl high)
    (All-cons passes second more (visible_at 16 (b % 16) refl low) (encoding_visible rest (λ k. h (suc k))))

pub digits_are_label : (xs : List ℕ) → length xs ≡ 32 → IsBytes xs → IsLabel (encode_lower xs)
digits_are_label xs long h =
    let twice = length-encode_with lower_digits xs in
    record { not_empty = omega (arith, twice, long); short = omega (arith, twice, long); each = encoding_visible xs h }
