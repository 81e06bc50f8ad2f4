-- Numbers in lines.
use Rattle.std.proofs.Common.{◌≡◌, ◌∙◌, ℕ, zero, suc, ◌+◌, ◌<◌, ◌^◌, not, true, true≢false, List, [], ◌∷◌, ◌++◌, length, get_or, take, drop, refl, sym, ap}
use Rattle.std.proofs.Common.{arith, Result, Ok, Err, Some, None}
use Rattle.std.specs.Prelude.{◌==◌, position, MatchOption, Option, codes}
use Rattle.std.specs.Fmt.{decimal}
use Rattle.std.specs.Str.{bytes_eq}
use Rattle.std.specs.Str.Parse.{IsNumeral, digits_value, without_leading_plus}
use Rattle.std.proofs.lemmas.Fmt.{decimal_injective, decimal_is_IsNumeral, parse-decimal}
use Rattle.std.proofs.lemmas.List.{append_cancel_left}
use Rattle.std.proofs.lemmas.List.Quantifiers.{position-Some}
use Rattle.std.proofs.lemmas.Slice.Eq.{bytes_eq-Decides}
use Rattle.std.proofs.lemmas.Bool.Decides.{Decides-eqb}
use Rattle.fleet.specs.Commands.{IsBeginning}
use Rattle.fleet.proofs.Lines.{blank_behind}

pub unread : (bs : List ℕ) → ¬ (IsNumeral 10 (without_leading_plus bs) × (digits_value 10 (without_leading_plus bs) < 2 ^ 32)) → (n : ℕ) → n < 2 ^ 32 →
    bs ≡ decimal n → ⊥
unread bs h n small is =
    let none : Result ℕ (Unit {0}) = Err tt in
    let bad : none ≡ Ok n = parse-decimal 32 n bs none small (omega arith) is h in cc

pub read_as : (bs : List ℕ) (m : ℕ) → (IsNumeral 10 (without_leading_plus bs) × (digits_value 10 (without_leading_plus bs) < 2 ^ 32)) ×
    (m ≡ digits_value 10 (without_leading_plus bs))
    → (n : ℕ) → n < 2 ^ 32 → bs ≡ decimal n → m ≡ n
read_as bs m h n small is =
    let one : Result ℕ (Unit {0}) = Ok m in
    let same : one ≡ Ok n = parse-decimal 32 n bs one small (omega arith) is h in cc

pub differ : (xs ys : List ℕ) → not (bytes_eq xs ys) ≡ true → xs ≡ ys → ⊥
differ xs ys h e = true≢false (sym h ∙ ap not ((bytes_eq-Decides xs ys).1 e))

-- the number behind a word
pub number_behind : (line word rest : List ℕ) (r : Option ℕ) → line ≡ word ++ rest
    → MatchOption r ((n : ℕ) → n < 2 ^ 32 → rest ≡ decimal n → ⊥) (λ n. (rest ≡ decimal n) × (n < 2 ^ 32))
    → MatchOption r ((n : ℕ) → n < 2 ^ 32 → line ≡ word ++ decimal n → ⊥) (λ n. (line ≡ word ++ decimal n) × (n < 2 ^ 32))
number_behind line word rest None is none = λ n small e. none n small (append_cancel_left word rest (decimal n) (sym is ∙ e))
number_behind line word rest (Some n) is some = (is ∙ ap (λ (t : List ℕ). word ++ t) some.0, some.1)

-- the first blank of a number, a blank and more
at_number : (rest document : List ℕ) (n : ℕ) → n < 2 ^ 32 → rest ≡ decimal n ++ 32 ∷ document → position (λ b. b == 32) rest ≡ Some (length (decimal n))
at_number rest document n small e = ap (position (λ b. b == 32)) e ∙ blank_behind (decimal n) document (decimal_is_IsNumeral n (omega arith)).0.1

prefix_of : (xs ys : List ℕ) → take (length xs) (xs ++ ys) ≡ xs
prefix_of [] ys = refl
prefix_of (x ∷ xs) ys = ap (λ l. x ∷ l) (prefix_of xs ys)

pub no_blank : (line rest : List ℕ) → line ≡ codes "send " ++ rest → position (λ b. b == 32) rest ≡ None
    → (n : ℕ) (document : List ℕ) → n < 2 ^ 32 → line ≡ codes "send " ++ decimal n ++ 32 ∷ document → ⊥
no_blank line rest is none n document small e =
    let at = at_number rest document n small (append_cancel_left (codes "send ") rest (decimal n ++ 32 ∷ document) (sym is ∙ e)) in cc

pub no_number : (line rest : List ℕ) (blank : ℕ) → line ≡ codes "send " ++ rest → position (λ b. b == 32) rest ≡ Some blank →
    ((n : ℕ) → n < 2 ^ 32 → take blank rest ≡ decimal n → ⊥)
    → (n : ℕ) (document : List ℕ) → n < 2 ^ 32 → line ≡ codes "send " ++ decimal n ++ 32 ∷ document → ⊥
no_number line rest blank is some none n document small e =
    let split : rest ≡ decimal n ++ 32 ∷ document = append_cancel_left (codes "send ") rest (decimal n ++ 32 ∷ document) (sym is ∙ e) in
    let at : position (λ b. b == 32) rest ≡ Some (length (decimal n)) = at_number rest document n small split in
    let same : blank ≡ length (decimal n) = cc in
    none n small (ap (λ (k : ℕ). take k rest) same ∙ ap (λ (t : List ℕ). take (length (decimal n)) t) split ∙ prefix_of (decimal n) (32 ∷ document))

parted : (xs : List ℕ) (i : ℕ) → i < length xs → get_or xs i 0 ≡ 32 → xs ≡ take i xs ++ 32 ∷ drop (suc i) xs
parted [] i less is = absurd (omega arith)
parted (x ∷ xs) zero less is = let same : x ≡ 32 = is in ap (λ (y : ℕ). y ∷ xs) same
parted (x ∷ xs) (suc i) less is = ap (λ l. x ∷ l) (parted xs i (omega arith) is)

pub is_sending : (line rest document : List ℕ) (blank device : ℕ) → line ≡ codes "send " ++ rest → position (λ b. b == 32) rest ≡ Some blank →
    (take blank rest ≡ decimal device) × (device < 2 ^ 32)
    → document ≡ drop (blank + 1) rest → (line ≡ codes "send " ++ decimal device ++ 32 ∷ document) × (device < 2 ^ 32)
is_sending line rest document blank device is some number behind =
    let at = position-Some (λ b. b == 32) rest blank 0 some in
    let here : get_or rest blank 0 ≡ 32 = omega (arith, (Decides-eqb (get_or rest blank 0) 32).0 at.1) in
    let next : suc blank ≡ blank + 1 = omega arith in
    let whole : rest ≡ decimal device ++ 32 ∷ document = parted rest blank at.0 here ∙ rw (number.0, next, ← behind) refl in
    (is ∙ ap (λ (t : List ℕ). codes "send " ++ t) whole, number.1)

-- two numbers of devices in one line
pub same_devices : (line : List ℕ) (n devices : ℕ) → (line ≡ codes "devices " ++ decimal n) × (n < 2 ^ 32) →
    IsBeginning (record { text = line; is_ended = true }) devices → n ≡ devices
same_devices line n devices h begins =
    decimal_injective n devices (omega (arith, h.1)) (omega (arith, begins.few))
    (append_cancel_left (codes "devices ") (decimal n) (decimal devices) (sym h.0 ∙ begins.text))
