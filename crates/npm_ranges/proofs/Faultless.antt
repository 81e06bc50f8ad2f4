-- Reading a version never answers want of memory by itself.
use Rattle.std.proofs.Common.{◌≡◌, ℕ, ◌+◌, ◌*◌, ◌-◌, ◌^◌, List, [], ◌∷◌, Ok, Err, Bool, true, false, refl}
use Rattle.std.specs.Prelude.{Result, if◌then◌else◌, nat_lt, nat_le, ◌==◌, ⊤}
use Rattle.std.specs.Char.{is_ascii_digit}
use Rattle.semver.specs.Parse.{◌>>=◌, fail, digits_end, digits_from, dot_of, end_error, identifier_len, identifier_of, is_bad_zero, is_leading_zero}
use Rattle.semver.specs.Parse.{is_letter, is_memory, numeric, part_end, scan, starts_zero, tail_build, tail_end, tail_pre, version_parts}
use Rattle.semver.specs.declared.error.Error.{Error}
use Rattle.semver.specs.declared.error.ErrorKind.TheVariants as kind
use Rattle.semver.specs.declared.error.Position.{Position}
use Rattle.semver.specs.declared.error.Position.TheVariants as place

-- an answer other than want of memory
abbrev NoWant : {A : Type 0} → Result A Error → Type 0
NoWant (Ok x) = ⊤
NoWant (Err e) = is_memory e.kind ≡ false

pub record IsPlain {A : Type 0} (answer : Result A Error) : Type 0 where
  pub plain : NoWant answer

plain_ok : {A : Type 0} (x : A) → IsPlain (Ok x)
plain_ok x = record { plain = tt }

plain_err : {A : Type 0} (e : Error) → is_memory e.kind ≡ false → IsPlain {A = A} (Err e)
plain_err e h = record { plain = h }

plain_bind : {A B : Type 0} (r : Result A Error) (f : A → Result B Error) → IsPlain r → ((x : A) → IsPlain (f x)) → IsPlain (r >>= f)
plain_bind (Ok x) f h k = k x
plain_bind (Err e) f h k = record { plain = h.plain }

plain_if : {A : Type 0} (b : Bool) (x y : Result A Error) → IsPlain x → IsPlain y → IsPlain (if b then x else y)
plain_if true x y h k = h
plain_if false x y h k = k

plain_end : (pos : Position) (xs : List ℕ) → IsPlain (end_error pos xs)
plain_end pos [] = plain_err _ refl
plain_end pos (b ∷ rest) = plain_err _ refl

plain_digits_end : (pos : Position) (value len : ℕ) (xs : List ℕ) → IsPlain (digits_end pos value len xs)
plain_digits_end pos value len xs = plain_if (nat_lt 0 len) _ _ (plain_ok _) (plain_end pos xs)

plain_digits : (pos : Position) (value len : ℕ) (xs : List ℕ) → IsPlain (digits_from pos value len xs)
unfolding digits_from
plain_digits pos value len [] = plain_digits_end pos value len []
plain_digits pos value len (b ∷ rest) =
    let more = digits_from pos (value * 10 + (b - 48)) (len + 1) rest in
    let fits = if nat_le (2 ^ 64) (value * 10 + (b - 48)) then fail (kind.Overflow pos) else more in
    let leads = if is_leading_zero value len then fail (kind.LeadingZero pos) else fits in
    plain_if (is_ascii_digit b) leads (digits_end pos value len (b ∷ rest)) (plain_if (is_leading_zero value len) (fail (kind.LeadingZero pos)) fits
    (plain_err (record { kind = kind.LeadingZero pos }) refl)
    (plain_if (nat_le (2 ^ 64) (value * 10 + (b - 48))) (fail (kind.Overflow pos)) more (plain_err (record { kind = kind.Overflow pos }) refl)
    (plain_digits pos (value * 10 + (b - 48)) (len + 1) rest))) (plain_digits_end pos value len (b ∷ rest))

plain_dot : (pos : Position) (xs : List ℕ) → IsPlain (dot_of pos xs)
plain_dot pos [] = plain_err _ refl
plain_dot pos (b ∷ rest) = plain_if _ _ _ (plain_ok _) (plain_err _ refl)

plain_part : (pos : Position) (acc seg : ℕ) (nondigit lead : Bool) → IsPlain (part_end pos acc seg nondigit lead)
plain_part pos acc seg nondigit lead = plain_if _ _ _ (plain_if _ _ _ (plain_ok _) (plain_err _ refl)) (plain_if _ _ _ (plain_err _ refl) (plain_ok _))

plain_scan : (pos : Position) (acc seg : ℕ) (nondigit lead : Bool) (xs : List ℕ) → IsPlain (scan pos acc seg nondigit lead xs)
unfolding scan
plain_scan pos acc seg nondigit lead [] = plain_part pos acc seg nondigit lead
plain_scan pos acc seg nondigit lead (b ∷ rest) =
    let more = scan pos (acc + seg + 1) 0 false false rest in
    let zeros = if is_bad_zero pos seg nondigit lead then fail (kind.LeadingZero pos) else more in
    let dot = if seg == 0 then fail (kind.EmptySegment pos) else zeros in
    let other = if b == 46 then dot else part_end pos acc seg nondigit lead in
    let digit = if is_ascii_digit b then scan pos acc (seg + 1) nondigit (starts_zero lead seg b) rest else other in
    plain_if (is_letter b) (scan pos acc (seg + 1) true lead rest) digit (plain_scan pos acc (seg + 1) true lead rest)
    (plain_if (is_ascii_digit b) (scan pos acc (seg + 1) nondigit (starts_zero lead seg b) rest) other (plain_scan pos acc (seg + 1) nondigit
    (starts_zero lead seg b) rest)
    (plain_if (b == 46) dot (part_end pos acc seg nondigit lead) (plain_if (seg == 0) (fail (kind.EmptySegment pos)) zeros (plain_err (record {
      kind =
          kind.EmptySegment pos;
    }) refl)
    (plain_if (is_bad_zero pos seg nondigit lead) (fail (kind.LeadingZero pos)) more (plain_err (record { kind = kind.LeadingZero pos }) refl)
    (plain_scan pos (acc + seg + 1) 0 false false rest)))
    (plain_part pos acc seg nondigit lead)))

plain_identifier : (pos : Position) (xs : List ℕ) → IsPlain (identifier_of pos xs)
plain_identifier pos xs = plain_bind (identifier_len pos xs) _ (plain_scan pos 0 0 false false xs) (λ n. plain_if _ _ _ (plain_err _ refl) (plain_ok _))

plain_tail_end : (pos : Position) (a b c : ℕ) (pre build xs : List ℕ) → IsPlain (tail_end pos a b c pre build xs)
plain_tail_end pos a b c pre build [] = plain_ok _
plain_tail_end pos a b c pre build (x ∷ rest) = plain_err _ refl

plain_tail_build : (pos : Position) (a b c : ℕ) (pre xs : List ℕ) → IsPlain (tail_build pos a b c pre xs)
plain_tail_build pos a b c pre [] = plain_ok _
plain_tail_build pos a b c pre (x ∷ rest) =
    plain_if _ _ _ (plain_bind (identifier_of place.Build rest) _ (plain_identifier place.Build rest) (λ y. plain_tail_end place.Build a b c pre y.0 y.1))
    (plain_err _ refl)

plain_tail_pre : (a b c : ℕ) (xs : List ℕ) → IsPlain (tail_pre a b c xs)
plain_tail_pre a b c [] = plain_ok _
plain_tail_pre a b c (x ∷ rest) =
    plain_if _ _ _ (plain_bind (identifier_of place.Pre rest) _ (plain_identifier place.Pre rest) (λ y. plain_tail_build place.Pre a b c y.0 y.1))
    (plain_tail_build place.Patch a b c [] (x ∷ rest))

plain_patch : (a b : ℕ) (xs : List ℕ) → IsPlain (numeric place.Patch xs >>= λ z. tail_pre a b z.0 z.1)
plain_patch a b xs = plain_bind (numeric place.Patch xs) _ (plain_digits place.Patch 0 0 xs) (λ z. plain_tail_pre a b z.0 z.1)

plain_minor : (a : ℕ) (xs : List ℕ) → IsPlain (numeric place.Minor xs >>= λ y. dot_of place.Minor y.1 >>= λ u. numeric place.Patch u >>= λ z. tail_pre a y.0
    z.0 z.1)
plain_minor a xs = plain_bind (numeric place.Minor xs) _ (plain_digits place.Minor 0 0 xs) (λ y.
    plain_bind (dot_of place.Minor y.1) _ (plain_dot place.Minor y.1) (λ u. plain_patch a y.0 u))

pub plain_version : (text : List ℕ) → IsPlain (version_parts text)
plain_version text =
    plain_if _ _ _ (plain_err _ refl) (plain_bind (numeric place.Major text) _ (plain_digits place.Major 0 0 text) (λ x.
    plain_bind (dot_of place.Major x.1) _ (plain_dot place.Major x.1) (λ t. plain_minor x.0 t)))
