-- The grammar of ranges: from a text to its comparators as they are written. A range is sets between `||`; a set is words between blanks.
use Rattle.std.specs.Prelude.{ℕ, ◌+◌, ◌*◌, ◌-◌, ◌^◌, ◌==◌, ◌&&◌, ◌||◌, not, nat_lt, nat_le, nat_eq, Bool, false, List, [], ◌∷◌, length, Option, Some, None}
use Rattle.std.specs.Prelude.{Result, Ok, Err, if◌then◌else◌}
use Rattle.std.specs.List.{filter, list_all, onto_first, slice_split}
use Rattle.std.specs.Option.{option_map, unwrap_or}
use Rattle.std.specs.Char.{is_ascii_digit}
use Rattle.std.specs.Cmp.Lexicographic.{pointwise}
use Rattle.semver.specs.Grammar.{has_leading_zero}
use Rattle.semver.specs.Order.{parts}
use Rattle.semver.specs.Parse.{Parts, version_parts}
use Rattle.semver.specs.declared.error.Error.{Error}
use Rattle.npm_ranges.specs.declared.comparator.Sign.{Sign}
use Rattle.npm_ranges.specs.declared.comparator.Sign.TheVariants as sign

-- what a partial spells: the numbers before the first free or missing part, and the pre-release
pub record Spelled : Type 0 where
  pub numbers : List ℕ
  pub pre : List ℕ

-- a comparator as it is written; no sign is as `=`
pub record Written : Type 0 where
  pub sign : Sign
  pub partial : Spelled

-- ---- all or none

abbrev pub joined : {A : Type 0} → Option A → Option (List A) → Option (List A)
joined (Some x) (Some xs) = Some (x ∷ xs)
joined (Some x) None = None
joined None xs = None

-- what a reader gives of each, where it reads them all
abbrev pub each_of : {A B : Type 0} → (A → Option B) → List A → Option (List B)
each_of f [] = Some []
each_of f (x ∷ xs) = joined (f x) (each_of f xs)

-- ---- a part: `x`, `X` or `*`, or a decimal number below 2 ^ 64 without leading zeros

abbrev pub is_free : List ℕ → Bool
is_free [] = false
is_free (b ∷ rest) = (b == 120 || b == 88 || b == 42) && length rest == 0

abbrev pub is_decimal : List ℕ → Bool
is_decimal text = nat_lt 0 (length text) && list_all is_ascii_digit text && not (has_leading_zero text)

-- the value of digits behind a number
abbrev pub value_from : ℕ → List ℕ → ℕ
value_from value [] = value
value_from value (d ∷ ds) = value_from (value * 10 + (d - 48)) ds

unfoldable pub number_of : List ℕ → Option ℕ
number_of text = if is_decimal text && nat_lt (value_from 0 text) (2 ^ 64) then Some (value_from 0 text) else None

-- a free part has no number
abbrev pub part_of : List ℕ → Option (Option ℕ)
part_of text = if is_free text then Some None else option_map (λ n. Some n) (number_of text)

-- ---- a partial: optional `v`, and a version or one to three parts

-- the numbers before the first free part
abbrev pub before_free : List (Option ℕ) → List ℕ
before_free [] = []
before_free (None ∷ parts) = []
before_free (Some n ∷ parts) = n ∷ before_free parts

abbrev pub free_partial : List (Option ℕ) → Spelled
free_partial parts = record { numbers = before_free parts; pre = [] }

-- one to three parts
unfoldable pub parts_partial : List (List ℕ) → Option Spelled
parts_partial parts = if nat_le (length parts) 3 then option_map free_partial (each_of part_of parts) else None

-- three numbers, with or without a pre-release and build text, are a version; else the parts between dots
abbrev pub partial_from : Result Parts Error → Option Spelled → Option Spelled
partial_from (Ok p) other = Some (record { numbers = p.0 ∷ p.1 ∷ p.2 ∷ []; pre = p.3 })
partial_from (Err e) other = other

-- without the `v` at the beginning
abbrev pub bare : List ℕ → List ℕ
bare [] = []
bare (b ∷ rest) = if b == 118 then rest else b ∷ rest

unfoldable pub partial_of : List ℕ → Option Spelled
partial_of word = partial_from (version_parts (bare word)) (parts_partial (parts (bare word)))

-- ---- a comparator: a partial, or a sign, optional blanks and a partial

abbrev pub or_equal : Sign → Sign → List ℕ → Option Sign × List ℕ
or_equal one two [] = (Some one, [])
or_equal one two (b ∷ rest) = if b == 61 then (Some two, rest) else (Some one, b ∷ rest)

-- the sign at the beginning of a word, and what is left of it
unfoldable pub sign_of : List ℕ → Option Sign × List ℕ
sign_of [] = (None, [])
sign_of (b ∷ rest) =
    if b == 61 then (Some sign.Equal, rest)
    else if b == 60 then or_equal sign.Less sign.LessOrEqual rest
    else if b == 62 then or_equal sign.Greater sign.GreaterOrEqual rest
    else if b == 126 then (Some sign.Tilde, rest)
    else if b == 94 then (Some sign.Caret, rest)
    else (None, b ∷ rest)

abbrev pub with_sign : Sign → Option Spelled → Option Written
with_sign s partial = option_map (λ p. record { sign = s; partial = p }) partial

-- the comparator of one word
abbrev pub comparator_of : List ℕ → Option Written
comparator_of word = with_sign (unwrap_or (sign_of word).0 sign.Equal) (partial_of (sign_of word).1)

abbrev pub alone : Option Sign → List ℕ → Option Sign
alone None rest = None
alone (Some s) [] = Some s
alone (Some s) (b ∷ rest) = None

-- the sign of a word that is a sign alone
abbrev pub lone_sign : List ℕ → Option Sign
lone_sign word = alone (sign_of word).0 (sign_of word).1

-- ---- a set: nothing, or a hyphen range, or comparators with blanks between

-- a sign alone takes the next word as its partial; any other word is a comparator
abbrev pub by_sign : Option Sign → List ℕ → List ℕ → Option (List Written) → Option (List Written) → Option (List Written)
by_sign (Some s) word next behind_both behind_one = joined (with_sign s (partial_of next)) behind_both
by_sign None word next behind_both behind_one = joined (comparator_of word) behind_one

abbrev pub comparators_of : List (List ℕ) → Option (List Written)
comparators_of [] = Some []
comparators_of (word ∷ []) = joined (comparator_of word) (Some [])
comparators_of (word ∷ next ∷ words) = by_sign (lone_sign word) word next (comparators_of words) (comparators_of (next ∷ words))

-- the ends of a hyphen range
abbrev pub hyphen_ends : List (List ℕ) → Option (List ℕ × List ℕ)
hyphen_ends [] = None
hyphen_ends (first ∷ []) = None
hyphen_ends (first ∷ middle ∷ []) = None
hyphen_ends (first ∷ middle ∷ last ∷ []) = if pointwise nat_eq middle (45 ∷ []) then Some (first, last) else None
hyphen_ends (first ∷ middle ∷ last ∷ next ∷ words) = None

-- a hyphen range is `>=` its first and `<=` its second partial
abbrev pub hyphen_range : List ℕ → List ℕ → Option (List Written)
hyphen_range first last = joined (with_sign sign.GreaterOrEqual (partial_of first)) (joined (with_sign sign.LessOrEqual (partial_of last)) (Some []))

abbrev pub hyphen_or : Option (List ℕ × List ℕ) → Option (List Written) → Option (List Written)
hyphen_or (Some ends) other = hyphen_range ends.0 ends.1
hyphen_or None other = other

-- the empty set is `*`
abbrev pub any_version : Written
any_version = record { sign = sign.Equal; partial = record { numbers = []; pre = [] } }

abbrev pub set_from : List (List ℕ) → Option (List Written)
set_from [] = Some (any_version ∷ [])
set_from (word ∷ words) = hyphen_or (hyphen_ends (word ∷ words)) (comparators_of (word ∷ words))

abbrev pub is_blank : ℕ → Bool
is_blank b = b == 32 || b == 9

-- what stands between blanks
unfoldable pub words_of : List ℕ → List (List ℕ)
words_of text = filter (λ word. nat_lt 0 (length word)) (slice_split is_blank text)

abbrev pub set_of : List ℕ → Option (List Written)
set_of text = set_from (words_of text)

-- ---- a range: one set, or several joined by `||`

unfoldable pub sets_of : List ℕ → List (List ℕ)
sets_of [] = [] ∷ []
sets_of (x ∷ []) = (x ∷ []) ∷ []
sets_of (x ∷ y ∷ rest) = if x == 124 && y == 124 then [] ∷ sets_of rest else onto_first x (sets_of (y ∷ rest))

-- the sets of comparators that a text is written as, where the grammar reads it
unfoldable pub written : List ℕ → Option (List (List Written))
written text = each_of set_of (sets_of text)
