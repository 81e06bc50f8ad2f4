-- A compact text has at least the least size.
use Rattle.std.proofs.Common.{ℕ, cond, ◌/◌, ◌%◌, ◌+◌, ◌≤◌, List, [], ◌∷◌, ◌++◌, length, true, false, length-append, arith}
use Rattle.std.specs.Prelude.{nat_lt}
use Rattle.std.specs.Char.{digit_char}
use Rattle.std.proofs.lemmas.Bool.{cond_both}
use Rattle.json.specs.Print.{escape, escape_byte, escape_letter, quoted}
use Rattle.serde_json.specs.Data.{Data, null, boolean, number, string, array, object, Items, no_items, item, Members, no_members, member}
use Rattle.serde_json.specs.Written.{compact_text, items_text, members_text}
use Rattle.interpolation.specs.Sizes.{least_size, items_least, members_least}
use Rattle.interpolation.specs.Values.{shown}

byte_some : (x : ℕ) → 1 ≤ length (escape_byte x)
unfolding escape_byte
byte_some x =
    let other = cond (nat_lt x 32) (92 ∷ 117 ∷ 48 ∷ 48 ∷ digit_char (x / 16) ∷ digit_char (x % 16) ∷ []) (x ∷ []) in
    cond_both (nat_lt 0 (escape_letter x)) (92 ∷ escape_letter x ∷ []) other (λ l. 1 ≤ length l) (λ e. omega arith)
    (λ e. cond_both (nat_lt x 32) (92 ∷ 117 ∷ 48 ∷ 48 ∷ digit_char (x / 16) ∷ digit_char (x % 16) ∷ []) (x
    ∷ []) (λ l. 1 ≤ length l) (λ f. omega arith) (λ f. omega arith))

escape_grows : (s : List ℕ) → length s ≤ length (escape s)
escape_grows [] = omega arith
escape_grows (x ∷ s) = omega (arith, length-append (escape_byte x) (escape s), byte_some x, escape_grows s)

quoted_grows : (s : List ℕ) → length s ≤ length (quoted s)
quoted_grows s = omega (arith, length-append (escape s) (34 ∷ []), escape_grows s)

mutual
  compact_least : (d : Data) → least_size d ≤ length (compact_text d)
  compact_least null = omega arith
  compact_least (boolean b) = omega arith
  compact_least (number n) = omega arith
  compact_least (string s) = quoted_grows s
  compact_least (array ds) = omega (arith, items_first ds)
  compact_least (object ms) = omega (arith, members_first ms)

  items_first : (ds : Items) → items_least ds ≤ length (items_text false ds)
  items_first no_items = omega arith
  items_first (item d ds) = omega (arith, length-append (compact_text d) (items_text true ds), compact_least d, items_later ds)

  items_later : (ds : Items) → items_least ds + 1 ≤ length (items_text true ds)
  items_later no_items = omega arith
  items_later (item d ds) = omega (arith, length-append (compact_text d) (items_text true ds), compact_least d, items_later ds)

  members_first : (ms : Members) → members_least ms ≤ length (members_text false ms)
  members_first no_members = omega arith
  members_first (member k d ms) =
      omega (
        arith,
        length-append (quoted k) (58 ∷ (compact_text d ++ members_text true ms)),
        length-append (compact_text d) (members_text true ms),
        quoted_grows k,
        compact_least d,
        members_later ms,
      )

  members_later : (ms : Members) → members_least ms + 1 ≤ length (members_text true ms)
  members_later no_members = omega arith
  members_later (member k d ms) =
      omega (
        arith,
        length-append (quoted k) (58 ∷ (compact_text d ++ members_text true ms)),
        length-append (compact_text d) (members_text true ms),
        quoted_grows k,
        compact_least d,
        members_later ms,
      )

pub shown_least : (d : Data) → least_size d ≤ length (shown d)
shown_least null = compact_least null
shown_least (boolean b) = compact_least (boolean b)
shown_least (number n) = compact_least (number n)
shown_least (string s) = omega arith
shown_least (array ds) = compact_least (array ds)
shown_least (object ms) = compact_least (object ms)
