-- Numbers, parts and partials, and how the readers of `partial` follow the grammar.
use Rattle.std.proofs.Common.{◌≡◌, ℕ, ◌+◌, ◌*◌, ◌-◌, ◌^◌, ◌≤◌, ◌<◌, List, [], ◌∷◌, length, take, drop, get_or, Option, Some, None, Result, Ok, Err, Bool}
use Rattle.std.proofs.Common.{true, false, refl, sym, ap, ◌∙◌, subst, inl, inr, arith}
use Rattle.std.proofs.lemmas.List.{drop_all, drop_more}
use Rattle.std.specs.Prelude.{◌==◌, nat_lt, nat_le, if◌then◌else◌, IsErr, position}
use Rattle.std.specs.List.{position_or_len, slice_split}
use Rattle.std.specs.Str.{IsUtf8}
use Rattle.std.proofs.lemmas.Bool.{cases_lt, lt-ltb, le-ltb}
use Rattle.std.proofs.lemmas.Bool.Decides.{nat_tests}
use Rattle.std.proofs.lemmas.List.Splits.{slice_split_first, slice_split_none}
use Rattle.std.proofs.lemmas.List.Sums.{fails_before_first}
use Rattle.std.proofs.lemmas.Str.{IsUtf8-from_ascii}
use Rattle.semver.specs.Order.{parts}
use Rattle.semver.specs.OrderLaws.{parts-shape}
use Rattle.semver.specs.Parse.{Parts, version_parts}
use Rattle.semver.specs.declared.error.Error.{Error}
use Rattle.npm_ranges.specs.Grammar.{Spelled, bare, free_partial, part_of, partial_from, partial_of, parts_partial, value_from}
use Rattle.npm_ranges.proofs.VersionTexts.{all_weaker, ascii_from_all, byte_is_ascii, read_bytes}
use Rattle.npm_ranges.specs.Versions.{is_version_byte}

-- ---- numbers

pub value_grows : (value : ℕ) (ds : List ℕ) → value ≤ value_from value ds
value_grows value [] = omega arith
value_grows value (d ∷ ds) = let more = value_grows (value * 10 + (d - 48)) ds in omega arith

-- what is left of the digits has a value that is too large
pub value_over : (all ds : List ℕ) (i value : ℕ) (d : ℕ) → i < length ds → d ≡ get_or ds i 0 → value_from 0 all ≡ value_from value (drop i ds)
    → 2 ^ 64 ≤ value * 10 + (d - 48) → None ≡ (if nat_lt (value_from 0 all) (2 ^ 64) then Some (value_from 0 all) else None)
value_over all ds i value d below is kept over =
    let next : value_from value (drop i ds) ≡ value_from (value * 10 + (d - 48)) (drop (i + 1) ds) = ap (value_from value) (drop_more ds i 0 below)
    ∙ ap (λ x. value_from (value * 10 + (x - 48)) (drop (i + 1) ds)) (sym is) in
    let grows = value_grows (value * 10 + (d - 48)) (drop (i + 1) ds) in
    let large : 2 ^ 64 ≤ value_from 0 all = rw (kept ∙ next) (omega arith) in
    rw (le-ltb (value_from 0 all) (2 ^ 64) large) refl

pub value_ends : (all ds : List ℕ) (i value : ℕ) → length ds ≤ i → value_from 0 all ≡ value_from value (drop i ds) → value < 2 ^ 64
    → Some value ≡ (if nat_lt (value_from 0 all) (2 ^ 64) then Some (value_from 0 all) else None)
value_ends all ds i value past kept small =
    let is : value_from 0 all ≡ value = kept ∙ ap (value_from value) (drop_all i ds past) in
    rw (is, lt-ltb value (2 ^ 64) small) refl

-- ---- parts

module _ {X : Type 0} (p : X → Bool) (xs : List X) where
  pub position_none : position p xs ≡ None → length xs ≤ position_or_len p xs
  position_none none = elim (cases_lt (position_or_len p xs) (length xs)) [
    | inl below ↦ cc (rw (lt-ltb (position_or_len p xs) (length xs) below) at none)
    | inr past ↦ past
  ]

  pub position_some : (n : ℕ) → position p xs ≡ Some n → (n < length xs) × (position_or_len p xs ≡ n)
  position_some n is = elim (cases_lt (position_or_len p xs) (length xs)) [
    | inl below ↦
        let same : position_or_len p xs ≡ n = cc (rw (lt-ltb (position_or_len p xs) (length xs) below) at is) in
        (subst (λ k. k < length xs) same below, same)
    | inr past ↦ cc (rw (le-ltb (position_or_len p xs) (length xs) past) at is)
  ]

  pub split_none : position p xs ≡ None → slice_split p xs ≡ xs ∷ []
  split_none none = slice_split_none p xs (λ k d below. let past = position_none none in fails_before_first p xs k d (omega arith))

pub parts_end : (text : List ℕ) → position (λ b. b == 46) text ≡ None → parts text ≡ text ∷ []
parts_end text none = split_none (λ b. b == 46) text none

pub parts_next : (text : List ℕ) (end : ℕ) → position (λ b. b == 46) text ≡ Some end → (end < length text) ×
    (parts text ≡ take end text ∷ parts (drop (end + 1) text))
parts_next text end is =
    let at = position_some (λ b. b == 46) text end is in
    (at.0, slice_split_first (λ b. b == 46) text 0 (rw at.1 at.0) ∙ ap (λ n. take n text ∷ parts (drop (n + 1) text)) at.1)

-- ---- partials of parts

none_both : (b : Bool) → ◌≡◌ {A = Option Spelled} (if b then None else None) None
none_both true = refl
none_both false = refl

pub no_first : (ps : List (List ℕ)) (first : List ℕ) (tail : List (List ℕ)) → ps ≡ first ∷ tail → part_of first ≡ None → parts_partial ps ≡ None
unfolding parts_partial
no_first ps first tail is none = rw (is, none) (none_both (nat_le (length (first ∷ tail)) 3))

pub no_second : (ps : List (List ℕ)) (first second : List ℕ) (tail : List (List ℕ)) (a : Option ℕ) → ps ≡ first ∷ second ∷ tail → part_of first ≡ Some a →
    part_of second ≡ None → parts_partial ps ≡ None
unfolding parts_partial
no_second ps first second tail a is some none = rw (is, some, none) (none_both (nat_le (length (first ∷ second ∷ tail)) 3))

pub no_third : (ps : List (List ℕ)) (first second third : List ℕ) (tail : List (List ℕ)) (a b : Option ℕ) → ps ≡ first ∷ second ∷ third ∷ tail
    → part_of first ≡ Some a → part_of second ≡ Some b → part_of third ≡ None → parts_partial ps ≡ None
unfolding parts_partial
no_third ps first second third tail a b is some more none = rw (is, some, more, none) (none_both (nat_le (length (first ∷ second ∷ third ∷ tail)) 3))

pub too_many : (ps : List (List ℕ)) (first second third : List ℕ) (rest : List ℕ) → ps ≡ first ∷ second ∷ third ∷ parts rest → parts_partial ps ≡ None
unfolding parts_partial
too_many ps first second third rest is =
    let shape = parts-shape rest in
    let large : 3 < length (first ∷ second ∷ third ∷ shape.0 ∷ shape.1) = omega arith in
    let over : nat_le (length (first ∷ second ∷ third ∷ shape.0 ∷ shape.1)) 3 ≡ false = grind (arith, nat_tests) in
    rw (is, shape.2, over) refl

as_three_one : (a : Option ℕ) → free_partial (a ∷ None ∷ None ∷ []) ≡ free_partial (a ∷ [])
as_three_one None = refl
as_three_one (Some n) = refl

as_three_two : (a b : Option ℕ) → free_partial (a ∷ b ∷ None ∷ []) ≡ free_partial (a ∷ b ∷ [])
as_three_two None b = refl
as_three_two (Some n) None = refl
as_three_two (Some n) (Some m) = refl

pub one_part : (ps : List (List ℕ)) (first : List ℕ) (a : Option ℕ) → ps ≡ first ∷ [] → part_of first ≡ Some a →
    Some (free_partial (a ∷ None ∷ None ∷ [])) ≡ parts_partial ps
unfolding parts_partial
one_part ps first a is some = rw (is, some) (ap Some (as_three_one a))

pub two_parts : (ps : List (List ℕ)) (first second : List ℕ) (a b : Option ℕ) → ps ≡ first ∷ second ∷ [] → part_of first ≡ Some a → part_of second ≡ Some b
    → Some (free_partial (a ∷ b ∷ None ∷ [])) ≡ parts_partial ps
unfolding parts_partial
two_parts ps first second a b is some more = rw (is, some, more) (ap Some (as_three_two a b))

pub three_parts : (ps : List (List ℕ)) (first second third : List ℕ) (a b c : Option ℕ) → ps ≡ first ∷ second ∷ third ∷ []
    → part_of first ≡ Some a → part_of second ≡ Some b → part_of third ≡ Some c → Some (free_partial (a ∷ b ∷ c ∷ [])) ≡ parts_partial ps
unfolding parts_partial
three_parts ps first second third a b c is some more most = rw (is, some, more, most) refl

-- ---- partials

refused : (r : Result Parts Error) → ((p : Parts) → r ≡ Ok p → ⊥) → IsErr r
refused (Ok p) h = absurd (h p refl)
refused (Err e) h = refl

-- a text that is no UTF-8 is no version
pub not_a_version : (text : List ℕ) → (IsUtf8 text → ⊥) → IsErr (version_parts text)
not_a_version text h = refused (version_parts text) (λ p is. h (IsUtf8-from_ascii text (ascii_from_all text (all_weaker is_version_byte (λ b. nat_lt b 128)
    byte_is_ascii text (read_bytes text p is)))))

pub partial_full : (word bytes : List ℕ) (p : Parts) → bytes ≡ bare word → version_parts bytes ≡ Ok p →
    Some (record { numbers = p.0 ∷ p.1 ∷ p.2 ∷ []; pre = p.3 }) ≡ partial_of word
unfolding partial_of
partial_full word bytes p same is = rw (sym (ap version_parts same) ∙ is) refl

other_from : (r : Result Parts Error) (other : Option Spelled) → IsErr r → other ≡ partial_from r other
other_from (Ok p) other h = cc h
other_from (Err e) other h = refl

pub partial_open : (word bytes : List ℕ) → bytes ≡ bare word → IsErr (version_parts bytes) → parts_partial (parts bytes) ≡ partial_of word
unfolding partial_of
partial_open word bytes same fails = rw (← same) (other_from (version_parts bytes) (parts_partial (parts bytes)) fails)
