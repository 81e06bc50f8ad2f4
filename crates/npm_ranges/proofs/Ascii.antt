-- What the grammar reads is ASCII.
use Rattle.std.proofs.Common.{◌≡◌, ℕ, ◌^◌, ◌<◌, List, [], ◌∷◌, length, Option, Some, None, Result, Ok, Err, Bool, true, not, refl, ap, inl, inr, arith}
use Rattle.std.specs.Prelude.{◌&&◌, ◌||◌, ◌==◌, nat_eq, nat_lt, nat_le}
use Rattle.std.specs.Char.{is_ascii_digit}
use Rattle.std.specs.Cmp.Lexicographic.{pointwise}
use Rattle.std.specs.List.{filter, list_all, onto_first, slice_split}
use Rattle.std.specs.Option.{option_map}
use Rattle.std.specs.Str.{IsUtf8}
use Rattle.std.proofs.lemmas.Bool.{cases_Bool, eqb-true, lt-ltb}
use Rattle.std.proofs.lemmas.Bool.Decides.{nat_tests}
use Rattle.std.proofs.lemmas.List.{nil_from_length}
use Rattle.std.proofs.lemmas.Str.{IsUtf8-from_ascii}
use Rattle.semver.proofs.Segments.{and-left, and-right}
use Rattle.semver.specs.Grammar.{has_leading_zero}
use Rattle.semver.specs.Order.{parts}
use Rattle.semver.specs.OrderLaws.{same_text}
use Rattle.semver.specs.Parse.{Parts, version_parts}
use Rattle.semver.specs.declared.error.Error.{Error}
use Rattle.npm_ranges.specs.declared.comparator.Sign.{Sign}
use Rattle.npm_ranges.specs.Grammar.{Spelled, Written, bare, by_sign, comparator_of, comparators_of, each_of, free_partial, hyphen_ends, hyphen_or, is_blank}
use Rattle.npm_ranges.specs.Grammar.{is_decimal, is_free, joined, lone_sign, number_of, or_equal, part_of, partial_from, partial_of, parts_partial, set_from}
use Rattle.npm_ranges.specs.Grammar.{set_of, sets_of, sign_of, value_from, with_sign, words_of, written}
use Rattle.npm_ranges.proofs.Reading.{alone_none}
use Rattle.npm_ranges.proofs.VersionTexts.{all_weaker, ascii_from_all, both_true, read_bytes}
use Rattle.npm_ranges.specs.Versions.{is_version_byte}

abbrev is_ascii : ℕ → Bool
is_ascii b = nat_lt b 128

abbrev all_ascii : List ℕ → Bool
all_ascii text = list_all is_ascii text

byte_of : (b n : ℕ) → n < 128 → (b == n) ≡ true → is_ascii b ≡ true
byte_of b n small h = rw (eqb-true b n h) (lt-ltb n 128 small)

-- ---- pieces of a text

onto_all : (f : ℕ → Bool) (x : ℕ) (ps : List (List ℕ)) → list_all (list_all f) (onto_first x ps) ≡ true → (f x ≡ true) × (list_all (list_all f) ps ≡ true)
onto_all f x [] h = (and-left (f x) true (and-left (f x && true) true h), refl)
onto_all f x (p ∷ ps) h =
    let first = and-left (f x && list_all f p) (list_all (list_all f) ps) h in
    (and-left (f x) (list_all f p) first, both_true _ _ (and-right (f x) (list_all f p) first) (and-right (f x && list_all f p) (list_all (list_all f) ps) h))

split_all : (f test : ℕ → Bool) → ((b : ℕ) → test b ≡ true → f b ≡ true) → (text : List ℕ) → list_all (list_all f) (slice_split test text) ≡ true →
    list_all f text ≡ true
split_all f test is [] h = refl
split_all f test is (b ∷ rest) h = elim (cases_Bool (test b)) [
  | inl cut ↦ both_true _ _ (is b cut) (split_all f test is rest (rw cut at h))
  | inr other ↦ let both = onto_all f b (slice_split test rest) (rw other at h) in both_true _ _ both.0 (split_all f test is rest both.1)
]

sets_all : (text : List ℕ) → list_all all_ascii (sets_of text) ≡ true → all_ascii text ≡ true
unfolding sets_of
sets_all [] h = refl
sets_all (x ∷ []) h = and-left (all_ascii (x ∷ [])) true h
sets_all (x ∷ y ∷ rest) h = elim (cases_Bool (x == 124 && y == 124)) [
  | inl bars ↦
      let first = byte_of x 124 (omega arith) (and-left (x == 124) (y == 124) bars) in
      let second = byte_of y 124 (omega arith) (and-right (x == 124) (y == 124) bars) in
      both_true _ _ first (both_true _ _ second (sets_all rest (rw bars at h)))
  | inr other ↦ let both = onto_all is_ascii x (sets_of (y ∷ rest)) (rw other at h) in both_true _ _ both.0 (sets_all (y ∷ rest) both.1)
]

kept_all : (ps : List (List ℕ)) → list_all all_ascii (filter (λ word. nat_lt 0 (length word)) ps) ≡ true → list_all all_ascii ps ≡ true
kept_all [] h = refl
kept_all ([] ∷ ps) h = kept_all ps h
kept_all ((b ∷ rest) ∷ ps) h =
    let some : nat_lt 0 (length (b ∷ rest)) ≡ true = lt-ltb 0 (length (b ∷ rest)) (omega arith) in
    let both = rw some at h in
    both_true _ _ (and-left (all_ascii (b ∷ rest)) _ both) (kept_all ps (and-right (all_ascii (b ∷ rest)) _ both))

blank_is : (b : ℕ) → is_blank b ≡ true → is_ascii b ≡ true
blank_is b h = grind (arith, nat_tests)

words_all : (text : List ℕ) → list_all all_ascii (words_of text) ≡ true → all_ascii text ≡ true
unfolding words_of
words_all text h = split_all is_ascii is_blank blank_is text (kept_all (slice_split is_blank text) h)

-- ---- what was read of each

joined_first : {A : Type 0} (a : Option A) (b : Option (List A)) (zs : List A) → joined a b ≡ Some zs → (x : A) × (a ≡ Some x)
joined_first (Some x) (Some xs) zs h = (x, refl)
joined_first (Some x) None zs h = cc h
joined_first None b zs h = cc h

joined_others : {A : Type 0} (a : Option A) (b : Option (List A)) (zs : List A) → joined a b ≡ Some zs → (xs : List A) × (b ≡ Some xs)
joined_others (Some x) (Some xs) zs h = (xs, refl)
joined_others (Some x) None zs h = cc h
joined_others None b zs h = cc h

mapped : {A B : Type 0} (f : A → B) (o : Option A) (y : B) → option_map f o ≡ Some y → (x : A) × (o ≡ Some x)
mapped f None y h = cc h
mapped f (Some x) y h = (x, refl)

each_all : {B : Type 0} (f : List ℕ → Option B) (g : ℕ → Bool) → ((x : List ℕ) (y : B) → f x ≡ Some y → list_all g x ≡ true) →
    (xs : List (List ℕ)) (ys : List B) → each_of f xs ≡ Some ys → list_all (list_all g) xs ≡ true
each_all f g is [] ys h = refl
each_all f g is (x ∷ xs) ys h =
    let first = joined_first (f x) (each_of f xs) ys h in
    let others = joined_others (f x) (each_of f xs) ys h in
    both_true _ _ (is x first.0 first.1) (each_all f g is xs others.0 others.1)

-- ---- parts and partials

-- [0-9A-Za-z-], '.', '+' and '*'
abbrev pub is_partial_byte : ℕ → Bool
is_partial_byte b = is_version_byte b || b == 42

partial_byte : (b : ℕ) → is_version_byte b ≡ true → is_partial_byte b ≡ true
partial_byte b h = rw h refl

partial_is_ascii : (b : ℕ) → is_partial_byte b ≡ true → is_ascii b ≡ true
partial_is_ascii b h = grind (arith, nat_tests)

free_is : (b : ℕ) → (b == 120 || b == 88 || b == 42) ≡ true → is_partial_byte b ≡ true
free_is b h = grind (arith, nat_tests)

free_all : (text : List ℕ) → is_free text ≡ true → list_all is_partial_byte text ≡ true
free_all [] h = refl
free_all (b ∷ rest) h =
    let none : rest ≡ [] = nil_from_length rest (eqb-true (length rest) 0 (and-right (b == 120 || b == 88 || b == 42) (length rest == 0) h)) in
    rw none (both_true (is_partial_byte b) true (free_is b (and-left (b == 120 || b == 88 || b == 42) (length rest == 0) h)) refl)

digit_is : (b : ℕ) → is_ascii_digit b ≡ true → is_partial_byte b ≡ true
digit_is b h = grind (arith, nat_tests)

number_all : (text : List ℕ) (n : ℕ) → number_of text ≡ Some n → list_all is_partial_byte text ≡ true
unfolding number_of
number_all text n h = elim (cases_Bool (is_decimal text && nat_lt (value_from 0 text) (2 ^ 64))) [
  | inl both ↦
      let decimal = and-left (is_decimal text) (nat_lt (value_from 0 text) (2 ^ 64)) both in
      let digits = and-right (nat_lt 0 (length text)) (list_all is_ascii_digit text) (and-left (nat_lt 0 (length text)
      && list_all is_ascii_digit text) (not (has_leading_zero text)) decimal) in
      all_weaker is_ascii_digit is_partial_byte digit_is text digits
  | inr other ↦ cc (rw other at h)
]

part_all : (text : List ℕ) (o : Option ℕ) → part_of text ≡ Some o → list_all is_partial_byte text ≡ true
part_all text o h = elim (cases_Bool (is_free text)) [
  | inl free ↦ free_all text free
  | inr other ↦ let m = mapped (λ n. Some n) (number_of text) o (rw other at h) in number_all text m.0 m.1
]

one_byte : (b n : ℕ) → is_partial_byte n ≡ true → (b == n) ≡ true → is_partial_byte b ≡ true
one_byte b n is h = rw (eqb-true b n h) is

parts_all : (text : List ℕ) (p : Spelled) → parts_partial (parts text) ≡ Some p → list_all is_partial_byte text ≡ true
unfolding parts_partial
parts_all text p h = elim (cases_Bool (nat_le (length (parts text)) 3)) [
  | inl few ↦
      let m = mapped free_partial (each_of part_of (parts text)) p (rw few at h) in
      split_all is_partial_byte (λ b. b == 46) (λ b dot. one_byte b 46 refl dot) text (each_all part_of is_partial_byte part_all (parts text) m.0 m.1)
  | inr many ↦ cc (rw many at h)
]

by_version : (text : List ℕ) (r : Result Parts Error) (p : Spelled) → version_parts text ≡ r → partial_from r (parts_partial (parts text)) ≡ Some p →
    list_all is_partial_byte text ≡ true
by_version text (Ok q) p is h = all_weaker is_version_byte is_partial_byte partial_byte text (read_bytes text q is)
by_version text (Err e) p is h = parts_all text p h

bare_all : (word : List ℕ) → list_all is_partial_byte (bare word) ≡ true → list_all is_partial_byte word ≡ true
bare_all [] h = refl
bare_all (b ∷ rest) h = elim (cases_Bool (b == 118)) [
  | inl v ↦ both_true _ _ (one_byte b 118 refl v) (rw v at h)
  | inr other ↦ rw other at h
]

-- the bytes of a partial
pub partial_bytes : (word : List ℕ) (p : Spelled) → partial_of word ≡ Some p → list_all is_partial_byte word ≡ true
unfolding partial_of
partial_bytes word p h = bare_all word (by_version (bare word) (version_parts (bare word)) p refl h)

partial_all : (word : List ℕ) (p : Spelled) → partial_of word ≡ Some p → all_ascii word ≡ true
partial_all word p h = all_weaker is_partial_byte is_ascii partial_is_ascii word (partial_bytes word p h)

-- ---- comparators

or_all : (one two : Sign) (rest : List ℕ) → all_ascii (or_equal one two rest).1 ≡ true → all_ascii rest ≡ true
or_all one two [] h = refl
or_all one two (b ∷ rest) h = elim (cases_Bool (b == 61)) [
  | inl equal ↦ both_true _ _ (byte_of b 61 (omega arith) equal) (rw equal at h)
  | inr other ↦ rw other at h
]

sign_all : (word : List ℕ) → all_ascii (sign_of word).1 ≡ true → all_ascii word ≡ true
unfolding sign_of
sign_all [] h = refl
sign_all (b ∷ rest) h = elim (cases_Bool (b == 61)) [
  | inl a ↦ both_true _ _ (byte_of b 61 (omega arith) a) (rw a at h)
  | inr not_a ↦ elim (cases_Bool (b == 60)) [
    | inl c ↦ both_true _ _ (byte_of b 60 (omega arith) c) (or_all _ _ rest (rw (not_a, c) at h))
    | inr not_c ↦ elim (cases_Bool (b == 62)) [
      | inl d ↦ both_true _ _ (byte_of b 62 (omega arith) d) (or_all _ _ rest (rw (not_a, not_c, d) at h))
      | inr not_d ↦ elim (cases_Bool (b == 126)) [
        | inl e ↦ both_true _ _ (byte_of b 126 (omega arith) e) (rw (not_a, not_c, not_d, e) at h)
        | inr not_e ↦ elim (cases_Bool (b == 94)) [
          | inl f ↦ both_true _ _ (byte_of b 94 (omega arith) f) (rw (not_a, not_c, not_d, not_e, f) at h)
          | inr not_f ↦ rw (not_a, not_c, not_d, not_e, not_f) at h
        ]
      ]
    ]
  ]
]

signed_all : (s : Sign) (word : List ℕ) (c : Written) → with_sign s (partial_of word) ≡ Some c → all_ascii word ≡ true
signed_all s word c h = let m = mapped (λ p. record { sign = s; partial = p }) (partial_of word) c h in partial_all word m.0 m.1

comparator_all : (word : List ℕ) (c : Written) → comparator_of word ≡ Some c → all_ascii word ≡ true
comparator_all word c h = sign_all word (signed_all _ (sign_of word).1 c h)

lone_all : (word : List ℕ) (s : Sign) → lone_sign word ≡ Some s → all_ascii word ≡ true
lone_all word s h = sign_all word (rw (alone_none (sign_of word).0 (sign_of word).1 s h) refl)

by_sign_all : (o : Option Sign) (word next : List ℕ) (words : List (List ℕ)) (both one : Option (List Written)) (cs : List Written) → lone_sign word ≡ o →
    by_sign o word next both one ≡ Some cs
    → ((ds : List Written) → both ≡ Some ds → list_all all_ascii words ≡ true) → ((ds : List Written) → one ≡ Some ds →
    list_all all_ascii (next ∷ words) ≡ true)
    → list_all all_ascii (word ∷ next ∷ words) ≡ true
by_sign_all (Some s) word next words both one cs is h others rest =
    let first = joined_first (with_sign s (partial_of next)) both cs h in
    let behind = joined_others (with_sign s (partial_of next)) both cs h in
    both_true _ _ (lone_all word s is) (both_true _ _ (signed_all s next first.0 first.1) (others behind.0 behind.1))
by_sign_all None word next words both one cs is h others rest =
    let first = joined_first (comparator_of word) one cs h in
    let behind = joined_others (comparator_of word) one cs h in
    both_true _ _ (comparator_all word first.0 first.1) (rest behind.0 behind.1)

comparators_all : (words : List (List ℕ)) (cs : List Written) → comparators_of words ≡ Some cs → list_all all_ascii words ≡ true
comparators_all [] cs h = refl
comparators_all (word ∷ []) cs h =
    let first = joined_first (comparator_of word) (Some []) cs h in
    both_true _ _ (comparator_all word first.0 first.1) refl
comparators_all (word ∷ next ∷ words) cs h =
    by_sign_all (lone_sign word) word next words (comparators_of words) (comparators_of (next
    ∷ words)) cs refl h (comparators_all words) (comparators_all (next ∷ words))

-- ---- sets

hyphen_is : (words : List (List ℕ)) (ends : List ℕ × List ℕ) → hyphen_ends words ≡ Some ends → words ≡ ends.0 ∷ (45 ∷ []) ∷ ends.1 ∷ []
hyphen_is [] ends h = cc h
hyphen_is (first ∷ []) ends h = cc h
hyphen_is (first ∷ middle ∷ []) ends h = cc h
hyphen_is (first ∷ middle ∷ last ∷ []) ends h = elim (cases_Bool (pointwise nat_eq middle (45 ∷ []))) [
  | inl hyphen ↦
      let same : (first, last) ≡ ends = cc (rw hyphen at h) in
      rw (same_text middle (45 ∷ []) hyphen) (ap (λ (e : List ℕ × List ℕ). e.0 ∷ (45 ∷ []) ∷ e.1 ∷ []) same)
  | inr other ↦ cc (rw other at h)
]
hyphen_is (first ∷ middle ∷ last ∷ next ∷ words) ends h = cc h

hyphen_all : (o : Option (List ℕ × List ℕ)) (words : List (List ℕ)) (cs : List Written) → hyphen_ends words ≡ o →
    hyphen_or o (comparators_of words) ≡ Some cs → list_all all_ascii words ≡ true
hyphen_all None words cs is h = comparators_all words cs h
hyphen_all (Some ends) words cs is h =
    let first = joined_first _ _ cs h in
    let others = joined_others _ _ cs h in
    let last = joined_first _ _ others.0 others.1 in
    rw (hyphen_is words ends is) (both_true _ _ (signed_all _ ends.0 first.0 first.1) (both_true _ _ (signed_all _ ends.1 last.0 last.1) refl))

set_all : (text : List ℕ) (cs : List Written) → set_of text ≡ Some cs → all_ascii text ≡ true
set_all text cs h = words_all text (from (words_of text) h)
  where
    from : (words : List (List ℕ)) → set_from words ≡ Some cs → list_all all_ascii words ≡ true
    from [] k = refl
    from (word ∷ words) k = hyphen_all (hyphen_ends (word ∷ words)) (word ∷ words) cs refl k

pub range_is_utf8 : (text : List ℕ) (sets : List (List Written)) → written text ≡ Some sets → IsUtf8 text
unfolding written
range_is_utf8 text sets h = IsUtf8-from_ascii text (ascii_from_all text (sets_all text (each_all set_of is_ascii set_all (sets_of text) sets h)))
