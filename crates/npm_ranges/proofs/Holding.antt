-- What the definitions of ranges imply.
use Rattle.std.proofs.Common.{◌≡◌, ◌≢◌, ℕ, ◌<◌, List, [], ◌∷◌, ◌++◌, length, Option, Some, None, Bool, true, false, not, refl, sym, ap, ◌∙◌, subst, arith}
use Rattle.std.proofs.Common.{codes, IsTrue, append_assoc}
use Rattle.std.specs.Prelude.{◌↔◌, ◌&&◌, ◌||◌, ◌==◌, if◌then◌else◌}
use Rattle.std.specs.Char.{is_ascii_digit}
use Rattle.std.specs.Fmt.{decimal}
use Rattle.std.specs.List.{list_all, list_any, slice_split}
use Rattle.std.specs.Ordering.{is_ge, is_lt, nat_cmp, ordering_then}
use Rattle.std.specs.declared.cmp.Ordering.{Ordering}
use Rattle.std.specs.declared.cmp.Ordering.TheVariants.{Less, Equal, Greater}
use Rattle.std.proofs.lemmas.Bool.{eqb-true, lt-ltb}
use Rattle.std.proofs.lemmas.Bool.Decides.{nat_tests}
use Rattle.std.proofs.lemmas.Fmt.{decimal_nonempty}
use Rattle.std.proofs.lemmas.List.{nil_from_length}
use Rattle.semver.proofs.Segments.{and-left, and-right}
use Rattle.semver.specs.Order.{pre_cmp}
use Rattle.semver.specs.Parse.{Parts}
use Rattle.npm_ranges.specs.declared.comparator.Sign.{Sign}
use Rattle.npm_ranges.specs.declared.comparator.Sign.TheVariants as sign
use Rattle.npm_ranges.specs.Grammar.{Spelled, Written, any_version, bare, comparator_of, comparators_of, each_of, is_blank, joined, lone_sign, partial_of}
use Rattle.npm_ranges.specs.Grammar.{set_from, set_of, sets_of, sign_of, words_of, written}
use Rattle.npm_ranges.specs.Laws.{IsBetween, IsPlain}
use Rattle.npm_ranges.specs.Ranges.{IsInRange, lets_pre_in, meets_comparator, meets_full, meets_open, meets_set}
use Rattle.npm_ranges.specs.Versions.{IsVersion, is_version_byte, parts_in, precedence}
use Rattle.npm_ranges.proofs.Partials.{partial_full}
use Rattle.npm_ranges.proofs.Reading.{one_word}
use Rattle.npm_ranges.proofs.Splitting.{not_true}
use Rattle.npm_ranges.proofs.VersionOrders.{precedence_ties}
use Rattle.npm_ranges.proofs.VersionTexts.{all_both, all_weaker, both_true, decimal_is, version_bytes, version_reads}

-- ---- build text has no effect

same_full : (s : Sign) (a b c : ℕ) (d x y : List ℕ) (p : Spelled) → meets_full s (a, b, c, d, x) p ≡ meets_full s (a, b, c, d, y) p
same_full sign.Equal a b c d x y p = refl
same_full sign.Less a b c d x y p = refl
same_full sign.LessOrEqual a b c d x y p = refl
same_full sign.Greater a b c d x y p = refl
same_full sign.GreaterOrEqual a b c d x y p = refl
same_full sign.Tilde a b c d x y p = refl
same_full sign.Caret a b c d x y p = refl

same_open : (s : Sign) (a b c : ℕ) (d x y : List ℕ) (p : Spelled) → meets_open s (a, b, c, d, x) p ≡ meets_open s (a, b, c, d, y) p
same_open sign.Equal a b c d x y p = refl
same_open sign.Less a b c d x y p = refl
same_open sign.LessOrEqual a b c d x y p = refl
same_open sign.Greater a b c d x y p = refl
same_open sign.GreaterOrEqual a b c d x y p = refl
same_open sign.Tilde a b c d x y p = refl
same_open sign.Caret a b c d x y p = refl

same_comparator : (a b c : ℕ) (d x y : List ℕ) (w : Written) → meets_comparator (a, b, c, d, x) w ≡ meets_comparator (a, b, c, d, y) w
same_comparator a b c d x y w =
    λ i. if length w.partial.numbers == 3 then same_full w.sign a b c d x y w.partial i else same_open w.sign a b c d x y w.partial i

same_set : (a b c : ℕ) (d x y : List ℕ) (set : List Written) → meets_set (a, b, c, d, x) set ≡ meets_set (a, b, c, d, y) set
same_set a b c d x y set = λ i. list_all (λ w. same_comparator a b c d x y w i) set && (length d == 0 || list_any (lets_pre_in (a, b, c, d, x)) set)

same_sets : (p q : Parts) → precedence p q ≡ Equal → (sets : List (List Written)) → list_any (meets_set p) sets ≡ list_any (meets_set q) sets
same_sets p q e sets =
    let t = precedence_ties p q e in
    (λ i. list_any (λ set. same_set p.0 p.1 p.2 p.3 p.4 q.4 set i) sets) ∙ (λ i. list_any (meets_set (t.major i, t.minor i, t.patch i, t.pre i, q.4)) sets)

pub build_has_no_effect : (range version other : List ℕ) → precedence (parts_in version) (parts_in other) ≡ Equal → IsInRange version range
    → IsInRange other range
build_has_no_effect range version other e m = (m.0, m.1, subst (λ b. IsTrue b) (same_sets (parts_in version) (parts_in other) e m.0) m.2)

-- ---- the empty range

written_nil : written [] ≡ Some ((any_version ∷ []) ∷ [])
unfolding written sets_of words_of
written_nil = refl

not_less : (r s : Ordering) → is_ge r ≡ true → is_ge s ≡ true → is_ge (ordering_then r s) ≡ true
not_less Less s h k = h
not_less Equal s h k = k
not_less Greater s h k = refl

above_zero : (n : ℕ) → is_ge (nat_cmp n 0) ≡ true
above_zero n = grind (arith, nat_tests)

above_nothing : (p : Parts) → p.3 ≡ [] → is_ge (precedence p (0, 0, 0, [], [])) ≡ true
above_nothing p plain =
    not_less (nat_cmp p.0 0) _ (above_zero p.0) (not_less (nat_cmp p.1 0) _ (above_zero p.1) (not_less (nat_cmp p.2 0) _ (above_zero p.2)
    (subst (λ (pre : List ℕ). is_ge (pre_cmp pre []) ≡ true) (sym plain) refl)))

pub same_value : {A : Type 0} (x y : A) → ◌≡◌ {A = Option A} (Some x) (Some y) → x ≡ y
same_value x y e = cc e

-- what is left of the tests of one set
single : (x l e : Bool) → e ≡ false → ((((x && true) && true) && (l || (e || false))) || false) ≡ (x && l)
single true true e h = refl
single true false e h = rw h refl
single false l e h = refl

empty_value : (p : Parts) → list_any (meets_set p) ((any_version ∷ []) ∷ []) ≡ (is_ge (precedence p (0, 0, 0, [], [])) && (length p.3 == 0))
empty_value p = single (is_ge (precedence p (0, 0, 0, [], []))) (length p.3 == 0) (lets_pre_in p any_version) refl

pub no_pre : (pre : List ℕ) → (length pre == 0) ≡ true → pre ≡ []
no_pre pre h = nil_from_length pre (eqb-true (length pre) 0 h)

pub is_no_pre : (pre : List ℕ) → pre ≡ [] → (length pre == 0) ≡ true
is_no_pre pre h = rw h refl

pub empty_holds : (version : List ℕ) → IsInRange version [] ↔ ((parts_in version).3 ≡ [])
empty_holds version =
    let p = parts_in version in (
      λ m.
          let same : m.0 ≡ (any_version ∷ []) ∷ [] = same_value m.0 ((any_version ∷ []) ∷ []) (sym m.1 ∙ written_nil) in
          let h : list_any (meets_set p) ((any_version ∷ []) ∷ []) ≡ true = subst (λ sets. list_any (meets_set p) sets ≡ true) same m.2 in
          no_pre p.3 (and-right (is_ge (precedence p (0, 0, 0, [], []))) (length p.3 == 0) (sym (empty_value p) ∙ h)),
      λ plain. (
        (any_version ∷ []) ∷ [],
        written_nil,
        empty_value p ∙ both_true (is_ge (precedence p (0, 0, 0, [], []))) (length p.3 == 0) (above_nothing p plain)
            (is_no_pre p.3 plain),
      ),
    )

-- ---- two bounds

abbrev pub no_blank : ℕ → Bool
no_blank b = not (is_blank b)

abbrev pub no_bar : ℕ → Bool
no_bar b = not (b == 124)

pub split_one : (text : List ℕ) → list_all no_blank text ≡ true → slice_split is_blank text ≡ text ∷ []
split_one [] h = refl
split_one (b ∷ rest) h = rw (
  not_true (is_blank b) (and-left (no_blank b) (list_all no_blank rest) h),
  split_one rest (and-right (no_blank b) (list_all no_blank rest) h),
) refl

pub split_two : (x : List ℕ) (blank : ℕ) (y : List ℕ) → is_blank blank ≡ true → list_all no_blank x ≡ true → slice_split is_blank (x ++ blank ∷ y) ≡ x
    ∷ slice_split is_blank y
split_two [] blank y is h = rw is refl
split_two (b ∷ rest) blank y is h = rw (
  not_true (is_blank b) (and-left (no_blank b) (list_all no_blank rest) h),
  split_two rest blank y is (and-right (no_blank b) (list_all no_blank rest) h),
) refl

two_words : (x y : List ℕ) → 0 < length x → 0 < length y → list_all no_blank x ≡ true → list_all no_blank y ≡ true → words_of (x ++ 32 ∷ y) ≡ x ∷ y ∷ []
unfolding words_of
two_words x y long more h k = rw (split_two x 32 y refl h, split_one y k, lt-ltb 0 (length x) long, lt-ltb 0 (length y) more) refl

pub one_set : (text : List ℕ) → list_all no_bar text ≡ true → sets_of text ≡ text ∷ []
unfolding sets_of
one_set [] h = refl
one_set (x ∷ []) h = refl
one_set (x ∷ y ∷ rest) h = rw (
  not_true (x == 124) (and-left (no_bar x) (list_all no_bar (y ∷ rest)) h),
  one_set (y ∷ rest) (and-right (no_bar x) (list_all no_bar (y ∷ rest)) h),
) refl

byte_no_blank : (b : ℕ) → is_version_byte b ≡ true → no_blank b ≡ true
byte_no_blank b h = grind (arith, nat_tests)

byte_no_bar : (b : ℕ) → is_version_byte b ≡ true → no_bar b ≡ true
byte_no_bar b h = grind (arith, nat_tests)

-- a version begins with a digit
record BeginsWithDigit (text : List ℕ) : Type 0 where
  digit : ℕ
  rest : List ℕ
  is : text ≡ digit ∷ rest
  test : is_ascii_digit digit ≡ true

digit_first : (ds tail : List ℕ) → 0 < length ds → list_all is_ascii_digit ds ≡ true → BeginsWithDigit (ds ++ tail)
digit_first [] tail some h = absurd (omega arith)
digit_first (d ∷ ds) tail some h = record { digit = d; rest = ds ++ tail; is = refl; test = and-left (is_ascii_digit d) (list_all is_ascii_digit ds) h }

begins : (text : List ℕ) → IsVersion text → BeginsWithDigit text
begins text v =
    let p = v.spells in
    subst BeginsWithDigit (sym p.2) (digit_first (decimal p.0.0) _ (decimal_nonempty p.0.0 p.1.0) (decimal_is p.0.0 p.1.0))

no_v : (b : ℕ) → is_ascii_digit b ≡ true → (b == 118) ≡ false
no_v b h = grind (arith, nat_tests)

no_equal : (b : ℕ) → is_ascii_digit b ≡ true → (b == 61) ≡ false
no_equal b h = grind (arith, nat_tests)

bare_version : (text : List ℕ) → BeginsWithDigit text → text ≡ bare text
bare_version text d = rw (d.is, no_v d.digit d.test) refl

abbrev pub spelled_of : Parts → Spelled
spelled_of p = record { numbers = p.0 ∷ p.1 ∷ p.2 ∷ []; pre = p.3 }

pub version_partial : (text : List ℕ) → IsVersion text → partial_of text ≡ Some (spelled_of (parts_in text))
version_partial text v = sym (partial_full text text (parts_in text) (bare_version text (begins text v)) (version_reads text v))

at_least : (a : List ℕ) → sign_of (62 ∷ 61 ∷ a) ≡ (Some sign.GreaterOrEqual, a)
unfolding sign_of
at_least a = refl

less_than : (b : List ℕ) → BeginsWithDigit b → sign_of (60 ∷ b) ≡ (Some sign.Less, b)
unfolding sign_of
less_than b d = rw (d.is, no_equal d.digit d.test) refl

signed : (word tail : List ℕ) (s : Sign) → sign_of word ≡ (Some s, tail) → IsVersion tail →
    comparator_of word ≡ Some (record { sign = s; partial = spelled_of (parts_in tail) })
signed word tail s is v = rw (is, version_partial tail v) refl

not_alone : (word tail : List ℕ) (s : Sign) → sign_of word ≡ (Some s, tail) → BeginsWithDigit tail → lone_sign word ≡ None
not_alone word tail s is d = rw (is, d.is) refl

abbrev bounds : List ℕ → List ℕ → List Written
bounds a b = record { sign = sign.GreaterOrEqual; partial = spelled_of (parts_in a) } ∷ record { sign = sign.Less; partial = spelled_of (parts_in b) } ∷ []

bounds_read : (a b : List ℕ) → IsVersion a → IsVersion b → comparators_of ((62 ∷ 61 ∷ a) ∷ (60 ∷ b) ∷ []) ≡ Some (bounds a b)
bounds_read a b v w =
    one_word (62 ∷ 61 ∷ a) ((60 ∷ b) ∷ []) (not_alone (62 ∷ 61 ∷ a) a sign.GreaterOrEqual (at_least a) (begins a v))
    ∙ rw (signed (62 ∷ 61 ∷ a) a sign.GreaterOrEqual (at_least a) v, signed (60 ∷ b) b sign.Less (less_than b (begins b w)) w) refl

bounds_written : (a b : List ℕ) → IsVersion a → IsVersion b → written (62 ∷ 61 ∷ (a ++ 32 ∷ 60 ∷ b)) ≡ Some (bounds a b ∷ [])
unfolding written
bounds_written a b v w =
    let x : List ℕ = 62 ∷ 61 ∷ a in
    let y : List ℕ = 60 ∷ b in
    let bars = both (all_weaker is_version_byte no_bar byte_no_bar a (version_bytes a v)) (all_weaker is_version_byte no_bar byte_no_bar b
    (version_bytes b w)) in
    let words = two_words x y (omega arith) (omega arith) (all_weaker is_version_byte no_blank byte_no_blank a (version_bytes a v))
    (all_weaker is_version_byte no_blank byte_no_blank b (version_bytes b w)) in
    ap (each_of set_of) (one_set (x ++ 32 ∷ y) bars) ∙ ap (λ ws. joined (set_from ws) (Some [])) words ∙ ap (λ o. joined o (Some [])) (bounds_read a b v w)
  where
    both : list_all no_bar a ≡ true → list_all no_bar b ≡ true → list_all no_bar (a ++ 32 ∷ 60 ∷ b) ≡ true
    both h k = all_both no_bar a (32 ∷ 60 ∷ b) h k

pair : (x y l e f : Bool) → e ≡ false → f ≡ false → ((((x && (y && true)) && (l || (e || (f || false))))) || false) ≡ ((x && y) && l)
pair true true true e f h k = refl
pair true true false e f h k = rw (h, k) refl
pair true false l e f h k = refl
pair false y l e f h k = refl

pub none_let_in : (p q : Parts) (s : Sign) → q.3 ≡ [] → lets_pre_in p (record { sign = s; partial = spelled_of q }) ≡ false
none_let_in p q s plain = rw plain refl

bounds_value : (p : Parts) (a b : List ℕ) → (parts_in a).3 ≡ [] → (parts_in b).3 ≡ []
    → list_any (meets_set p) (bounds a b ∷ []) ≡ ((is_ge (precedence p (parts_in a)) && is_lt (precedence p (parts_in b))) && (length p.3 == 0))
bounds_value p a b plain also =
    pair (is_ge (precedence p (parts_in a))) (is_lt (precedence p (parts_in b))) (length p.3 == 0) _ _ (none_let_in p (parts_in a) sign.GreaterOrEqual plain)
    (none_let_in p (parts_in b) sign.Less also)

pub ge_is : (r : Ordering) → is_ge r ≡ true → r ≢ Less
ge_is Less h = cc h
ge_is Equal h = λ e. cc e
ge_is Greater h = λ e. cc e

pub is_ge_of : (r : Ordering) → r ≢ Less → is_ge r ≡ true
is_ge_of Less h = absurd (h refl)
is_ge_of Equal h = refl
is_ge_of Greater h = refl

lt_is : (r : Ordering) → is_lt r ≡ true → r ≡ Less
lt_is Less h = refl
lt_is Equal h = cc h
lt_is Greater h = cc h

is_lt_of : (r : Ordering) → r ≡ Less → is_lt r ≡ true
is_lt_of r h = rw h refl

between_at : (text a b version : List ℕ) → written text ≡ Some (bounds a b ∷ []) → (parts_in a).3 ≡ [] → (parts_in b).3 ≡ [] →
    IsInRange version text ↔ IsBetween version a b
between_at text a b version is plain also =
    let p = parts_in version in
    let low = is_ge (precedence p (parts_in a)) in
    let high = is_lt (precedence p (parts_in b)) in (
      λ m.
          let same : m.0 ≡ bounds a b ∷ [] = same_value m.0 (bounds a b ∷ []) (sym m.1 ∙ is) in
          let h : ((low && high) && (length p.3 == 0)) ≡ true = sym (bounds_value p a b plain also)
          ∙ subst (λ sets. list_any (meets_set p) sets ≡ true) same m.2 in
          let two = and-left (low && high) (length p.3 == 0) h in
          record {
            plain = no_pre p.3 (and-right (low && high) (length p.3 == 0) h);
            not_below = ge_is (precedence p (parts_in a)) (and-left low high two);
            below = lt_is (precedence p (parts_in b)) (and-right low high two);
          },
      λ k. (
        bounds a b ∷ [],
        is,
        bounds_value p a b plain also ∙ both_true (low && high) (length p.3 == 0)
            (both_true low high (is_ge_of (precedence p (parts_in a)) k.not_below) (is_lt_of (precedence p (parts_in b)) k.below)) (is_no_pre p.3 k.plain),
      ),
    )

pub between_holds : (a b version : List ℕ) → IsPlain a → IsPlain b → IsInRange version (codes ">=" ++ a ++ codes " <" ++ b) ↔ IsBetween version a b
between_holds a b version low high =
    let text : List ℕ = 62 ∷ 61 ∷ (a ++ 32 ∷ 60 ∷ b) in
    let is : written (codes ">=" ++ a ++ codes " <" ++ b) ≡ Some (bounds a b ∷ []) =
    ap (λ (t : List ℕ). written (62 ∷ 61 ∷ t)) (append_assoc a (32 ∷ 60 ∷ []) b) ∙ bounds_written a b low.version high.version in
    between_at (codes ">=" ++ a ++ codes " <" ++ b) a b version is low.plain high.plain
