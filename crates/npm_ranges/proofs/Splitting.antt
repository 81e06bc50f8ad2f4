-- How words and sets are taken off the beginning of a text.
use Rattle.std.proofs.Common.{◌≡◌, ℕ, zero, suc, ◌+◌, ◌-◌, ◌≤◌, ◌<◌, List, [], ◌∷◌, length, take, drop, get_or, Some, None, Bool, true, false, not, refl, sym}
use Rattle.std.proofs.Common.{ap, ◌∙◌, subst, add-zero, inl, inr, arith}
use Rattle.std.specs.Cmp.Lexicographic.{pointwise}
use Rattle.std.specs.Prelude.{◌≢◌, nat_eq, ◌&&◌, ◌==◌, nat_lt, position}
use Rattle.std.specs.List.{slice_split}
use Rattle.std.proofs.lemmas.Bool.{cases_Bool, cases_lt, lt-ltb, false≢true}
use Rattle.std.proofs.lemmas.List.{drop_all, drop_more, get_or-drop, length-drop, length-take-le, take_all}
use Rattle.std.proofs.lemmas.List.Splits.{slice_split_first}
use Rattle.std.proofs.lemmas.List.Sums.{fails_before_first, passes_at_first}
use Rattle.npm_ranges.specs.Grammar.{hyphen_ends, is_blank, sets_of, words_of}
use Rattle.npm_ranges.specs.Views.{IsFirstWord, bars_at, begins_bars}
use Rattle.npm_ranges.proofs.Partials.{position_none, position_some, split_none}

-- ---- words

pub words_nil : words_of [] ≡ []
unfolding words_of
words_nil = refl

-- a blank at the beginning
pub words_blank : (b : ℕ) (rest : List ℕ) → is_blank b ≡ true → words_of (b ∷ rest) ≡ words_of rest
unfolding words_of
words_blank b rest blank = rw blank refl

skip : (text : List ℕ) (n : ℕ) → n ≤ length text → ((k : ℕ) → k < n → is_blank (get_or text k 0) ≡ true) → words_of text ≡ words_of (drop n text)
skip text zero within h = refl
skip [] (suc n) within h = absurd (omega arith)
skip (b ∷ rest) (suc n) within h = words_blank b rest (h 0 (omega arith)) ∙ skip rest n (omega arith) (λ k below. h (suc k) (omega arith))

not_false : (b : Bool) → not b ≡ false → b ≡ true
not_false true h = refl
not_false false h = cc h

pub not_true : (b : Bool) → not b ≡ true → b ≡ false
not_true true h = cc h
not_true false h = refl

-- no word
pub no_word : (text : List ℕ) → position (λ b. not (is_blank b)) text ≡ None → words_of text ≡ []
no_word text none =
    let past = position_none (λ b. not (is_blank b)) text none in
    skip text (length text) (omega arith) (λ k below. not_false _ (fails_before_first (λ b. not (is_blank b)) text k 0 (omega arith)))
    ∙ ap words_of (drop_all (length text) text (omega arith)) ∙ words_nil

-- a word that no blank ends
word_last : (tail : List ℕ) → 0 < length tail → position is_blank tail ≡ None → words_of tail ≡ tail ∷ []
unfolding words_of
word_last tail some none = rw (split_none is_blank tail none, lt-ltb 0 (length tail) some) refl

-- a word that a blank ends
word_next : (tail : List ℕ) (end : ℕ) → 0 < end → position is_blank tail ≡ Some end → words_of tail ≡ take end tail ∷ words_of (drop (end + 1) tail)
unfolding words_of
word_next tail end some is =
    let at = position_some is_blank tail end is in
    let split : slice_split is_blank tail ≡ take end tail ∷ slice_split is_blank (drop (end + 1) tail) =
    slice_split_first is_blank tail 0 (rw at.1 at.0) ∙ ap (λ n. take n tail ∷ slice_split is_blank (drop (n + 1) tail)) at.1 in
    let size : length (take end tail) ≡ end = length-take-le end tail (omega arith) in
    let long : nat_lt 0 (length (take end tail)) ≡ true = rw size (lt-ltb 0 end some) in
    rw (split, long) refl

-- the text from its first word on
at_word : (text : List ℕ) (start : ℕ) → position (λ b. not (is_blank b)) text ≡ Some start
    → (words_of text ≡ words_of (drop start text)) × (start < length text) × (is_blank (get_or text start 0) ≡ false)
at_word text start is =
    let at = position_some (λ b. not (is_blank b)) text start is in (
      skip text start (omega arith) (λ k below. not_false _ (fails_before_first (λ b. not (is_blank b)) text k 0 (rw at.1 below))),
      at.0,
      not_true _ (subst (λ n. not (is_blank (get_or text n 0)) ≡ true) at.1 (passes_at_first (λ b. not (is_blank b)) text 0 (rw at.1 at.0))),
    )

pub first_word_last : (text tail rest : List ℕ) (start : ℕ) → position (λ b. not (is_blank b)) text ≡ Some start → tail ≡ drop start text →
    position is_blank tail ≡ None → rest ≡ []
    → IsFirstWord text tail rest
first_word_last text tail rest start is from none empty =
    let at = at_word text start is in
    let size : length tail ≡ length text - start = ap length from ∙ length-drop start text in
    let some : 0 < length tail = omega arith in
    record {
      words = at.0 ∙ ap words_of (sym from) ∙ word_last tail some none ∙ ap (λ ws. tail ∷ ws) (sym (ap words_of empty ∙ words_nil));
      shorter = rw empty (omega arith);
    }

pub first_word_next : (text tail word rest : List ℕ) (start end : ℕ) → position (λ b. not (is_blank b)) text ≡ Some start → tail ≡ drop start text →
    position is_blank tail ≡ Some end
    → word ≡ take end tail → rest ≡ drop (end + 1) tail → IsFirstWord text word rest
first_word_next text tail word rest start end is from ends first_is rest_are =
    let at = at_word text start is in
    let e = position_some is_blank tail end ends in
    let first : is_blank (get_or tail 0 0) ≡ false = ap (λ t. is_blank (get_or t 0 0)) from ∙ ap is_blank (get_or-drop start text 0 0)
    ∙ ap (λ k. is_blank (get_or text k 0)) (add-zero start) ∙ at.2 in
    let last : is_blank (get_or tail end 0) ≡ true = subst (λ n. is_blank (get_or tail n 0) ≡ true) e.1 (passes_at_first is_blank tail 0 (rw e.1 e.0)) in
    let some : 0 < end = elim (cases_lt 0 end) [
      | inl some ↦ some
      | inr none ↦ let zero_is : end ≡ 0 = omega arith in absurd (false≢true (sym first ∙ subst (λ n. is_blank (get_or tail n 0) ≡ true) zero_is last))
    ] in
    let size : length tail ≡ length text - start = ap length from ∙ length-drop start text in
    let less : length rest ≡ length tail - (end + 1) = ap length rest_are ∙ length-drop (end + 1) tail in
    record {
      words = at.0 ∙ ap words_of (sym from) ∙ word_next tail end some ends ∙ rw (← first_is, ← rest_are) refl;
      shorter = omega arith;
    }

-- ---- sets

pub bars_next : (text : List ℕ) (i : ℕ) → i < length text → begins_bars (drop i text) ≡ false → bars_at (drop i text) ≡ 1 + bars_at (drop (i + 1) text)
unfolding bars_at
bars_next text i below none =
    let e = drop_more text i 0 below in
    let n : begins_bars (get_or text i 0 ∷ drop (i + 1) text) ≡ false = subst (λ t. begins_bars t ≡ false) e none in
    ap bars_at e ∙ rw n (omega arith)

pub bars_here : (text : List ℕ) (i : ℕ) → i < length text → begins_bars (drop i text) ≡ true → bars_at (drop i text) ≡ 0
unfolding bars_at
bars_here text i below is =
    let e = drop_more text i 0 below in
    let n : begins_bars (get_or text i 0 ∷ drop (i + 1) text) ≡ true = subst (λ t. begins_bars t ≡ true) e is in
    ap bars_at e ∙ rw n refl

pub bars_past : (text : List ℕ) (i : ℕ) → length text ≤ i → bars_at (drop i text) ≡ 0
unfolding bars_at
bars_past text i past = ap bars_at (drop_all i text past)

pub bars_none : (text : List ℕ) → bars_at text ≡ length text → sets_of text ≡ text ∷ []
unfolding bars_at sets_of
bars_none [] e = refl
bars_none (x ∷ []) e = refl
bars_none (x ∷ y ∷ rest) e = elim (cases_Bool (x == 124 && y == 124)) [
  | inl here ↦ absurd (omega (arith, rw here at e))
  | inr none ↦ rw (none, bars_none (y ∷ rest) (omega (arith, rw none at e))) refl
]

pub bars_some : (text : List ℕ) → bars_at text < length text → (bars_at text + 2 ≤ length text) ×
    (sets_of text ≡ take (bars_at text) text ∷ sets_of (drop (bars_at text + 2) text))
unfolding bars_at sets_of
bars_some [] e = absurd (omega arith)
bars_some (x ∷ []) e = absurd (omega arith)
bars_some (x ∷ y ∷ rest) e = elim (cases_Bool (x == 124 && y == 124)) [
  | inl here ↦ rw here (omega arith, refl)
  | inr none ↦
      let more = bars_some (y ∷ rest) (omega (arith, rw none at e)) in
      let plus : suc (bars_at (y ∷ rest)) + 2 ≡ suc (bars_at (y ∷ rest) + 2) = omega arith in
      rw none (omega (arith, more.0), rw (plus, more.1) refl)
]

pub bars_within : (text : List ℕ) → bars_at text ≤ length text
unfolding bars_at
bars_within [] = omega arith
bars_within (x ∷ rest) = elim (cases_Bool (begins_bars (x ∷ rest))) [
  | inl here ↦ rw here (omega arith)
  | inr none ↦ let more = bars_within rest in rw none (omega arith)
]

-- the rest of a text, as slicing gives it
pub rest_is : (text : List ℕ) (n : ℕ) → take (length text - n) (drop n text) ≡ drop n text
rest_is text n = take_all (length text - n) (drop n text) (omega (arith, length-drop n text))

-- nothing is left behind a text
pub rest_none : (text : List ℕ) → take (length text - length text) (drop (length text) text) ≡ []
rest_none text = rest_is text (length text) ∙ drop_all (length text) text (omega arith)

pub bars_fit : (text : List ℕ) → bars_at text ≢ length text → bars_at text + 2 ≤ length text
bars_fit text other = let within = bars_within text in (bars_some text (omega arith)).0

-- three words or more whose second is no hyphen
pub no_hyphen : (first middle last : List ℕ) (words : List (List ℕ)) → pointwise nat_eq middle (45 ∷ []) ≡ false →
    hyphen_ends (first ∷ middle ∷ last ∷ words) ≡ None
no_hyphen first middle last [] other = rw other refl
no_hyphen first middle last (next ∷ words) other = refl
