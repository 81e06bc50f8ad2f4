-- How a text of comparators is read.
use Rattle.std.proofs.Common.{◌≡◌, ℕ, ◌<◌, List, [], ◌∷◌, ◌++◌, length, Option, Some, None, Bool, true, false, refl, sym, ap, ◌∙◌, subst, arith, append_assoc}
use Rattle.std.proofs.Common.{append-nil, inl, inr, unwrap_or}
use Rattle.std.specs.Prelude.{◌||◌, ◌==◌, nat_eq, ⊤}
use Rattle.std.specs.Cmp.Lexicographic.{pointwise}
use Rattle.std.specs.List.{list_all}
use Rattle.std.proofs.lemmas.Bool.{cases_Bool, lt-ltb}
use Rattle.std.proofs.lemmas.Bool.Decides.{nat_tests}
use Rattle.semver.proofs.Segments.{and-left, and-right}
use Rattle.semver.specs.OrderLaws.{same_text}
use Rattle.semver.specs.Parse.{digits_from}
use Rattle.npm_ranges.specs.declared.comparator.Sign.{Sign}
use Rattle.npm_ranges.specs.declared.comparator.Sign.TheVariants as sign
use Rattle.npm_ranges.specs.Grammar.{Spelled, Written, by_sign, comparator_of, comparators_of, each_of, hyphen_ends, hyphen_or, is_blank, joined, lone_sign}
use Rattle.npm_ranges.specs.Grammar.{number_of, partial_of, parts_partial, set_from, set_of, sign_of, with_sign, words_of, written}
use Rattle.npm_ranges.specs.Laws.{SpellAll, SpelledIsRead, Spelling, IsSpellingOf, sign_text, spelling_text, spellings_text}
use Rattle.npm_ranges.proofs.Ascii.{is_partial_byte, partial_bytes}
use Rattle.npm_ranges.proofs.Holding.{no_bar, no_blank, one_set, split_one, split_two}
use Rattle.npm_ranges.proofs.Reading.{lone_next, no_partial, one_word}
use Rattle.npm_ranges.proofs.Splitting.{words_blank, words_nil}
use Rattle.npm_ranges.proofs.VersionTexts.{all_both, all_weaker}

-- ---- words of a text

words_past : (blanks text : List ℕ) → list_all is_blank blanks ≡ true → words_of (blanks ++ text) ≡ words_of text
words_past [] text h = refl
words_past (b ∷ rest) text h = words_blank b (rest ++ text) (and-left (is_blank b) (list_all is_blank rest) h)
    ∙ words_past rest text (and-right (is_blank b) (list_all is_blank rest) h)

-- nothing, or a blank first
abbrev Ends : List ℕ → Type 0
Ends [] = ⊤
Ends (b ∷ rest) = is_blank b ≡ true

word_first : (word rest : List ℕ) → 0 < length word → list_all no_blank word ≡ true → Ends rest → words_of (word ++ rest) ≡ word ∷ words_of rest
unfolding words_of
word_first word [] some h ends = ap words_of (append-nil word) ∙ rw (split_one word h, lt-ltb 0 (length word) some) refl
word_first word (b ∷ rest) some h ends = rw (split_two word b rest ends h, lt-ltb 0 (length word) some, ends) refl

-- ---- the text of a partial

no_blank_in : (b : ℕ) → is_partial_byte b ≡ true → no_blank b ≡ true
no_blank_in b h = grind (arith, nat_tests)

no_bar_in : (b : ℕ) → is_partial_byte b ≡ true → no_bar b ≡ true
no_bar_in b h = grind (arith, nat_tests)

abbrev is_sign_byte : ℕ → Bool
is_sign_byte b = b == 61 || b == 60 || b == 62 || b == 126 || b == 94

no_sign_in : (b : ℕ) → is_partial_byte b ≡ true → is_sign_byte b ≡ false
no_sign_in b h = grind (arith, nat_tests)

record IsPartialText (word : List ℕ) : Type 0 where
  first : ℕ
  rest : List ℕ
  is : word ≡ first ∷ rest
  no_sign : is_sign_byte first ≡ false
  no_blanks : list_all no_blank word ≡ true
  no_bars : list_all no_bar word ≡ true

text_of_partial : (word : List ℕ) (p : Spelled) → partial_of word ≡ Some p → IsPartialText word
text_of_partial [] p h = absurd (let none : None ≡ Some p = sym no_partial ∙ h in cc)
text_of_partial (b ∷ rest) p h =
    let bytes = partial_bytes (b ∷ rest) p h in
    record {
      first = b;
      rest = rest;
      is = refl;
      no_sign = no_sign_in b (and-left (is_partial_byte b) (list_all is_partial_byte rest) bytes);
      no_blanks = all_weaker is_partial_byte no_blank no_blank_in (b ∷ rest) bytes;
      no_bars = all_weaker is_partial_byte no_bar no_bar_in (b ∷ rest) bytes;
    }

-- ---- signs

record HasNoSign (b : ℕ) : Type 0 where
  equal : (b == 61) ≡ false
  less : (b == 60) ≡ false
  greater : (b == 62) ≡ false
  tilde : (b == 126) ≡ false
  caret : (b == 94) ≡ false

each_false : (a b c d e : Bool) → (a || b || c || d || e) ≡ false → (a ≡ false) × (b ≡ false) × (c ≡ false) × (d ≡ false) × (e ≡ false)
each_false false false false false false h = (refl, refl, refl, refl, refl)
each_false true b c d e h = absurd (cc)
each_false false true c d e h = absurd (cc)
each_false false false true d e h = absurd (cc)
each_false false false false true e h = absurd (cc)
each_false false false false false true h = absurd (cc)

has_no_sign : (b : ℕ) → is_sign_byte b ≡ false → HasNoSign b
has_no_sign b h =
    let parts = each_false (b == 61) (b == 60) (b == 62) (b == 126) (b == 94) h in
    record { equal = parts.0; less = parts.1; greater = parts.2; tilde = parts.3; caret = parts.4 }

none_signed : (b : ℕ) (rest : List ℕ) → HasNoSign b → sign_of (b ∷ rest) ≡ (None, b ∷ rest)
unfolding sign_of
none_signed b rest h = rw (h.equal, h.less, h.greater, h.tilde, h.caret) refl

signed_at : (s : Sign) (b : ℕ) (rest : List ℕ) → HasNoSign b → sign_of (sign_text (Some s) ++ b ∷ rest) ≡ (Some s, b ∷ rest)
unfolding sign_of
signed_at sign.Equal b rest h = refl
signed_at sign.Less b rest h = rw h.equal refl
signed_at sign.LessOrEqual b rest h = refl
signed_at sign.Greater b rest h = rw h.equal refl
signed_at sign.GreaterOrEqual b rest h = refl
signed_at sign.Tilde b rest h = refl
signed_at sign.Caret b rest h = refl

alone_signed : (s : Sign) → lone_sign (sign_text (Some s)) ≡ Some s
unfolding sign_of
alone_signed sign.Equal = refl
alone_signed sign.Less = refl
alone_signed sign.LessOrEqual = refl
alone_signed sign.Greater = refl
alone_signed sign.GreaterOrEqual = refl
alone_signed sign.Tilde = refl
alone_signed sign.Caret = refl

sign_no_blank : (s : Sign) → (list_all no_blank (sign_text (Some s)) ≡ true) × (0 < length (sign_text (Some s))) × (list_all no_bar (sign_text (Some s)) ≡ true)
sign_no_blank sign.Equal = (refl, omega arith, refl)
sign_no_blank sign.Less = (refl, omega arith, refl)
sign_no_blank sign.LessOrEqual = (refl, omega arith, refl)
sign_no_blank sign.Greater = (refl, omega arith, refl)
sign_no_blank sign.GreaterOrEqual = (refl, omega arith, refl)
sign_no_blank sign.Tilde = (refl, omega arith, refl)
sign_no_blank sign.Caret = (refl, omega arith, refl)

-- ---- the comparator at the beginning

given : (c : Written) (s : Sign) (partial : List ℕ) → c.sign ≡ s → partial_of partial ≡ Some c.partial → with_sign s (partial_of partial) ≡ Some c
given c s partial same is = ap (with_sign s) is ∙ (λ i. Some (record { sign = sym same i; partial = c.partial }))

plain_comparator : (c : Written) (word : List ℕ) → IsPartialText word → c.sign ≡ sign.Equal → partial_of word ≡ Some c.partial → (lone_sign word ≡ None) ×
    (comparator_of word ≡ Some c)
plain_comparator c word t same is =
    let signs : sign_of word ≡ (None, word) = ap sign_of t.is ∙ none_signed t.first t.rest (has_no_sign t.first t.no_sign)
    ∙ ap (λ (w : List ℕ). (None, w)) (sym t.is) in
    (rw signs refl, rw signs (given c sign.Equal word same is))

signed_comparator : (c : Written) (s : Sign) (word : List ℕ) → IsPartialText word → c.sign ≡ s → partial_of word ≡ Some c.partial
    → (lone_sign (sign_text (Some s) ++ word) ≡ None) × (comparator_of (sign_text (Some s) ++ word) ≡ Some c)
signed_comparator c s word t same is =
    let signs : sign_of (sign_text (Some s) ++ word) ≡ (Some s, t.first ∷ t.rest) = ap (λ w. sign_of (sign_text (Some s) ++ w)) t.is
    ∙ signed_at s t.first t.rest (has_no_sign t.first t.no_sign) in
    (rw signs refl, rw signs (given c s (t.first ∷ t.rest) same (ap partial_of (sym t.is) ∙ is)))

some_text : (word : List ℕ) → IsPartialText word → 0 < length word
some_text word t = omega (arith, ap length t.is)

longer : (x word : List ℕ) → 0 < length x → 0 < length (x ++ word)
longer [] word h = absurd (omega arith)
longer (b ∷ rest) word h = omega arith

one_more : (o : Option Sign) (blanks partial rest : List ℕ) (c : Written) → c.sign ≡ unwrap_or o sign.Equal → list_all is_blank blanks ≡ true →
    partial_of partial ≡ Some c.partial → Ends rest
    → comparators_of (words_of (sign_text o ++ (blanks ++ (partial ++ rest)))) ≡ joined (Some c) (comparators_of (words_of rest))
one_more None blanks partial rest c same blank is ends =
    let t = text_of_partial partial c.partial is in
    let both = plain_comparator c partial t same is in
    ap comparators_of (words_past blanks (partial ++ rest) blank ∙ word_first partial rest (some_text partial t) t.no_blanks ends)
    ∙ one_word partial (words_of rest) both.0 ∙ ap (λ o. joined o (comparators_of (words_of rest))) both.1
one_more (Some s) [] partial rest c same blank is ends =
    let t = text_of_partial partial c.partial is in
    let both = signed_comparator c s partial t same is in
    let x = sign_text (Some s) in
    let marks = sign_no_blank s in
    ap (λ w. comparators_of (words_of w)) (sym (append_assoc x partial rest))
    ∙ ap comparators_of (word_first (x ++ partial) rest (longer x partial marks.1) (all_both no_blank x partial marks.0 t.no_blanks) ends)
    ∙ one_word (x ++ partial) (words_of rest) both.0 ∙ ap (λ o. joined o (comparators_of (words_of rest))) both.1
one_more (Some s) (b ∷ blanks) partial rest c same blank is ends =
    let t = text_of_partial partial c.partial is in
    let x = sign_text (Some s) in
    let marks = sign_no_blank s in
    let behind : words_of ((b ∷ blanks) ++ (partial ++ rest)) ≡ partial ∷ words_of rest =
    words_past (b ∷ blanks) (partial ++ rest) blank ∙ word_first partial rest (some_text partial t) t.no_blanks ends in
    ap comparators_of (word_first x ((b ∷ blanks) ++ (partial ++ rest)) marks.1 marks.0 (and-left (is_blank b) (list_all is_blank blanks) blank))
    ∙ lone_next x partial (words_of ((b ∷ blanks) ++ (partial ++ rest))) (words_of rest) s (alone_signed s) behind
    ∙ ap (λ o. joined o (comparators_of (words_of rest))) (given c s partial same is)

ends_with : (behind rest : List ℕ) → list_all is_blank behind ≡ true → (0 < length rest → 0 < length behind) → Ends (behind ++ rest)
ends_with [] [] h some = tt
ends_with [] (b ∷ rest) h some = let no : 0 < 0 = some (omega arith) in absurd (omega arith)
ends_with (b ∷ behind) rest h some = and-left (is_blank b) (list_all is_blank behind) h

text_some : (ss : List Spelling) (cs : List Written) → SpellAll ss cs → 0 < length (spellings_text ss) → 0 < length ss
text_some [] cs h some = some
text_some (s ∷ ss) cs h some = omega arith

spelled_again : (s : Spelling) (rest : List ℕ) → spelling_text s ++ rest ≡ sign_text s.sign ++ (s.blanks ++ (s.partial ++ (s.behind ++ rest)))
spelled_again s rest =
    append_assoc (sign_text s.sign) (s.blanks ++ (s.partial ++ s.behind)) rest
    ∙ ap (λ w. sign_text s.sign ++ w) (append_assoc s.blanks (s.partial ++ s.behind) rest ∙ ap (λ w. s.blanks ++ w) (append_assoc s.partial s.behind rest))

all_read : (ss : List Spelling) (cs : List Written) → SpellAll ss cs → comparators_of (words_of (spellings_text ss)) ≡ Some cs
all_read [] [] h = ap comparators_of words_nil
all_read [] (c ∷ cs) h = absurd h
all_read (s ∷ ss) [] h = absurd h
all_read (s ∷ ss) (c ∷ cs) h =
    let rest = spellings_text ss in
    let ends = ends_with s.behind rest h.0.behind (λ some. h.1 (text_some ss cs h.2 some)) in
    ap (λ w. comparators_of (words_of w)) (spelled_again s rest)
    ∙ one_more s.sign s.blanks s.partial (s.behind ++ rest) c h.0.sign h.0.blanks h.0.partial ends
    ∙ ap (λ ws. joined (Some c) (comparators_of ws)) (words_past s.behind rest h.0.behind)
    ∙ ap (joined (Some c)) (all_read ss cs h.2)

-- ---- comparators are no hyphen range

hyphen_no_partial : partial_of (45 ∷ []) ≡ None
unfolding partial_of parts_partial number_of digits_from
hyphen_no_partial = refl

hyphen_no_comparator : comparator_of (45 ∷ []) ≡ None
unfolding sign_of
hyphen_no_comparator = ap (with_sign sign.Equal) hyphen_no_partial

hyphen_not_alone : lone_sign (45 ∷ []) ≡ None
unfolding sign_of
hyphen_not_alone = refl

none_behind : {A : Type 0} (o : Option A) → joined o None ≡ None
none_behind None = refl
none_behind (Some x) = refl

hyphen_unread : (o : Option Sign) (first last : List ℕ) → by_sign o first (45 ∷ []) (comparators_of (last ∷ [])) (comparators_of ((45 ∷ []) ∷ last ∷ [])) ≡ None
hyphen_unread (Some s) first last = rw hyphen_no_partial refl
hyphen_unread None first last =
    let behind : comparators_of ((45 ∷ []) ∷ last ∷ []) ≡ None = one_word (45 ∷ []) (last ∷ []) hyphen_not_alone ∙ rw hyphen_no_comparator refl in
    ap (joined (comparator_of first)) behind ∙ none_behind (comparator_of first)

no_hyphen : (words : List (List ℕ)) (cs : List Written) → comparators_of words ≡ Some cs → hyphen_ends words ≡ None
no_hyphen [] cs h = refl
no_hyphen (first ∷ []) cs h = refl
no_hyphen (first ∷ middle ∷ []) cs h = refl
no_hyphen (first ∷ middle ∷ last ∷ []) cs h = elim (cases_Bool (pointwise nat_eq middle (45 ∷ []))) [
  | inl hyphen ↦
      let read = subst (λ m. comparators_of (first ∷ m ∷ last ∷ []) ≡ Some cs) (same_text middle (45 ∷ []) hyphen) h in
      let none : None ≡ Some cs = sym (hyphen_unread (lone_sign first) first last) ∙ read in
      absurd (cc)
  | inr other ↦ rw other refl
]
no_hyphen (first ∷ middle ∷ last ∷ next ∷ words) cs h = refl

set_is : (words : List (List ℕ)) (cs : List Written) → comparators_of words ≡ Some cs → 0 < length cs → set_from words ≡ Some cs
set_is [] cs h some = let none : [] ≡ cs = cc in absurd (omega (arith, ap length none))
set_is (word ∷ words) cs h some = ap (λ o. hyphen_or o (comparators_of (word ∷ words))) (no_hyphen (word ∷ words) cs h) ∙ h

-- ---- one set

blank_no_bar : (b : ℕ) → is_blank b ≡ true → no_bar b ≡ true
blank_no_bar b h = grind (arith, nat_tests)

sign_no_bar : (o : Option Sign) → list_all no_bar (sign_text o) ≡ true
sign_no_bar None = refl
sign_no_bar (Some s) = (sign_no_blank s).2

spelling_no_bar : (s : Spelling) (c : Written) → IsSpellingOf s c → list_all no_bar (spelling_text s) ≡ true
spelling_no_bar s c h =
    let blanks = all_weaker is_blank no_bar blank_no_bar s.blanks h.blanks in
    let behind = all_weaker is_blank no_bar blank_no_bar s.behind h.behind in
    all_both no_bar (sign_text s.sign) _ (sign_no_bar s.sign) (all_both no_bar s.blanks _ blanks (all_both no_bar s.partial s.behind
    (text_of_partial s.partial c.partial h.partial).no_bars behind))

spellings_no_bar : (ss : List Spelling) (cs : List Written) → SpellAll ss cs → list_all no_bar (spellings_text ss) ≡ true
spellings_no_bar [] cs h = refl
spellings_no_bar (s ∷ ss) [] h = absurd h
spellings_no_bar (s ∷ ss) (c ∷ cs) h = all_both no_bar (spelling_text s) (spellings_text ss) (spelling_no_bar s c h.0) (spellings_no_bar ss cs h.2)

as_many : (ss : List Spelling) (cs : List Written) → SpellAll ss cs → 0 < length ss → 0 < length cs
as_many [] cs h some = absurd (omega arith)
as_many (s ∷ ss) [] h some = absurd h
as_many (s ∷ ss) (c ∷ cs) h some = omega arith

pub spelled_is_read : SpelledIsRead
unfolding written
spelled_is_read prefix ss cs blank h some =
    let text = prefix ++ spellings_text ss in
    let bars = all_both no_bar prefix (spellings_text ss) (all_weaker is_blank no_bar blank_no_bar prefix blank) (spellings_no_bar ss cs h) in
    let set = ap set_from (words_past prefix (spellings_text ss) blank) ∙ set_is (words_of (spellings_text ss)) cs (all_read ss cs h) (as_many ss cs h some) in
    ap (each_of set_of) (one_set text bars) ∙ ap (λ o. joined o (Some [])) set
