-- What is read of a text in UTF-8 has its texts and keys in UTF-8.
use Rattle.std.proofs.Common.{◌≡◌, ℕ, zero, suc, ◌+◌, ◌-◌, ◌<◌, Bool, true, false, cond, ◌&&◌, ◌||◌, ◌==◌, List, [], ◌∷◌, ◌++◌, length, drop, get_or, Option}
use Rattle.std.proofs.Common.{Some, None, option_and_then, refl, sym, subst, arith, append_assoc, append-nil, eqb-true, lit<, IsUtf8}
use Rattle.std.specs.Prelude.{⊤, nat_eq, nat_lt}
use Rattle.std.specs.List.{starts_with}
use Rattle.std.specs.Char.{digit_value, is_digit, encode_utf8, IsScalar}
use Rattle.std.proofs.Math.Seq.{take-append_seam, drop-append-add, get_or-append_seam}
use Rattle.std.proofs.lemmas.Bool.{and_parts, cond_both, ltb-true}
use Rattle.std.proofs.lemmas.Bool.Decides.{nat_tests}
use Rattle.std.proofs.lemmas.List.{length-append}
use Rattle.std.proofs.lemmas.Str.{IsUtf8-append, IsUtf8-encode, IsUtf8-from_ascii, IsUtf8-take, IsUtf8-drop, IsCharBoundary-before_ascii}
use Rattle.std.proofs.lemmas.Str.{IsCharBoundary-after_ascii}
use Rattle.std.proofs.lemmas.Str.Ascii.{IsAscii-cons, IsAscii-nil}
use Rattle.json.specs.Text.{Within, plain, after_backslash, after_u, after_high, content, prepend, code_unit, short_escape, is_high_surrogate}
use Rattle.json.specs.Text.{is_low_surrogate, surrogate_pair}
use Rattle.json.specs.Token.{Token, begin_object, end_object, begin_array, end_array, key, string, number, boolean, null, bad}
use Rattle.json.specs.Word.{head, is_operator, is_space, literal, number_before, after_number, ends_word, word}
use Rattle.json.specs.Lex.{Lexeme, token, comma, colon, Class, quote, backslash, operator, space, other, class, operator_lexeme, string_token, Mode, between}
use Rattle.json.specs.Lex.{in_word, in_string, in_escape, lex_byte, lex, Place, fresh, after_value, after_comma, after_key, begins_colon, may_begin}
use Rattle.json.specs.Lex.{may_close, if_allowed, place_token, punctuate, tokens}
use Rattle.json.specs.Ascii as ascii
use Rattle.json.specs.Json as json
use Rattle.serde_json.specs.Data.{Data, Members, no_members, put, item, array, object}
use Rattle.serde_json.specs.Data as datum
use Rattle.serde_json.specs.Read.{of_json, of_items, of_members, number_of, max_depth, read}
use Rattle.tree_core.specs.Regular.{HasUtf8, ItemsHaveUtf8, MembersHaveUtf8}
use Rattle.tree_core.proofs.Orderly.{Each, each_map, each_then}
use Rattle.tree_core.proofs.Puts.{put_utf8}

-- ---- a text may be cut at a byte below 128

cut : (p : List ℕ) (x : ℕ) (xs : List ℕ) → IsUtf8 (p ++ x ∷ xs) → x < 128 → IsUtf8 p × IsUtf8 xs
cut p x xs u low =
    let all = p ++ x ∷ xs in
    let i = length p in
    let here : get_or all i 0 < 128 = subst (λ y. y < 128) (sym (get_or-append_seam p x xs 0)) low in
    let within : i < length all = omega (arith, length-append p (x ∷ xs)) in (
      subst IsUtf8 (take-append_seam p (x ∷ xs)) (IsUtf8-take all i u (IsCharBoundary-before_ascii all i within here)),
      subst IsUtf8 (drop-append-add p (x ∷ xs) 1) (IsUtf8-drop all (i + 1) u (IsCharBoundary-after_ascii all i u within here)),
    )

-- behind each byte below 128 there is a text in UTF-8
abbrev EndsUtf8 : List ℕ → Type 0
EndsUtf8 [] = ⊤
EndsUtf8 (x ∷ xs) = (x < 128 → IsUtf8 xs) × EndsUtf8 xs

ends_from : (p xs : List ℕ) → IsUtf8 (p ++ xs) → EndsUtf8 xs
ends_from p [] u = tt
ends_from p (x ∷ xs) u = (λ low. (cut p x xs u low).1, ends_from (p ++ x ∷ []) xs (subst IsUtf8 (sym (append_assoc p (x ∷ []) xs)) u))

each_any : {A : Type 0} (o : Option A) → Each (λ a. ⊤) o
each_any None = tt
each_any (Some a) = tt

-- ---- the content of a string

-- what the text is behind p, by the place inside the string
abbrev Fits : Within → List ℕ → List ℕ → Type 0
Fits plain p xs = IsUtf8 (p ++ xs)
Fits after_backslash p xs = IsUtf8 p × IsUtf8 xs
Fits after_u p xs = IsUtf8 p × IsUtf8 xs
Fits (after_high h) p xs = IsUtf8 p × IsUtf8 xs × (is_high_surrogate h ≡ true)

abbrev Whole : List ℕ → Option (List ℕ) → Type 0
Whole p None = ⊤
Whole p (Some s) = IsUtf8 (p ++ s)

prepended : (p q : List ℕ) (o : Option (List ℕ)) → Whole (p ++ q) o → Whole p (prepend q o)
prepended p q None h = tt
prepended p q (Some s) h = subst IsUtf8 (append_assoc p q s) h

then_whole : (p : List ℕ) (f : ℕ → Option (List ℕ)) (o : Option ℕ) → ((c : ℕ) → o ≡ Some c → Whole p (f c)) → Whole p (option_and_then f o)
then_whole p f None h = tt
then_whole p f (Some c) h = h c refl

if_whole : (p : List ℕ) (b : Bool) (a o : Option (List ℕ)) → (b ≡ true → Whole p a) → (b ≡ false → Whole p o) → Whole p (cond b a o)
if_whole p b a o = cond_both b a o (Whole p)

hex_low : (x : ℕ) → is_digit x 16 ≡ true → (x < 128) × (digit_value x < 16)
hex_low x h = let small : digit_value x < 16 = ltb-true (digit_value x) 16 h in (grind (arith, nat_tests), small)

-- four digits spell a code unit below 65,536
record IsUnit (d u : ℕ) : Type 0 where
  low : d < 128
  small : u < 65536

unit_at : (b : Bool) (d v u : ℕ) → (b ≡ true → (d < 128) × (v < 65536)) → cond b (Some v) None ≡ Some u → IsUnit d u
unit_at true d v u h e = let same : v ≡ u = cc in record { low = (h refl).0; small = subst (λ n. n < 65536) same (h refl).1 }
unit_at false d v u h e = absurd (cc)

unit : (a b c d u : ℕ) → code_unit a b c d ≡ Some u → IsUnit d u
unfolding code_unit
unit a b c d u = unit_at (is_digit a 16 && is_digit b 16 && is_digit c 16 && is_digit d 16) d _ u (λ all.
    let last = and_parts (is_digit a 16 && is_digit b 16 && is_digit c 16) (is_digit d 16) all in
    let third = and_parts (is_digit a 16 && is_digit b 16) (is_digit c 16) last.0 in
    let second = and_parts (is_digit a 16) (is_digit b 16) third.0 in
    ((hex_low d last.1).0, omega (arith, (hex_low a second.0).1, (hex_low b second.1).1, (hex_low c third.1).1, (hex_low d last.1).1)))

-- what an escape stands for is ASCII, and so is its byte
abbrev Low : ℕ → Option ℕ → Type 0
Low x None = ⊤
Low x (Some c) = (c < 128) × (x < 128)

low_at : (x n c : ℕ) (o : Option ℕ) → n < 128 → c < 128 → Low x o → Low x (cond (x == n) (Some c) o)
low_at x n c o k l h = cond_both (x == n) (Some c) o (Low x) (λ e. (l, subst (λ y. y < 128) (sym (eqb-true x n e)) k)) (λ _. h)

itself_low : (x : ℕ) → ((x == 34) || (x == 92) || (x == 47)) ≡ true → x < 128
itself_low x e = grind (arith, nat_tests)

short_low : (x : ℕ) → Low x (short_escape x)
unfolding short_escape
short_low x = cond_both ((x == 34) || (x == 92) || (x == 47)) (Some x) _ (Low x) (λ e. let low = itself_low x e in (low, low))
    (λ _. low_at x 98 8 _ (lit< tt) (lit< tt) (low_at x 102 12 _ (lit< tt) (lit< tt) (low_at x 110 10 _ (lit< tt) (lit< tt) (low_at x 114 13 _ (lit< tt)
    (lit< tt) (low_at x 116 9 None (lit< tt) (lit< tt) tt)))))

short_is : (x c : ℕ) → short_escape x ≡ Some c → (c < 128) × (x < 128)
short_is x c e = subst (Low x) e (short_low x)

ascii_one : (c : ℕ) → c < 128 → IsUtf8 (c ∷ [])
ascii_one c low = IsUtf8-from_ascii (c ∷ []) (IsAscii-cons c [] low IsAscii-nil)

no_surrogate : (u : ℕ) → u < 65536 → is_high_surrogate u ≡ false → is_low_surrogate u ≡ false → IsScalar u
no_surrogate u small high low = grind (arith, nat_tests)

pair_scalar : (h l : ℕ) → is_high_surrogate h ≡ true → is_low_surrogate l ≡ true → IsScalar (surrogate_pair h l)
pair_scalar h l high low = grind (arith, nat_tests)

content_whole : (w : Within) (p xs : List ℕ) → Fits w p xs → Whole p (content w xs)
unfolding content
content_whole plain p [] h = tt
content_whole plain p (x ∷ xs) h =
    if_whole p (x == 34) (Some []) _ (λ e. subst IsUtf8 (sym (append-nil p)) (cut p x xs h (omega (arith, eqb-true x 34 e))).0)
    (λ _. if_whole p (x == 92) (content after_backslash xs) _ (λ e. content_whole after_backslash p xs (cut p x xs h (omega (arith, eqb-true x 92 e))))
    (λ _. if_whole p (nat_lt x 32) None _ (λ _. tt)
    (λ _. prepended p (x ∷ []) (content plain xs) (content_whole plain (p ++ x ∷ []) xs (subst IsUtf8 (sym (append_assoc p (x ∷ []) xs)) h)))))
content_whole after_backslash p [] h = tt
content_whole after_backslash p (x ∷ xs) h =
    if_whole p (x == 117) (content after_u xs) _ (λ e. content_whole after_u p xs (h.0, (cut [] x xs h.1 (omega (arith, eqb-true x 117 e))).1))
    (λ _. then_whole p (λ c. prepend (c ∷ []) (content plain xs)) (short_escape x) (λ c e.
    let low = short_is x c e in
    let behind = (cut [] x xs h.1 low.1).1 in
    prepended p (c ∷ []) (content plain xs) (content_whole plain (p ++ c ∷ []) xs (IsUtf8-append (p ++ c
    ∷ []) xs (IsUtf8-append p (c ∷ []) h.0 (ascii_one c low.0)) behind))))
content_whole after_u p [] h = tt
content_whole after_u p (a ∷ []) h = tt
content_whole after_u p (a ∷ b ∷ []) h = tt
content_whole after_u p (a ∷ b ∷ c ∷ []) h = tt
content_whole after_u p (a ∷ b ∷ c ∷ d ∷ xs) h =
    then_whole p (λ u. cond (is_high_surrogate u) (content (after_high u) xs) (cond (is_low_surrogate u) None (prepend (encode_utf8 u) (content plain xs))))
    (code_unit a b c d) (λ u e.
    let is = unit a b c d u e in
    let behind = (cut (a ∷ b ∷ c ∷ []) d xs h.1 is.low).1 in
    if_whole p (is_high_surrogate u) (content (after_high u) xs) _ (λ high. content_whole (after_high u) p xs (h.0, behind, high))
    (λ not_high. if_whole p (is_low_surrogate u) None _ (λ _. tt)
    (λ not_low. prepended p (encode_utf8 u) (content plain xs) (content_whole plain (p ++ encode_utf8 u) xs
    (IsUtf8-append (p ++ encode_utf8 u) xs (IsUtf8-append p (encode_utf8 u) h.0 (IsUtf8-encode u (no_surrogate u is.small not_high not_low))) behind)))))
content_whole (after_high high) p [] h = tt
content_whole (after_high high) p (s ∷ []) h = tt
content_whole (after_high high) p (s ∷ u ∷ []) h = tt
content_whole (after_high high) p (s ∷ u ∷ a ∷ []) h = tt
content_whole (after_high high) p (s ∷ u ∷ a ∷ b ∷ []) h = tt
content_whole (after_high high) p (s ∷ u ∷ a ∷ b ∷ c ∷ []) h = tt
content_whole (after_high high) p (s ∷ u ∷ a ∷ b ∷ c ∷ d ∷ xs) h =
    if_whole p ((s == 92) && (u == 117)) _ None (λ _.
    then_whole p (λ l. cond (is_low_surrogate l) (prepend (encode_utf8 (surrogate_pair high l)) (content plain xs)) None) (code_unit a b c d) (λ l e.
    let is = unit a b c d l e in
    let behind = (cut (s ∷ u ∷ a ∷ b ∷ c ∷ []) d xs h.1 is.low).1 in
    if_whole p (is_low_surrogate l) _ None (λ low. prepended p (encode_utf8 (surrogate_pair high l)) (content plain xs) (content_whole plain (p
    ++ encode_utf8 (surrogate_pair high l)) xs
    (IsUtf8-append (p ++ encode_utf8 (surrogate_pair high l)) xs (IsUtf8-append p (encode_utf8 (surrogate_pair high l)) h.0 (IsUtf8-encode
    (surrogate_pair high l) (pair_scalar high l h.2 low))) behind)))
    (λ _. tt)))
    (λ _. tt)

-- ---- tokens

abbrev TokenUtf8 : Token → Type 0
TokenUtf8 (key s) = IsUtf8 s
TokenUtf8 (string s) = IsUtf8 s
TokenUtf8 begin_object = ⊤
TokenUtf8 end_object = ⊤
TokenUtf8 begin_array = ⊤
TokenUtf8 end_array = ⊤
TokenUtf8 (number s) = ⊤
TokenUtf8 (boolean b) = ⊤
TokenUtf8 null = ⊤
TokenUtf8 bad = ⊤

abbrev LexemeUtf8 : Lexeme → Type 0
LexemeUtf8 (token t) = TokenUtf8 t
LexemeUtf8 comma = ⊤
LexemeUtf8 colon = ⊤

abbrev TokensUtf8 : List Token → Type 0
TokensUtf8 [] = ⊤
TokensUtf8 (t ∷ ts) = TokenUtf8 t × TokensUtf8 ts

abbrev LexemesUtf8 : List Lexeme → Type 0
LexemesUtf8 [] = ⊤
LexemesUtf8 (l ∷ ls) = LexemeUtf8 l × LexemesUtf8 ls

string_utf8 : (o : Option (List ℕ)) → Whole [] o → TokenUtf8 (string_token o)
string_utf8 None h = tt
string_utf8 (Some s) h = h

if_token : (b : Bool) (t u : Token) → TokenUtf8 t → TokenUtf8 u → TokenUtf8 (cond b t u)
if_token true t u h k = h
if_token false t u h k = k

number_utf8 : (t : List ℕ) (o : Option (List ℕ)) → TokenUtf8 (number_before t o)
number_utf8 t None = tt
number_utf8 t (Some rest) = if_token (ends_word rest) _ bad tt tt

literal_utf8 : (name : List ℕ) (u : Token) (t : List ℕ) → TokenUtf8 u → TokenUtf8 (literal name u t)
literal_utf8 name u t h = if_token (starts_with nat_eq t name && ends_word (drop (length name) t)) u bad h tt

word_utf8 : (t : List ℕ) → TokenUtf8 (word t)
unfolding word
word_utf8 t =
    let number = number_before t (after_number t) in
    let nothing = cond (head t == ascii.lower_n) (literal ascii.null_text null t) number in
    let no = cond (head t == ascii.lower_f) (literal ascii.false_text (boolean false) t) nothing in
    if_token (head t == ascii.lower_t) (literal ascii.true_text (boolean true) t) no (literal_utf8 ascii.true_text (boolean true) t tt)
    (if_token (head t == ascii.lower_f) (literal ascii.false_text (boolean false) t) nothing (literal_utf8 ascii.false_text (boolean false) t tt)
    (if_token (head t == ascii.lower_n) (literal ascii.null_text null t) number (literal_utf8 ascii.null_text null t tt) (number_utf8 t (after_number t))))

if_lexeme : (b : Bool) (t u : Lexeme) → LexemeUtf8 t → LexemeUtf8 u → LexemeUtf8 (cond b t u)
if_lexeme true t u h k = h
if_lexeme false t u h k = k

operator_utf8 : (x : ℕ) → LexemeUtf8 (operator_lexeme x)
operator_utf8 x =
    let last = cond (x == ascii.comma) comma colon in
    let closes = cond (x == ascii.close_bracket) (token end_array) last in
    let opens = cond (x == ascii.open_bracket) (token begin_array) closes in
    let closes_object = cond (x == ascii.close_brace) (token end_object) opens in
    if_lexeme (x == ascii.open_brace) (token begin_object) closes_object tt
    (if_lexeme (x == ascii.close_brace) (token end_object) opens tt
    (if_lexeme (x == ascii.open_bracket) (token begin_array) closes tt
    (if_lexeme (x == ascii.close_bracket) (token end_array) last tt (if_lexeme (x == ascii.comma) comma colon tt tt))))

byte_utf8 : (m : Mode) (c : Class) (x : ℕ) (xs : List ℕ) (k : Mode → List Lexeme) → (c ≡ quote → IsUtf8 xs) → ((next : Mode) → LexemesUtf8 (k next)) →
    LexemesUtf8 (lex_byte m c x xs k)
byte_utf8 between quote x xs k text more = (string_utf8 (content plain xs) (content_whole plain [] xs (text refl)), more in_string)
byte_utf8 between backslash x xs k text more = (tt, more in_word)
byte_utf8 between operator x xs k text more = (operator_utf8 x, more between)
byte_utf8 between space x xs k text more = more between
byte_utf8 between other x xs k text more = (word_utf8 (x ∷ xs), more in_word)
byte_utf8 in_word quote x xs k text more = more in_word
byte_utf8 in_word backslash x xs k text more = more in_word
byte_utf8 in_word operator x xs k text more = (operator_utf8 x, more between)
byte_utf8 in_word space x xs k text more = more between
byte_utf8 in_word other x xs k text more = more in_word
byte_utf8 in_string quote x xs k text more = more between
byte_utf8 in_string backslash x xs k text more = more in_escape
byte_utf8 in_string operator x xs k text more = more in_string
byte_utf8 in_string space x xs k text more = more in_string
byte_utf8 in_string other x xs k text more = more in_string
byte_utf8 in_escape c x xs k text more = more in_string

quote_at : (q b o s : Bool) → cond q quote (cond b backslash (cond o operator (cond s space other))) ≡ quote → q ≡ true
quote_at true b o s e = refl
quote_at false true o s e = absurd (cc)
quote_at false false true s e = absurd (cc)
quote_at false false false true e = absurd (cc)
quote_at false false false false e = absurd (cc)

quote_low : (x : ℕ) → class x ≡ quote → x < 128
quote_low x e = omega (arith, eqb-true x 34 (quote_at (x == 34) (x == 92) (is_operator x) (is_space x) e))

lex_utf8 : (m : Mode) (xs : List ℕ) → EndsUtf8 xs → LexemesUtf8 (lex m xs)
unfolding lex
lex_utf8 m [] h = tt
lex_utf8 m (x ∷ xs) h = byte_utf8 m (class x) x xs (λ next. lex next xs) (λ e. h.0 (quote_low x e)) (λ next. lex_utf8 next xs h.1)

allowed : (b : Bool) (t : Token) (k : Place → List Token) (p : Place) → TokenUtf8 t → ((q : Place) → TokensUtf8 (k q)) → TokensUtf8 (if_allowed b t k p)
allowed true t k p h more = (h, more p)
allowed false t k p h more = (tt, tt)

placed : (p : Place) (t : Token) (b : Bool) (k : Place → List Token) → TokenUtf8 t → ((q : Place) → TokensUtf8 (k q)) → TokensUtf8 (place_token p t b k)
placed p begin_object b k h more = allowed (may_begin p) begin_object k fresh tt more
placed p end_object b k h more = allowed (may_close p) end_object k after_value tt more
placed p begin_array b k h more = allowed (may_begin p) begin_array k fresh tt more
placed p end_array b k h more = allowed (may_close p) end_array k after_value tt more
placed p (key s) b k h more = (tt, tt)
placed p (string s) true k h more = allowed (may_begin p) (key s) k after_key h more
placed p (string s) false k h more = allowed (may_begin p) (string s) k after_value h more
placed p (number s) b k h more = allowed (may_begin p) (number s) k after_value tt more
placed p (boolean c) b k h more = allowed (may_begin p) (boolean c) k after_value tt more
placed p null b k h more = allowed (may_begin p) null k after_value tt more
placed p bad b k h more = (tt, tt)

punctuated : (p : Place) (ls : List Lexeme) → LexemesUtf8 ls → TokensUtf8 (punctuate p ls)
unfolding punctuate
punctuated fresh [] h = tt
punctuated after_value [] h = tt
punctuated after_comma [] h = (tt, tt)
punctuated after_key [] h = (tt, tt)
punctuated fresh (token t ∷ ls) h = placed fresh t (begins_colon ls) (λ next. punctuate next ls) h.0 (λ next. punctuated next ls h.1)
punctuated after_value (token t ∷ ls) h = placed after_value t (begins_colon ls) (λ next. punctuate next ls) h.0 (λ next. punctuated next ls h.1)
punctuated after_comma (token t ∷ ls) h = placed after_comma t (begins_colon ls) (λ next. punctuate next ls) h.0 (λ next. punctuated next ls h.1)
punctuated after_key (token t ∷ ls) h = placed after_key t (begins_colon ls) (λ next. punctuate next ls) h.0 (λ next. punctuated next ls h.1)
punctuated fresh (comma ∷ ls) h = (tt, tt)
punctuated after_value (comma ∷ ls) h = punctuated after_comma ls h.1
punctuated after_comma (comma ∷ ls) h = (tt, tt)
punctuated after_key (comma ∷ ls) h = (tt, tt)
punctuated fresh (colon ∷ ls) h = (tt, tt)
punctuated after_value (colon ∷ ls) h = (tt, tt)
punctuated after_comma (colon ∷ ls) h = (tt, tt)
punctuated after_key (colon ∷ ls) h = punctuated fresh ls h.1

-- ---- values

abbrev mutual
  JsonUtf8 : json.Json → Type 0
  JsonUtf8 json.null = ⊤
  JsonUtf8 (json.boolean b) = ⊤
  JsonUtf8 (json.number s) = ⊤
  JsonUtf8 (json.string s) = IsUtf8 s
  JsonUtf8 (json.array js) = JsonItemsUtf8 js
  JsonUtf8 (json.object ms) = JsonMembersUtf8 ms

  JsonItemsUtf8 : json.Items → Type 0
  JsonItemsUtf8 json.no_items = ⊤
  JsonItemsUtf8 (json.item j js) = JsonUtf8 j × JsonItemsUtf8 js

  JsonMembersUtf8 : json.Members → Type 0
  JsonMembersUtf8 json.no_members = ⊤
  JsonMembersUtf8 (json.member k j ms) = IsUtf8 k × JsonUtf8 j × JsonMembersUtf8 ms

-- what was parsed, and the tokens behind it
abbrev Parsed : {A : Type 0} → (A → Type 0) → Option (A × List Token) → Type 0
Parsed P None = ⊤
Parsed P (Some p) = P p.0 × TokensUtf8 p.1

parsed_map : {A B : Type 0} (P : A → Type 0) (Q : B → Type 0) (f : A → B) → ((a : A) → P a → Q (f a)) → (r : Option (A × List Token)) → Parsed P r →
    Parsed Q (json.parse_map f r)
parsed_map P Q f h None x = tt
parsed_map P Q f h (Some p) x = (h p.0 x.0, x.1)

parsed_then : {A B : Type 0} (P : A → Type 0) (Q : B → Type 0) (f : A × List Token → Option (B × List Token)) →
    ((p : A × List Token) → P p.0 → TokensUtf8 p.1 → Parsed Q (f p)) → (r : Option (A × List Token)) → Parsed P r → Parsed Q (option_and_then f r)
parsed_then P Q f h None x = tt
parsed_then P Q f h (Some p) x = h p x.0 x.1

abbrev Rest : Option (List Token) → Type 0
Rest None = ⊤
Rest (Some ts) = TokensUtf8 ts

end_rest : (ts : List Token) → TokensUtf8 ts → Rest (json.after_end_array ts)
end_rest [] h = tt
end_rest (begin_object ∷ ts) h = tt
end_rest (end_object ∷ ts) h = tt
end_rest (begin_array ∷ ts) h = tt
end_rest (end_array ∷ ts) h = h.1
end_rest (key s ∷ ts) h = tt
end_rest (string s ∷ ts) h = tt
end_rest (number s ∷ ts) h = tt
end_rest (boolean b ∷ ts) h = tt
end_rest (null ∷ ts) h = tt
end_rest (bad ∷ ts) h = tt

abbrev KeyUtf8 : Option (List ℕ) → Type 0
KeyUtf8 None = ⊤
KeyUtf8 (Some k) = IsUtf8 k

key_read : (ts : List Token) → TokensUtf8 ts → Parsed KeyUtf8 (json.read_key ts)
key_read [] h = tt
key_read (begin_object ∷ ts) h = tt
key_read (end_object ∷ ts) h = (tt, h.1)
key_read (begin_array ∷ ts) h = tt
key_read (end_array ∷ ts) h = tt
key_read (key s ∷ ts) h = (h.0, h.1)
key_read (string s ∷ ts) h = tt
key_read (number s ∷ ts) h = tt
key_read (boolean b ∷ ts) h = tt
key_read (null ∷ ts) h = tt
key_read (bad ∷ ts) h = tt

-- a parser whose values are UTF-8 where the tokens are
abbrev Keeps : {A : Type 0} → (A → Type 0) → json.Parse A → Type 0
Keeps P parse = (ts : List Token) → TokensUtf8 ts → Parsed P (parse ts)

items_step : (value : json.Parse json.Json) (more : json.Parse json.Items) → Keeps JsonUtf8 value → Keeps JsonItemsUtf8 more →
    (ts : List Token) (o : Option (List Token)) → TokensUtf8 ts → Rest o → Parsed JsonItemsUtf8 (json.items_step value more ts o)
items_step value more keeps others ts (Some rest) h r = (tt, r)
items_step value more keeps others ts None h r =
    parsed_then JsonUtf8 JsonItemsUtf8 _ (λ p j k. parsed_map JsonItemsUtf8 JsonItemsUtf8 (json.item p.0) (λ js all. (j, all)) (more p.1) (others p.1 k))
    (value ts) (keeps ts h)

items_keep : (value : json.Parse json.Json) → Keeps JsonUtf8 value → (n : ℕ) → Keeps JsonItemsUtf8 (json.items value n)
unfolding json.items
items_keep value keeps zero ts h = tt
items_keep value keeps (suc n) ts h = items_step value (json.items value n) keeps (items_keep value keeps n) ts (json.after_end_array ts) h (end_rest ts h)

members_step : (value : json.Parse json.Json) (more : json.Parse json.Members) → Keeps JsonUtf8 value → Keeps JsonMembersUtf8 more → (k : Option (List ℕ)) →
    KeyUtf8 k → Keeps JsonMembersUtf8 (json.members_step value more k)
members_step value more keeps others None named ts h = (tt, h)
members_step value more keeps others (Some k) named ts h =
    parsed_then JsonUtf8 JsonMembersUtf8 _ (λ p j rest. parsed_map JsonMembersUtf8 JsonMembersUtf8 (json.member k p.0) (λ ms all. (
      named,
      j,
      all,
    )) (more p.1) (others p.1 rest)) (value ts) (keeps ts h)

members_keep : (value : json.Parse json.Json) → Keeps JsonUtf8 value → (n : ℕ) → Keeps JsonMembersUtf8 (json.members value n)
unfolding json.members
members_keep value keeps zero ts h = tt
members_keep value keeps (suc n) ts h =
    parsed_then KeyUtf8 JsonMembersUtf8 _ (λ p named rest. members_step value (json.members value n) keeps (members_keep value keeps n) p.0 named p.1 rest)
    (json.read_key ts) (key_read ts h)

with_keep : (a : json.Parse json.Items) (o : json.Parse json.Members) → Keeps JsonItemsUtf8 a → Keeps JsonMembersUtf8 o → Keeps JsonUtf8 (json.value_with a o)
with_keep a o x y [] h = tt
with_keep a o x y (begin_object ∷ ts) h = parsed_map JsonMembersUtf8 JsonUtf8 json.object (λ ms all. all) (o ts) (y ts h.1)
with_keep a o x y (end_object ∷ ts) h = tt
with_keep a o x y (begin_array ∷ ts) h = parsed_map JsonItemsUtf8 JsonUtf8 json.array (λ js all. all) (a ts) (x ts h.1)
with_keep a o x y (end_array ∷ ts) h = tt
with_keep a o x y (key s ∷ ts) h = tt
with_keep a o x y (string s ∷ ts) h = (h.0, h.1)
with_keep a o x y (number s ∷ ts) h = (tt, h.1)
with_keep a o x y (boolean b ∷ ts) h = (tt, h.1)
with_keep a o x y (null ∷ ts) h = (tt, h.1)
with_keep a o x y (bad ∷ ts) h = tt

value_keep : (depth : ℕ) → Keeps JsonUtf8 (json.value depth)
unfolding json.value
value_keep zero = with_keep (λ ts. None) (λ ts. None) (λ ts h. tt) (λ ts h. tt)
value_keep (suc depth) =
    with_keep (λ ts. json.items (json.value depth) (length ts) ts) (λ ts. json.members (json.value depth) (length ts) ts)
    (λ ts h. items_keep (json.value depth) (value_keep depth) (length ts) ts h) (λ ts h. members_keep (json.value depth) (value_keep depth) (length ts) ts h)

mutual
  of_json_utf8 : (j : json.Json) → JsonUtf8 j → Each HasUtf8 (of_json j)
  of_json_utf8 json.null h = tt
  of_json_utf8 (json.boolean b) h = tt
  of_json_utf8 (json.number s) h = each_map (λ n. ⊤) HasUtf8 datum.number (λ n x. tt) (number_of s) (each_any (number_of s))
  of_json_utf8 (json.string s) h = h
  of_json_utf8 (json.array js) h = each_map ItemsHaveUtf8 HasUtf8 array (λ ds x. x) (of_items js) (of_items_utf8 js h)
  of_json_utf8 (json.object ms) h = each_map MembersHaveUtf8 HasUtf8 object (λ ds x. x) (of_members ms no_members) (of_members_utf8 ms no_members h tt)

  of_items_utf8 : (js : json.Items) → JsonItemsUtf8 js → Each ItemsHaveUtf8 (of_items js)
  of_items_utf8 json.no_items h = tt
  of_items_utf8 (json.item j js) h = each_then HasUtf8 ItemsHaveUtf8 _ (λ d u. each_map ItemsHaveUtf8 ItemsHaveUtf8 (item d) (λ ds us. (
    u,
    us,
  )) (of_items js) (of_items_utf8 js h.1)) (of_json j) (of_json_utf8 j h.0)

  of_members_utf8 : (ms : json.Members) (found : Members) → JsonMembersUtf8 ms → MembersHaveUtf8 found → Each MembersHaveUtf8 (of_members ms found)
  of_members_utf8 json.no_members found h u = u
  of_members_utf8 (json.member k j ms) found h u =
      each_then HasUtf8 MembersHaveUtf8 _ (λ d x. of_members_utf8 ms (put k d found) h.2 (put_utf8 k d found h.0 x u)) (of_json j) (of_json_utf8 j h.1)

last_utf8 : (r : Option (json.Json × List Token)) → Parsed JsonUtf8 r → Each HasUtf8 (option_and_then of_json (option_and_then (λ p. json.if_last p.0 p.1) r))
last_utf8 None h = tt
last_utf8 (Some p) h = ended p.0 p.1 h.0
  where
    ended : (j : json.Json) (ts : List Token) → JsonUtf8 j → Each HasUtf8 (option_and_then of_json (json.if_last j ts))
    ended j [] u = of_json_utf8 j u
    ended j (t ∷ ts) u = tt

pub read_utf8 : (text : List ℕ) (d : Data) → IsUtf8 text → read text ≡ Some d → HasUtf8 d
read_utf8 text d u e =
    subst (Each HasUtf8) e (last_utf8 (json.value max_depth (tokens text)) (value_keep max_depth (tokens text) (punctuated fresh (lex between text)
    (lex_utf8 between text (ends_from [] text u)))))
