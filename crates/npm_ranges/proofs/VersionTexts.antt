-- What is read of a version's text, and its bytes.
use Rattle.std.proofs.Common.{◌≡◌, ◌≢◌, ℕ, zero, suc, ◌+◌, ◌%◌, ◌≤◌, ◌<◌, ◌^◌, ◌⊎◌, List, [], ◌∷◌, ◌++◌, length, Ok, Err, Bool, true, false, refl, sym, ap}
use Rattle.std.proofs.Common.{◌∙◌, subst, inl, inr, arith}
use Rattle.std.specs.Prelude.{Result, slice_index, ◌&&◌, nat_lt}
use Rattle.std.specs.Char.{is_ascii_digit}
use Rattle.std.proofs.lemmas.Bool.{ltb-true, false≢true}
use Rattle.std.proofs.lemmas.Bool.Decides.{nat_tests}
use Rattle.std.proofs.lemmas.Fmt.{decimal_by_steps}
use Rattle.std.proofs.lemmas.List.{get_or_past}
use Rattle.std.proofs.lemmas.List.Folds.{list_all-append}
use Rattle.std.proofs.lemmas.Str.{IsUtf8-from_ascii}
use Rattle.semver.specs.OrderLaws.{join-parts, join_dots}
use Rattle.semver.proofs.Segments.{and-left, and-right}
use Rattle.std.specs.List.{list_all}
use Rattle.std.specs.Str.{IsAscii, IsUtf8}
use Rattle.std.specs.Fmt.{decimal}
use Rattle.semver.specs.Grammar.{IsValid, is_build, is_build_identifier, is_identifier_byte, is_pre_identifier, is_pre_release}
use Rattle.semver.specs.Identifiers.{parts_text, marked}
use Rattle.semver.specs.Order.{parts}
use Rattle.semver.specs.Parse.{IsRefused, Parts, is_memory, memory_error, version_parts}
use Rattle.semver.specs.declared.Version.{Version}
use Rattle.semver.specs.declared.error.Error.{Error}
use Rattle.semver.proofs.Grammar.{version_parts-sound, version_parts-complete}
use Rattle.npm_ranges.specs.Versions.{IsVersion, parts_in}
pub use Rattle.npm_ranges.specs.Versions.{is_version_byte}
use Rattle.npm_ranges.specs.Reading.{VersionFaultsAs}
use Rattle.npm_ranges.specs.declared.fault.VersionFault.{VersionFault}
use Rattle.npm_ranges.specs.declared.fault.VersionFault.TheVariants as version
use Rattle.npm_ranges.proofs.Faultless.{IsPlain, plain_version}

-- a text that is read is a version, and its parts are those that are read
pub version_read : (text : List ℕ) (p : Parts) → length text ≤ 128 → version_parts text ≡ Ok p → IsVersion text
version_read text p short is =
    let s = version_parts-sound text p is in
    record { short = short; spells = (p, s.1, sym s.0) }

pub parts_read : (text : List ℕ) (p : Parts) → version_parts text ≡ Ok p → parts_in text ≡ p
unfolding parts_in
parts_read text p is = rw is refl

-- a version is read
pub version_reads : (text : List ℕ) → IsVersion text → version_parts text ≡ Ok (parts_in text)
version_reads text v =
    let p = v.spells in
    let is : version_parts text ≡ Ok p.0 = ap version_parts p.2 ∙ version_parts-complete p.0 p.1 in
    subst (λ (q : Parts). version_parts text ≡ Ok q) (sym (parts_read text p.0 is)) is

-- and so what is refused is none
pub version_refused : (text : List ℕ) (e : Error) → version_parts text ≡ Err e → IsVersion text → ⊥
version_refused text e is v = let h = version_reads text v in cc

-- a version is the spelling of its parts
pub version_spells : (text : List ℕ) → IsVersion text → text ≡ parts_text (parts_in text)
version_spells text v = sym (version_parts-sound text (parts_in text) (version_reads text v)).0

-- ---- the bytes of a version

pub both_true : (x y : Bool) → x ≡ true → y ≡ true → (x && y) ≡ true
both_true x y h k = rw (h, k) refl

-- a test for another, on each element
pub all_weaker : {X : Type 0} (f g : X → Bool) → ((x : X) → f x ≡ true → g x ≡ true) → (xs : List X) → list_all f xs ≡ true → list_all g xs ≡ true
all_weaker f g h [] k = refl
all_weaker f g h (x ∷ xs) k = both_true (g x) (list_all g xs) (h x (and-left (f x) (list_all f xs) k)) (all_weaker f g h xs (and-right (f x) (list_all f xs) k))

pub all_both : {X : Type 0} (f : X → Bool) (xs ys : List X) → list_all f xs ≡ true → list_all f ys ≡ true → list_all f (xs ++ ys) ≡ true
all_both f xs ys h k = list_all-append f xs ys ∙ both_true _ _ h k

identifier_is : (b : ℕ) → is_identifier_byte b ≡ true → is_version_byte b ≡ true
identifier_is b h = rw h refl

build_is : (part : List ℕ) → is_build_identifier part ≡ true → list_all is_version_byte part ≡ true
build_is part h = all_weaker is_identifier_byte is_version_byte identifier_is part (and-right _ _ h)

pre_is : (part : List ℕ) → is_pre_identifier part ≡ true → list_all is_version_byte part ≡ true
pre_is part h = build_is part (and-left _ _ h)

joined_is : (ps : List (List ℕ)) → list_all (list_all is_version_byte) ps ≡ true → list_all is_version_byte (join_dots ps) ≡ true
unfolding join_dots
joined_is [] h = refl
joined_is (part ∷ []) h = and-left (list_all is_version_byte part) true h
joined_is (part ∷ next ∷ rest) h =
    all_both is_version_byte part (46 ∷ join_dots (next ∷ rest)) (and-left (list_all is_version_byte part) _ h) (joined_is (next
    ∷ rest) (and-right (list_all is_version_byte part) _ h))

parts_are : (text : List ℕ) → list_all (list_all is_version_byte) (parts text) ≡ true → list_all is_version_byte text ≡ true
parts_are text h = subst (λ (t : List ℕ). list_all is_version_byte t ≡ true) (join-parts text) (joined_is (parts text) h)

pre_release_is : (text : List ℕ) → is_pre_release text ≡ true → list_all is_version_byte text ≡ true
pre_release_is [] h = refl
pre_release_is (b ∷ rest) h = parts_are (b ∷ rest) (all_weaker is_pre_identifier (list_all is_version_byte) pre_is (parts (b ∷ rest)) h)

build_text_is : (text : List ℕ) → is_build text ≡ true → list_all is_version_byte text ≡ true
build_text_is [] h = refl
build_text_is (b ∷ rest) h = parts_are (b ∷ rest) (all_weaker is_build_identifier (list_all is_version_byte) build_is (parts (b ∷ rest)) h)

marked_is : (mark : ℕ) (text : List ℕ) → is_version_byte mark ≡ true → list_all is_version_byte text ≡ true → list_all is_version_byte (marked mark text) ≡ true
marked_is mark [] h k = refl
marked_is mark (b ∷ rest) h k = both_true _ _ h k

pub decimal_is : (n : ℕ) → n < 2 ^ 64 → list_all is_ascii_digit (decimal n) ≡ true
decimal_is n small = decimal_by_steps (λ k ds. list_all is_ascii_digit ds ≡ true)
    (λ k low. let d : is_ascii_digit (48 + k) ≡ true = grind arith in rw d refl)
    (λ k ds big h. let d : is_ascii_digit (48 + k % 10) ≡ true = grind arith in all_both is_ascii_digit ds ((48 + k % 10) ∷ []) h (rw d refl))
    n small

digit_is : (b : ℕ) → is_ascii_digit b ≡ true → is_version_byte b ≡ true
digit_is b h = grind (arith, nat_tests)

number_is : (n : ℕ) → n < 2 ^ 64 → list_all is_version_byte (decimal n) ≡ true
number_is n small = all_weaker is_ascii_digit is_version_byte digit_is (decimal n) (decimal_is n small)

pub parts_text_is : (p : Parts) → IsValid p → list_all is_version_byte (parts_text p) ≡ true
parts_text_is p v =
    let tail = all_both is_version_byte (marked 45 p.3) (marked 43 p.4) (marked_is 45 p.3 refl (pre_release_is p.3 v.3)) (marked_is 43 p.4 refl
    (build_text_is p.4 v.4)) in
    let third = all_both is_version_byte (decimal p.2) (marked 45 p.3 ++ marked 43 p.4) (number_is p.2 v.2) tail in
    let second = all_both is_version_byte (decimal p.1) (46 ∷ (decimal p.2 ++ (marked 45 p.3 ++ marked 43 p.4))) (number_is p.1 v.1) third in
    all_both is_version_byte (decimal p.0) (46 ∷ (decimal p.1 ++ (46 ∷ (decimal p.2 ++ (marked 45 p.3 ++ marked 43 p.4))))) (number_is p.0 v.0) second

pub read_bytes : (text : List ℕ) (p : Parts) → version_parts text ≡ Ok p → list_all is_version_byte text ≡ true
read_bytes text p is =
    let s = version_parts-sound text p is in
    subst (λ (t : List ℕ). list_all is_version_byte t ≡ true) s.0 (parts_text_is p s.1)

pub byte_is_ascii : (b : ℕ) → is_version_byte b ≡ true → nat_lt b 128 ≡ true
byte_is_ascii b h = grind (arith, nat_tests)

-- a text of bytes below 128
pub ascii_from_all : (text : List ℕ) → list_all (λ b. nat_lt b 128) text ≡ true → IsAscii text
ascii_from_all [] h i = let e : slice_index [] i ≡ 0 = get_or_past {X = ℕ} [] i 0 (omega arith) in omega (arith, e)
ascii_from_all (b ∷ rest) h zero = ltb-true b 128 (and-left (nat_lt b 128) (list_all (λ c. nat_lt c 128) rest) h)
ascii_from_all (b ∷ rest) h (suc i) = ascii_from_all rest (and-right (nat_lt b 128) (list_all (λ c. nat_lt c 128) rest) h) i

pub version_bytes : (text : List ℕ) → IsVersion text → list_all is_version_byte text ≡ true
version_bytes text v = read_bytes text (parts_in text) (version_reads text v)

pub version_is_utf8 : (text : List ℕ) → IsVersion text → IsUtf8 text
version_is_utf8 text v = IsUtf8-from_ascii text (ascii_from_all text (all_weaker is_version_byte (λ b. nat_lt b 128) byte_is_ascii text (version_bytes text v)))

-- reading never wants memory by itself
pub never_memory : (text : List ℕ) (e : Error) → version_parts text ≡ Err e → e ≡ memory_error → ⊥
never_memory text e is want =
    let h : is_memory e.kind ≡ false = (subst (λ (r : Result Parts Error). IsPlain r) is (plain_version text)).plain in
    let k : is_memory e.kind ≡ true = ap (λ (f : Error). is_memory f.kind) want in
    false≢true (sym h ∙ k)

-- what the answer of a reading says of what is read
refused_at : (r : Result Parts Error) (e : Error) → IsRefused {T = Version} r (Err e) → ((p : Parts) × (r ≡ Ok p)) ⊎ (r ≡ Err e)
refused_at (Ok p) e h = inl (p, refl)
refused_at (Err d) e h = inr cc

pub fault_is : (text : List ℕ) (e : Error) (fault : VersionFault) → length text ≤ 128
    → (e ≡ memory_error) ⊎ (version_parts text ≡ Err e) → IsRefused {T = Version} (version_parts text) (Err e)
    → (e ≡ memory_error → fault ≡ version.NoMemory) → (e ≢ memory_error → fault ≡ version.Bad)
    → VersionFaultsAs (IsVersion text) fault
fault_is text e fault short why refused memory other = elim (refused_at (version_parts text) e refused) [
  | inl ok ↦
      let is : IsVersion text = version_read text ok.0 short ok.1 in
      elim why [
        | inl want ↦ subst (λ (f : VersionFault). VersionFaultsAs (IsVersion text) f) (sym (memory want)) is
        | inr bad ↦ absurd (version_refused text e bad is)
      ]
  | inr bad ↦ subst (λ (f : VersionFault). VersionFaultsAs (IsVersion text) f) (sym (other (never_memory text e bad))) (version_refused text e bad)
]
