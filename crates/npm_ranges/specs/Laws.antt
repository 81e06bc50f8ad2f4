-- The words of the laws on ranges.
use Rattle.std.specs.Prelude.{◌≡◌, ◌≢◌, ◌<◌, ◌+◌, ◌==◌, ℕ, List, [], ◌∷◌, ◌++◌, length, codes, IsTrue, Option, Some, None, unwrap_or, if◌then◌else◌, ⊤}
use Rattle.std.specs.List.{list_all}
use Rattle.std.specs.declared.cmp.Ordering.TheVariants.{Less}
use Rattle.semver.specs.Parse.{Parts}
use Rattle.npm_ranges.specs.declared.comparator.Sign.{Sign}
use Rattle.npm_ranges.specs.declared.comparator.Sign.TheVariants as sign
use Rattle.npm_ranges.specs.Grammar.{Written, is_blank, partial_of, written}
use Rattle.npm_ranges.specs.Versions.{IsVersion, is_version_byte, parts_in, precedence}

-- ---- versions

-- a version without a pre-release
pub record IsPlain (text : List ℕ) : Type 0 where
  pub version : IsVersion text
  pub plain : (parts_in text).3 ≡ []

-- a version's text is letters, digits, `-`, `.` and `+`, so that it has no slash and no blank
abbrev pub HasVersionBytes : Type 0
HasVersionBytes = (text : List ℕ) → IsVersion text → IsTrue (list_all is_version_byte text)

-- ---- intervals

-- no pre-release, not below the first and below the second
pub record IsWithin (version low high : Parts) : Type 0 where
  pub plain : version.3 ≡ []
  pub not_below : precedence version low ≢ Less
  pub below : precedence version high ≡ Less

abbrev pub IsBetween : List ℕ → List ℕ → List ℕ → Type 0
IsBetween version low high = IsWithin (parts_in version) (parts_in low) (parts_in high)

-- three numbers alone
abbrev pub numbers : ℕ → ℕ → ℕ → Parts
numbers major minor patch = (major, minor, patch, [], [])

-- where `^` ends: the leftmost number that is not 0 is one more; at 0.0.0 the last
abbrev pub caret_end : Parts → Parts
caret_end v = if v.0 == 0 then (if v.1 == 0 then numbers 0 0 (v.2 + 1) else numbers 0 (v.1 + 1) 0) else numbers (v.0 + 1) 0 0

-- where `~` ends: the minor number is one more
abbrev pub tilde_end : Parts → Parts
tilde_end v = numbers v.0 (v.1 + 1) 0

-- ---- how comparators are spelled

abbrev pub sign_text : Option Sign → List ℕ
sign_text None = []
sign_text (Some sign.Equal) = codes "="
sign_text (Some sign.Less) = codes "<"
sign_text (Some sign.LessOrEqual) = codes "<="
sign_text (Some sign.Greater) = codes ">"
sign_text (Some sign.GreaterOrEqual) = codes ">="
sign_text (Some sign.Tilde) = codes "~"
sign_text (Some sign.Caret) = codes "^"

-- a sign or none, blanks, the text of a partial, and the blanks behind it
pub record Spelling : Type 0 where
  pub sign : Option Sign
  pub blanks : List ℕ
  pub partial : List ℕ
  pub behind : List ℕ

abbrev pub AreBlank : List ℕ → Type 0
AreBlank text = IsTrue (list_all is_blank text)

-- the comparator that is spelled so; no sign is as `=`
pub record IsSpellingOf (s : Spelling) (c : Written) : Type 0 where
  pub sign : c.sign ≡ unwrap_or s.sign sign.Equal
  pub blanks : AreBlank s.blanks
  pub partial : partial_of s.partial ≡ Some c.partial
  pub behind : AreBlank s.behind

abbrev pub spelling_text : Spelling → List ℕ
spelling_text s = sign_text s.sign ++ (s.blanks ++ (s.partial ++ s.behind))

abbrev pub spellings_text : List Spelling → List ℕ
spellings_text [] = []
spellings_text (s ∷ ss) = spelling_text s ++ spellings_text ss

-- each is spelled so, with blanks between
abbrev pub SpellAll : List Spelling → List Written → Type 0
SpellAll [] [] = ⊤
SpellAll [] (c ∷ cs) = ⊥
SpellAll (s ∷ ss) [] = ⊥
SpellAll (s ∷ ss) (c ∷ cs) = IsSpellingOf s c × (0 < length ss → 0 < length s.behind) × SpellAll ss cs

-- a text of comparators that are spelled so, behind blanks or none, is the range of one set that has them
abbrev pub SpelledIsRead : Type 0
SpelledIsRead = (prefix : List ℕ) (ss : List Spelling) (cs : List Written) → AreBlank prefix → SpellAll ss cs → 0 < length ss →
    written (prefix ++ spellings_text ss) ≡ Some (cs ∷ [])
