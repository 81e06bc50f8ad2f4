-- Versions (Semantic Versioning 2.0.0): which texts are one, and how they are ordered.
use Rattle.std.specs.Prelude.{◌≡◌, ◌==◌, ◌||◌, ℕ, ◌≤◌, Bool, List, [], length}
use Rattle.std.specs.Result.{result_unwrap_or}
use Rattle.std.specs.Ordering.{nat_cmp, ordering_then}
use Rattle.std.specs.Cmp.Lexicographic.{slice_cmp}
use Rattle.std.specs.declared.cmp.Ordering.{Ordering}
use Rattle.semver.specs.Grammar.{IsValid, is_identifier_byte}
use Rattle.semver.specs.Identifiers.{parts_of, parts_text}
use Rattle.semver.specs.Order.{pre_cmp}
use Rattle.semver.specs.Parse.{Parts, version_parts}
use Rattle.semver.specs.declared.Version.{Version}

-- a text of at most 128 bytes that spells three numbers below 2 ^ 64, a pre-release and build text
pub record IsVersion (text : List ℕ) : Type 0 where
  pub short : length text ≤ 128
  pub spells : (parts : Parts) × IsValid parts × (text ≡ parts_text parts)

-- the bytes of a version's text: letters, digits, `-`, `.` and `+`
abbrev pub is_version_byte : ℕ → Bool
is_version_byte b = is_identifier_byte b || b == 46 || b == 43

-- the numbers, the pre-release and the build text of a version; of any other text those of 0.0.0
unfoldable pub parts_in : List ℕ → Parts
parts_in text = result_unwrap_or (version_parts text) (0, 0, 0, [], [])

-- precedence (section 11): the three numbers from left to right, and then the pre-releases
abbrev pub precedence : Parts → Parts → Ordering
precedence a b = ordering_then (nat_cmp a.0 b.0) (ordering_then (nat_cmp a.1 b.1) (ordering_then (nat_cmp a.2 b.2) (pre_cmp a.3 b.3)))

-- by precedence, and where that ties by the bytes of the build text
abbrev pub parts_order : Parts → Parts → Ordering
parts_order a b = ordering_then (precedence a b) (slice_cmp nat_cmp a.4 b.4)

abbrev pub version_order : List ℕ → List ℕ → Ordering
version_order a b = parts_order (parts_in a) (parts_in b)

-- the same with the texts' bytes at the end, so that any two texts are told apart; it differs only at texts that are no versions
abbrev pub text_order : List ℕ → List ℕ → Ordering
text_order a b = ordering_then (version_order a b) (slice_cmp nat_cmp a b)

-- what a version in memory holds beside its text
pub record IsParsed (text : List ℕ) (inner : Version) : Type 0 where
  pub version : IsVersion text
  pub parts : parts_in text ≡ parts_of inner
