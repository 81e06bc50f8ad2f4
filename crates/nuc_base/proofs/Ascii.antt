-- Names and labels are ASCII.
use Rattle.std.proofs.Common.{◌≡◌, ℕ, ◌<◌, Bool, List, length, arith, inl, inr, true}
use Rattle.std.proofs.lemmas.Bool.{cases_lt}
use Rattle.std.proofs.lemmas.Bool.Decides.{nat_tests}
use Rattle.std.proofs.lemmas.List.{get_or_past}
use Rattle.std.specs.List.{AllPass}
use Rattle.std.specs.Str.{IsAscii}
use Rattle.nuc_base.specs.Names.{IsName, IsLabel, is_name_byte, is_label_byte}

label_byte : (b : ℕ) → is_label_byte b ≡ true → b < 128
label_byte b is = grind (arith, nat_tests)

name_byte : (b : ℕ) → is_name_byte b ≡ true → b < 128
name_byte b is = grind (arith, nat_tests)

-- bytes that pass a test of ASCII alone; one past the end counts as 0
all_ascii : (test : ℕ → Bool) → ((b : ℕ) → test b ≡ true → b < 128) → (bytes : List ℕ) → AllPass test bytes → IsAscii bytes
all_ascii test low bytes each k = elim (cases_lt k (length bytes)) [
  | inl below ↦ low _ (each k 0 below)
  | inr past ↦ rw (get_or_past bytes k 0 past) (omega arith)
]

pub label_is_ascii : (bytes : List ℕ) → IsLabel bytes → IsAscii bytes
label_is_ascii bytes is = all_ascii is_label_byte label_byte bytes is.each

pub name_is_ascii : (bytes : List ℕ) → IsName bytes → IsAscii bytes
name_is_ascii bytes is = all_ascii is_name_byte name_byte bytes is.each
