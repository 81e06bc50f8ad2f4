-- What is a name and what is a label.
use Rattle.std.specs.Prelude.{◌≢◌, ℕ, ◌<◌, ◌≤◌, Bool, ◌||◌, ◌&&◌, ◌==◌, nat_le, List, ◌∷◌, [], length}
use Rattle.std.specs.List.{AllPass}
use Rattle.std.specs.Char.{is_ascii_alphanumeric}

-- an ASCII letter or digit, '-', '_' or '.'
abbrev pub is_name_byte : ℕ → Bool
is_name_byte b = ((is_ascii_alphanumeric b || b == 45) || b == 95) || b == 46

-- from 0x21 to 0x7e
abbrev pub is_label_byte : ℕ → Bool
is_label_byte b = nat_le 33 b && nat_le b 126

pub record IsName (bytes : List ℕ) : Type 0 where
  pub not_empty : 0 < length bytes
  pub short : length bytes ≤ 128
  pub each : AllPass is_name_byte bytes
  pub not_here : bytes ≢ 46 ∷ []
  pub not_above : bytes ≢ 46 ∷ 46 ∷ []

pub record IsLabel (bytes : List ℕ) : Type 0 where
  pub not_empty : 0 < length bytes
  pub short : length bytes ≤ 256
  pub each : AllPass is_label_byte bytes
