-- Records that have names.
use Rattle.std.specs.Prelude.{ℕ, List, [], ◌∷◌, if◌then◌else◌}
use Rattle.std.specs.Str.{bytes_eq}

-- the bytes of the first record of this name
abbrev pub named : List ℕ → List (List ℕ × List ℕ) → List ℕ
named name [] = []
named name (r ∷ rs) = if bytes_eq r.0 name then r.1 else named name rs
