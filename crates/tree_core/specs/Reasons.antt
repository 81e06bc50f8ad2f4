-- How a fault is printed: its word, and where it has a field one space and the field.
use Rattle.std.specs.Prelude.{ℕ, List, ◌∷◌, ◌++◌, Option, Some, None}

abbrev pub with_field : List ℕ → Option (List ℕ) → List ℕ
with_field word None = word
with_field word (Some field) = word ++ 32 ∷ field
