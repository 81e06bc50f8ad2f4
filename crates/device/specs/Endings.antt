-- What closed, with one more at the end.
use Rattle.std.specs.Prelude.{◌≡◌, ℕ, List, [], ◌∷◌, ◌++◌, None}
use Rattle.std.specs.Map.{lookup}
use Rattle.std.specs.Str.{bytes_eq}
use Rattle.nuc_base.specs.declared.kinds.Outcome.{Outcome}

-- the list is what closed with this id behind it, which is new there, whatever its outcome is
pub record EndsWith (list closed : List (List ℕ × Outcome)) (id : List ℕ) : Type 0 where
  pub outcome : Outcome
  pub is : list ≡ closed ++ (id, outcome) ∷ []
  pub fresh : lookup (bytes_eq id) closed ≡ None
