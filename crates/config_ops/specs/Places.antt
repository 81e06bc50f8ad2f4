-- The fields of an object, by a key.
use Rattle.std.specs.Prelude.{List, [], ◌∷◌, ℕ, Option, Some, None}
use Rattle.std.specs.Ordering.{nat_cmp, match_ordering}
use Rattle.std.specs.Cmp.Lexicographic.{slice_cmp}
use Rattle.std.specs.declared.cmp.Ordering.{Ordering}
use Rattle.tree_core.specs.declared.tree.Tree.{Tree}

-- how the key stands to the first field's
abbrev pub ranks : List ℕ → List (List ℕ × Tree) → Option Ordering
ranks k [] = None
ranks k (f ∷ fs) = Some (slice_cmp nat_cmp k f.0)

-- the fields at the beginning whose keys come before the key
abbrev pub fields_before : List ℕ → List (List ℕ × Tree) → List (List ℕ × Tree)
fields_before k [] = []
fields_before k (f ∷ fs) = match_ordering (slice_cmp nat_cmp k f.0) [] [] (f ∷ fields_before k fs)

-- the fields behind these
abbrev pub fields_from : List ℕ → List (List ℕ × Tree) → List (List ℕ × Tree)
fields_from k [] = []
fields_from k (f ∷ fs) = match_ordering (slice_cmp nat_cmp k f.0) (f ∷ fs) (f ∷ fs) (fields_from k fs)
