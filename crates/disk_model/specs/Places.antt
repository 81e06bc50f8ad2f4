-- Places in a list of named files.
use Rattle.std.specs.Prelude.{◌≡◌, ◌≢◌, ℕ, zero, suc, List, [], ◌∷◌}
use Rattle.disk_model.specs.declared.files.File.{File}

-- no file before this place has the name
abbrev pub NoneBefore : List ℕ → ℕ → List File → Type 0
NoneBefore name zero files = Unit {0}
NoneBefore name (suc i) [] = ⊥
NoneBefore name (suc i) (file ∷ files) = (file.name ≢ name) × NoneBefore name i files

-- the first file of this name stands at this place
abbrev pub IsFirst : List ℕ → ℕ → List File → Type 0
IsFirst name i [] = ⊥
IsFirst name zero (file ∷ files) = file.name ≡ name
IsFirst name (suc i) (file ∷ files) = (file.name ≢ name) × IsFirst name i files

-- the same files, but for a change of the bytes of the one at that place
abbrev pub Rewritten : ℕ → (List ℕ → List ℕ) → List File → List File → Type 0
Rewritten i change [] new = ⊥
Rewritten i change (file ∷ files) [] = ⊥
Rewritten zero change (file ∷ files) (other ∷ new) = (other.name ≡ file.name) × (other.bytes.items ≡ change file.bytes.items) × (new ≡ files)
Rewritten (suc i) change (file ∷ files) (other ∷ new) = (other ≡ file) × Rewritten i change files new
