-- Changes that leave files alone.
use Rattle.std.specs.Prelude.{◌≡◌, List, ℕ}
use Rattle.disk_model.specs.Disk.{Image}

-- every file but these is as before
abbrev pub IsSameBut : (List ℕ → Type 0) → Image → Image → Type 0
IsSameBut files old new = (name : List ℕ) → ¬ (files name) → new name ≡ old name

-- one file
abbrev pub IsFile : List ℕ → List ℕ → Type 0
IsFile file name = name ≡ file
