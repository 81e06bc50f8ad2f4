-- Changes of an image.
use Rattle.std.specs.Prelude.{ℕ, ◌+◌, if◌then◌else◌, List, [], ◌++◌, length, take, drop}
use Rattle.std.specs.Str.{bytes_eq}
use Rattle.disk_model.specs.Disk.{Image}

-- no file
abbrev pub no_files : Image
no_files name = []

-- the image with other bytes in one file
abbrev pub put : List ℕ → List ℕ → Image → Image
put file bytes image name = if bytes_eq name file then bytes else image name

-- the bytes with others written over them, from that place or their end on
abbrev pub overwritten : ℕ → List ℕ → List ℕ → List ℕ
overwritten at bytes old = take at old ++ bytes ++ drop (at + length bytes) old
