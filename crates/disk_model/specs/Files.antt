-- Named files as an image.
use Rattle.std.specs.Prelude.{if◌then◌else◌, ℕ, List, [], ◌∷◌, length}
use Rattle.std.specs.List.{sum_by}
use Rattle.std.specs.Str.{bytes_eq}
use Rattle.disk_model.specs.Disk.{Image}
use Rattle.disk_model.specs.declared.files.File.{File}
use Rattle.disk_model.specs.declared.files.Files.{Files}

-- the image of these files: what the first of that name holds
abbrev pub contents : List File → Image
contents [] name = []
contents (file ∷ files) name = if bytes_eq name file.name then file.bytes.items else contents files name

-- what each name reads as
abbrev pub image_of : Files → Image
image_of f = contents f.files.items

-- how many bytes all files have
abbrev pub bytes_of : Files → ℕ
bytes_of f = sum_by (λ file. length file.bytes.items) f.files.items
