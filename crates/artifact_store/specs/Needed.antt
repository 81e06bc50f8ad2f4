-- Whether a file is one of an artifact, as a test.
use Rattle.std.specs.Prelude.{ℕ, List, Bool}
use Rattle.std.specs.List.{list_any}
use Rattle.std.specs.Str.{bytes_eq}
use Rattle.records.specs.Stored.{Item}
use Rattle.artifact_store.specs.Paths.{path}

abbrev pub is_file_of : Item → List ℕ → Bool
is_file_of i file = list_any (λ h. bytes_eq (path i.name i.version h.file) file) i.artifacts

abbrev pub is_file_among : List Item → List ℕ → Bool
is_file_among items file = list_any (λ i. is_file_of i file) items
