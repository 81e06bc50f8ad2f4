-- The list of the files in a folder.
use Rattle.std.specs.Prelude.{◌≡◌, ◌≢◌, ◌↔◌, ℕ, List, [], ◌++◌, Contains, codes}
use Rattle.std.specs.List.Sorted.{IsStrictlySortedBy}
use Rattle.std.specs.Cmp.Lexicographic.{slice_cmp}
use Rattle.std.specs.Ordering.{nat_cmp}
use Rattle.disk_model.specs.Disk.{Image}

-- the folder of the artifacts
abbrev pub artifacts : List ℕ
artifacts = codes "packages/artifacts/"

-- the name begins with the folder
abbrev pub IsBelow : List ℕ → List ℕ → Type 0
IsBelow folder name = (rest : List ℕ) × (name ≡ folder ++ rest)

-- the names in the folder whose files are not empty, rising in byte order
pub record IsListing (folder : List ℕ) (image : Image) (names : List (List ℕ)) : Type 0 where
  pub exact : (name : List ℕ) → Contains names name ↔ (IsBelow folder name × (image name ≢ []))
  pub rising : IsStrictlySortedBy (slice_cmp nat_cmp) names
