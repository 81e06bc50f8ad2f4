-- What a library in memory holds, what comes, and which of its calls fail.
use Rattle.std.specs.Prelude.{◌≡◌, ℕ, List, [], ◌∷◌, map, Bool, true, ◌&&◌, nat_eq, Option, Some, None, option_map, Contains, if◌then◌else◌}
use Rattle.std.specs.Cmp.Lexicographic.{pointwise}
use Rattle.nuc_base.specs.declared.failing.Failing.{Failing}
use Rattle.nuc_base.specs.Failing.{failing_numbers, calls_of}
use Rattle.library_core.specs.Library.{Artifacts, Content}
use Rattle.library_core.specs.declared.memory.Contents.{Contents}
use Rattle.library_core.specs.declared.memory.MemoryLibrary.{MemoryLibrary}
use Rattle.library_core.specs.declared.memory.Stored.{Stored}

abbrev pub is_stored : List ℕ → List ℕ → List ℕ → Stored → Bool
is_stored name version file s = (pointwise nat_eq s.name name && pointwise nat_eq s.version version) && pointwise nat_eq s.file file

-- the bytes of the first that has this name, version and file
abbrev pub stored_in : List Stored → Artifacts
stored_in [] name version file = None
stored_in (s ∷ ss) name version file = if is_stored name version file s then Some s.bytes else stored_in ss name version file

-- it tells all
abbrev pub content_of : Contents → Content
content_of c = record { recipes = Some c.recipes; artifacts = Some (stored_in c.artifacts); tells = true }

abbrev pub library_content : MemoryLibrary → Content
library_content m = content_of m.held

-- none where there is no list
abbrev pub listed : {X : Type 0} → Option (List X) → List X
listed None = []
listed (Some xs) = xs

abbrev pub library_coming : MemoryLibrary → List Content
library_coming m = map content_of (listed (option_map (λ q. q.items) m.coming))

-- the first of them, and what comes after it
abbrev pub IsNext : List Contents → Option Contents → List Contents → Type 0
IsNext coming None rest = (coming ≡ []) × (rest ≡ [])
IsNext coming (Some next) rest = coming ≡ next ∷ rest

abbrev pub library_failing : MemoryLibrary → Failing
library_failing m = m.failing

-- the call that comes now is one of those that fail
abbrev pub IsListed : Failing → Type 0
IsListed f = Contains (failing_numbers f) (calls_of f)
