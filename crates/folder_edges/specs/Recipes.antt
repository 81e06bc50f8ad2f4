-- What the recipes in a folder holds, by what was seen in the folder.
use Rattle.std.specs.Prelude.{◌≡◌, ◌⊎◌, ℕ, List, [], ◌∷◌, ◌++◌, Option, Some, None, take, Contains}
use Rattle.folders.specs.History.{File, Event, Through}
use Rattle.folders.specs.Calls.{Stands, IsThere, IsReadable, IsPassed, Gave}
use Rattle.folders.specs.declared.folder.Opened.{Opened}
use Rattle.folder_edges.specs.Names.{IsDocumentName}
use Rattle.std.specs.List.Sorted.{IsSorted}
use Rattle.std.specs.Cmp.Lexicographic.{slice_cmp}
use Rattle.std.specs.Ordering.{nat_cmp}

-- the most bytes of a recipe that are given: one more than a recipe may have
abbrev pub most_of_recipe : ℕ
most_of_recipe = 65537

-- the bytes of a file that stood there
pub record IsRead (name : List ℕ) (found : List Event) (bytes : List ℕ) : Type 0 where
  pub opened : Opened
  pub gave : Gave name most_of_recipe found opened
  pub what : bytes ≡ opened.bytes

-- what was read is added, where something was
abbrev pub added : Option Opened → List (List ℕ) → List (List ℕ)
added None recipes = recipes
added (Some opened) recipes = recipes ++ opened.bytes ∷ []

-- the recipes that were read under these names, in their order. A name is passed over where no one file that can be read stood there all
-- the time.
abbrev pub Reads : List Event → List (List ℕ) → List (List ℕ) → Type 0
Reads found [] recipes = recipes ≡ []
Reads found (name ∷ names) [] = IsPassed name found × Reads found names []
Reads found (name ∷ names) (bytes ∷ recipes) = (IsPassed name found × Reads found names (bytes ∷ recipes)) ⊎ (IsRead name found bytes × Reads found names recipes)

-- the names of recipes that stand there, in byte order
pub record ListsNames (found : List Event) (names : List (List ℕ)) : Type 0 where
  pub all : (name : List ℕ) → IsDocumentName name → Through (IsThere name) found → Contains names name
  pub only : (name : List ℕ) → Contains names name → IsDocumentName name
  pub rising : IsSorted (slice_cmp nat_cmp) names

-- those of a listing
pub record HoldsRecipes (found : List Event) (recipes : List (List ℕ)) : Type 0 where
  pub names : List (List ℕ)
  pub lists : ListsNames found names
  pub reads : Reads found names recipes

-- what stays there while the folder is listed and read is held
abbrev pub HoldsWhatStays : Type 0
HoldsWhatStays = (name : List ℕ) (f : File) (found : List Event) (recipes : List (List ℕ)) → IsDocumentName name → IsReadable f →
    Through (Stands name f) found → HoldsRecipes found recipes → Contains recipes (take most_of_recipe f.bytes)
