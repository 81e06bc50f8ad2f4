-- Documents that were listed.
use Rattle.std.specs.Prelude.{◌≡◌, ℕ, List, [], ◌∷◌, ◌++◌, Bool, true, false, Option, Some, None, map}
use Rattle.folder_edges.specs.declared.listing.Entry.{Entry}
use Rattle.folder_edges.specs.declared.listing.Place.{Place}
use Rattle.folder_edges.specs.declared.listing.Place.TheVariants.{Inbox, Taken}
use Rattle.folder_edges.specs.Names.{AreDocumentsOf}

abbrev pub entry : Place → List ℕ → Entry
entry place name = record { place = place; name = name }

-- the same, where the first was taken
abbrev pub marked : Bool → List Entry → List Entry
marked false entries = entries
marked true [] = []
marked true (e ∷ entries) = entry Taken e.name ∷ entries

abbrev pub first_of : List Entry → Option Entry
first_of [] = None
first_of (e ∷ entries) = Some e

abbrev pub place_of_first : List Entry → Option Place
place_of_first [] = None
place_of_first (e ∷ entries) = Some e.place

abbrev pub name_of_first : List Entry → Option (List ℕ)
name_of_first [] = None
name_of_first (e ∷ entries) = Some e.name

abbrev pub entries_of : Place → List (List ℕ) → List Entry
entries_of place [] = []
entries_of place (name ∷ names) = entry place name ∷ entries_of place names

-- the documents that were taken, and then those of the inbox, each in byte order of their names
pub record AreEntriesOf (taken names : List (List ℕ)) (entries : List Entry) : Type 0 where
  pub before : List (List ℕ)
  pub others : List (List ℕ)
  pub are : entries ≡ entries_of Taken before ++ entries_of Inbox others
  pub of_taken : AreDocumentsOf taken before
  pub of_names : AreDocumentsOf names others

-- the name of the first, where there is one
abbrev pub names_of_first : List Entry → List (List ℕ)
names_of_first [] = []
names_of_first (e ∷ entries) = e.name ∷ []
