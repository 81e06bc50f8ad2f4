-- Which bootstraps run again on the way back, as recipes tell it.
use Rattle.std.specs.Prelude.{◌≡◌, ℕ, Bool, false, List, length, map, take, Option, Some, None, MatchBool}
use Rattle.std.specs.List.{AllByRecursion}
use Rattle.nuc_base.specs.declared.platform.Platform.{Platform}
use Rattle.recipe_reader.specs.Backs.{is_back}
use Rattle.records.specs.Stored.{Item}
use Rattle.device.specs.Plans.{HasSomeRecipe}
use Rattle.device.specs.Lawful.{IsReadable, goes_back, item_named}

-- whether the item's bootstrap does, where its bytes are a recipe
abbrev pub SaysBack : Platform → Item → Option Bool → Type 0
SaysBack platform item None = HasSomeRecipe platform item.recipe → ⊥
SaysBack platform item (Some b) = HasSomeRecipe platform item.recipe × (b ≡ is_back platform item.recipe)

-- no item has no bootstrap
abbrev pub TellsBackOf : Platform → Option Item → Option Bool → Type 0
TellsBackOf platform None o = o ≡ Some false
TellsBackOf platform (Some i) o = SaysBack platform i o

abbrev pub TellsBack : Platform → List Item → List ℕ → Option Bool → Type 0
TellsBack platform set n o = TellsBackOf platform (item_named n set) o

-- the flags of these names, where all their recipes tell
abbrev pub TellBacks : Platform → List Item → List (List ℕ) → List Bool → Bool → Type 0
TellBacks platform set names flags b = MatchBool b
    (AllByRecursion (IsReadable platform set) names × (take (length names) flags ≡ map (goes_back platform set) names))
    (AllByRecursion (IsReadable platform set) names → ⊥)
