-- The scope of an item among others.
use Rattle.std.specs.Prelude.{◌≡◌, ℕ, Bool, List, [], ◌∷◌, ◌++◌, filter, Some, slice_get, MatchBool}
use Rattle.std.specs.List.{AllZip, list_any}
use Rattle.std.specs.Str.{bytes_eq}
use Rattle.tree_core.specs.View.{view}
use Rattle.recipe_reader.specs.OneRecipe.{IsRecipeFor}
use Rattle.recipe_reader.specs.declared.recipe.Recipe.{Recipe}
use Rattle.interpolation.specs.Scopes.{HasRegularConfigs}
use Rattle.interpolation.specs.declared.scope.Place.{Place}
use Rattle.interpolation.specs.declared.scope.Scope.{Scope}
use Rattle.records.specs.Stored.{Item, item_view}
use Rattle.records.specs.declared.record.Item as code
use Rattle.records.specs.declared.record.Origin.{Origin}

-- the name, the version and the configuration of the item
pub record IsPlaceOf (item : Item) (place : Place) : Type 0 where
  pub name : place.name ≡ item.name
  pub version : place.version ≡ item.version
  pub config : view place.config ≡ item.config

-- the recipe names the item as a dependency
abbrev pub is_needed : Recipe → Item → Bool
is_needed recipe item = list_any (λ d. bytes_eq d.name item.name) recipe.dependencies

-- the items that the recipe names, in their order, which is that of their names in a set
abbrev pub needed_items : Recipe → List Item → List Item
needed_items recipe items = filter (is_needed recipe) items

-- The scope of the item at the place: the folder and the thing of the device, the item itself, and the items that its recipe names.
pub record IsScopeOf (origin : Origin) (items : List Item) (at : ℕ) (scope : Scope) : Type 0 where
  pub root : scope.root ≡ origin.root
  pub thing : scope.thing ≡ origin.thing
  pub item : Item
  pub there : slice_get items at ≡ Some item
  pub own : IsPlaceOf item scope.own
  pub recipe : Recipe
  pub reads : IsRecipeFor item.recipe origin.platform recipe
  pub needed : AllZip IsPlaceOf (needed_items recipe items) scope.needed
  pub regular : HasRegularConfigs scope

-- the item at the place has a recipe for the platform of the device
pub record HasScope (origin : Origin) (items : List Item) (at : ℕ) : Type 0 where
  pub item : Item
  pub there : slice_get items at ≡ Some item
  pub recipe : Recipe
  pub reads : IsRecipeFor item.recipe origin.platform recipe

-- ---- the parts of a scope, of items as they lie in memory

-- the recipe names the item as a dependency
abbrev pub is_needed_at : Recipe → code.Item → Bool
is_needed_at recipe item = is_needed recipe (item_view item)

-- the items that the recipe names
abbrev pub needed_at : Recipe → List code.Item → List code.Item
needed_at recipe items = filter (is_needed_at recipe) items

-- each place is that of the item beside it
abbrev pub ArePlacesAt : List code.Item → List Place → Type 0
ArePlacesAt items places = AllZip (λ (item : code.Item). IsPlaceOf (item_view item)) items places

-- one more place, that of the item
pub record AddsPlace (item : code.Item) (old new : List Place) : Type 0 where
  pub place : Place
  pub is : IsPlaceOf (item_view item) place
  pub grows : new ≡ old ++ place ∷ []

-- the place of the item, where the recipe names it
abbrev pub AddsNeeded : Recipe → code.Item → List Place → List Place → Type 0
AddsNeeded recipe item old new = MatchBool (is_needed_at recipe item) (AddsPlace item old new) (new ≡ old)

-- the scope of the item by that recipe
pub record IsScopeBy (origin : Origin) (recipe : Recipe) (item : code.Item) (items : List code.Item) (scope : Scope) : Type 0 where
  pub root : scope.root ≡ origin.root
  pub thing : scope.thing ≡ origin.thing
  pub own : IsPlaceOf (item_view item) scope.own
  pub needed : ArePlacesAt (needed_at recipe items) scope.needed
