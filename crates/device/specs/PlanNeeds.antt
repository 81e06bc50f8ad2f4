-- What a plan asks of its items, as they lie in memory beside their recipes.
use Rattle.std.specs.Prelude.{◌≡◌, ℕ, ◌+◌, ◌<◌, ◌≤◌, List, [], ◌∷◌, ◌++◌, length, map, IsSome}
use Rattle.std.specs.List.{AllByRecursion, AllZip, Contains, HoldsAt, IsDistinct}
use Rattle.std.specs.Str.{bytes_eq}
use Rattle.nuc_base.specs.Leads.{HasPath}
use Rattle.nuc_base.specs.declared.platform.Platform.{Platform}
use Rattle.tree_core.specs.Regular.{IsRegular}
use Rattle.tree_core.specs.View.{view}
use Rattle.interpolation.specs.declared.scope.Place.{Place}
use Rattle.dep_order.specs.declared.Need.{Need}
use Rattle.recipe_reader.specs.declared.recipe.Dependency.{Dependency}
use Rattle.recipe_reader.specs.declared.recipe.Recipe.{Recipe}
use Rattle.records.specs.Stored.{item_view}
use Rattle.records.specs.declared.record.Item as code
use Rattle.device.specs.Limits.{most_elements}
use Rattle.device.specs.Plans.{AreRising, HasConfig, HasRecipe, IsRecipeOf, IsMetBy, IsMet, AreItems}
use Rattle.device.specs.Scopes.{IsPlaceOf}

-- ---- one item

abbrev pub IsRegularAt : code.Item → Type 0
IsRegularAt item = IsRegular (view item.config)

abbrev pub HasConfigAt : code.Item → Type 0
HasConfigAt item = HasConfig (item_view item)

abbrev pub HasRecipeAt : Platform → code.Item → Type 0
HasRecipeAt platform item = HasRecipe platform (item_view item)

abbrev pub IsRecipeAt : Platform → code.Item → Recipe → Type 0
IsRecipeAt platform item recipe = IsRecipeOf platform (item_view item) recipe

abbrev pub IsPlaceAt : code.Item → Place → Type 0
IsPlaceAt item place = IsPlaceOf (item_view item) place

-- ---- the names of items

-- the names of items as they lie in memory
abbrev pub names_of : List code.Item → List (List ℕ)
names_of items = map (λ (item : code.Item). item.name) items

-- few, their names rising
pub record AreListed (items : List code.Item) : Type 0 where
  pub few : length items ≤ most_elements
  pub rise : AreRising (names_of items)

-- ---- items by their places

-- an item of that name stands at the place
pub record StandsAt (items : List code.Item) (name : List ℕ) (at : ℕ) : Type 0 where
  pub below : at < length items
  pub named : HoldsAt (λ (item : code.Item). item.name ≡ name) items at

-- the item at the place meets the dependency
pub record IsMetAt (items : List code.Item) (dependency : Dependency) (at : ℕ) : Type 0 where
  pub below : at < length items
  pub meets : HoldsAt (λ (item : code.Item). IsMetBy dependency (item_view item)) items at

-- some item meets it
abbrev pub IsMetIn : List code.Item → Dependency → Type 0
IsMetIn items dependency = IsMet (map item_view items) dependency

-- all that the recipe names is met
abbrev pub AreMet : List code.Item → Recipe → Type 0
AreMet items recipe = AllByRecursion (IsMetIn items) recipe.dependencies

-- that the place needs what meets the dependency
pub record IsNeedOf (items : List code.Item) (at : ℕ) (dependency : Dependency) (need : Need) : Type 0 where
  pub from : need.from ≡ at
  pub to : IsMetAt items dependency need.to

-- the needs of the dependencies in turn
pub record AddsNeeds (items : List code.Item) (from : ℕ) (dependencies : List Dependency) (old new : List Need) : Type 0 where
  pub row : List Need
  pub grows : new ≡ old ++ row
  pub each : AllZip (IsNeedOf items from) dependencies row

-- the needs of the recipes, of which the first is that of the place
abbrev pub AreNeeds : List code.Item → ℕ → List Recipe → List Need → Type 0
AreNeeds items from [] needs = needs ≡ []
AreNeeds items from (recipe ∷ recipes) needs =
    (row : List Need) × (rest : List Need) × (needs ≡ row ++ rest) × AllZip (IsNeedOf items from) recipe.dependencies row ×
    AreNeeds items (from + 1) recipes rest

-- the place of an item of the first name has a recipe that names a dependency of the second
pub record NeedsIn (items : List code.Item) (recipes : List Recipe) (a b : List ℕ) : Type 0 where
  pub at : ℕ
  pub stands : StandsAt items a at
  pub dependency : Dependency
  pub named : HoldsAt (λ (recipe : Recipe). Contains recipe.dependencies dependency) recipes at
  pub to : dependency.name ≡ b

-- what the recipes name is met, without a cycle
pub record FitsTogether (items : List code.Item) (recipes : List Recipe) : Type 0 where
  pub met : AllByRecursion (AreMet items) recipes
  pub acyclic : (name : List ℕ) → HasPath (NeedsIn items recipes) name name → ⊥

-- ---- boots

-- the place of the item of that name has a recipe with a bootstrap step
pub record IsBootIn (items : List code.Item) (recipes : List Recipe) (name : List ℕ) : Type 0 where
  pub at : ℕ
  pub stands : StandsAt items name at
  pub step : HoldsAt (λ (recipe : Recipe). IsSome recipe.bootstrap) recipes at

-- the names are those of different such items
pub record AreBootsIn (items : List code.Item) (recipes : List Recipe) (boots : List (List ℕ)) : Type 0 where
  pub few : length boots ≤ most_elements
  pub differ : IsDistinct bytes_eq boots
  pub each : AllByRecursion (IsBootIn items recipes) boots

-- a device runs these items, and these are their recipes
pub record AreItemsWith (platform : Platform) (items : List code.Item) (recipes : List Recipe) : Type 0 where
  pub are_items : AreItems platform (map item_view items)
  pub each : AllZip (IsRecipeAt platform) items recipes
