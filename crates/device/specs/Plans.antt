-- What the record of an accepted plan asks of the plan itself.
use Rattle.std.specs.Prelude.{◌≡◌, ℕ, ◌≤◌, List, length, map, IsSome, IfSome}
use Rattle.std.specs.List.{All, AllByRecursion, AllZip, Contains, IsDistinct}
use Rattle.std.specs.List.Sorted.{IsStrictlySortedBy}
use Rattle.std.specs.Ordering.{nat_cmp}
use Rattle.std.specs.Cmp.Lexicographic.{slice_cmp}
use Rattle.std.specs.Str.{bytes_eq}
use Rattle.serde_json.specs.Data.{Data}
use Rattle.serde_json.specs.Written.{compact_text}
use Rattle.nuc_base.specs.Leads.{HasPath}
use Rattle.nuc_base.specs.declared.artifact.Artifact.{Artifact}
use Rattle.nuc_base.specs.declared.platform.Platform.{Platform}
use Rattle.npm_ranges.specs.Ranges.{IsInRange}
use Rattle.tree_core.specs.Parts.{IsObject}
use Rattle.tree_core.specs.Regular.{IsRegular}
use Rattle.recipe_reader.specs.OneRecipe.{IsRecipeFor}
use Rattle.recipe_reader.specs.declared.recipe.Dependency.{Dependency}
use Rattle.recipe_reader.specs.declared.recipe.Recipe.{Recipe}
use Rattle.records.specs.Stored.{Item, Plan}
use Rattle.records.specs.declared.record.Held.{Held}
use Rattle.records.specs.declared.record.Requirement.{Requirement}
use Rattle.device.specs.Limits.{most_elements, most_config}

-- ---- names

abbrev pub item_name : Item → List ℕ
item_name item = item.name

abbrev pub requirement_name : Requirement → List ℕ
requirement_name requirement = requirement.name

-- the names rise strictly in byte order
abbrev pub AreRising : List (List ℕ) → Type 0
AreRising names = IsStrictlySortedBy (slice_cmp nat_cmp) names

-- ---- an item and its recipe

-- the file of the recipe, with the digest that the recipe gives where it gives one
pub record IsHeldFor (artifact : Artifact) (held : Held) : Type 0 where
  pub file : held.file ≡ artifact.file
  pub digest : IfSome artifact.digest (λ d. held.digest ≡ d)

-- the item's bytes are this recipe, which is one of its name, its version and its files in order
pub record IsRecipeOf (platform : Platform) (item : Item) (recipe : Recipe) : Type 0 where
  pub reads : IsRecipeFor item.recipe platform recipe
  pub name : recipe.name ≡ item.name
  pub version : recipe.version ≡ item.version
  pub files : AllZip IsHeldFor recipe.artifacts item.artifacts

-- the bytes are a recipe for the platform
abbrev pub HasSomeRecipe : Platform → List ℕ → Type 0
HasSomeRecipe platform bytes = (recipe : Recipe) × IsRecipeFor bytes platform recipe

-- no recipe for the platform
abbrev pub IsNoRecipe : Platform → List ℕ → Type 0
IsNoRecipe platform bytes = (recipe : Recipe) → IsRecipeFor bytes platform recipe → ⊥

abbrev pub HasRecipe : Platform → Item → Type 0
HasRecipe platform item = (recipe : Recipe) × IsRecipeOf platform item recipe

-- an object whose text has at most 65,536 bytes
pub record IsConfig (d : Data) : Type 0 where
  pub is_object : IsObject d
  pub short : length (compact_text d) ≤ most_config

abbrev pub HasConfig : Item → Type 0
HasConfig item = IsConfig item.config

-- each configuration is a regular tree
abbrev pub AreRegularItems : List Item → Type 0
AreRegularItems items = All (λ item. IsRegular item.config) items

-- ---- dependencies, hard and soft

-- the item's recipe names the dependency
pub record NamesDependency (platform : Platform) (item : Item) (dependency : Dependency) : Type 0 where
  pub recipe : Recipe
  pub reads : IsRecipeFor item.recipe platform recipe
  pub named : Contains recipe.dependencies dependency

-- the item has the name, and a version in the range
pub record IsMetBy (dependency : Dependency) (item : Item) : Type 0 where
  pub name : item.name ≡ dependency.name
  pub version : IsInRange item.version dependency.range

-- one of the items meets the dependency
pub record IsMet (items : List Item) (dependency : Dependency) : Type 0 where
  pub item : Item
  pub is_one : Contains items item
  pub meets : IsMetBy dependency item

-- whatever the item's recipe names as a dependency is met
abbrev pub IsSupplied : Platform → List Item → Item → Type 0
IsSupplied platform items item = (dependency : Dependency) → NamesDependency platform item dependency → IsMet items dependency

-- an item of the first name has a dependency of the second
pub record NeedsByName (platform : Platform) (items : List Item) (a b : List ℕ) : Type 0 where
  pub item : Item
  pub is_one : Contains items item
  pub from : item.name ≡ a
  pub dependency : Dependency
  pub names : NamesDependency platform item dependency
  pub to : dependency.name ≡ b

-- ---- bootstraps

-- the name of an item with a bootstrap step
pub record IsBoot (platform : Platform) (items : List Item) (name : List ℕ) : Type 0 where
  pub item : Item
  pub is_one : Contains items item
  pub named : item.name ≡ name
  pub recipe : Recipe
  pub reads : IsRecipeFor item.recipe platform recipe
  pub step : IsSome recipe.bootstrap

-- ---- the whole

-- each group's requirements, and a plan's: few, their names rising
pub record AreRequirements (requirements : List Requirement) : Type 0 where
  pub few : length requirements ≤ most_elements
  pub rise : AreRising (map requirement_name requirements)

-- what a device runs: few items, their names rising, each with its recipe and its configuration, and all that they name as dependencies is met without a cycle
pub record AreItems (platform : Platform) (items : List Item) : Type 0 where
  pub few : length items ≤ most_elements
  pub rise : AreRising (map item_name items)
  pub recipes : AllByRecursion (HasRecipe platform) items
  pub configs : AllByRecursion HasConfig items
  pub supplied : AllByRecursion (IsSupplied platform items) items
  pub acyclic : (name : List ℕ) → HasPath (NeedsByName platform items) name name → ⊥

-- the names of different items with a bootstrap step. That they are few follows; it stands here for those who count them.
pub record AreBoots (platform : Platform) (items : List Item) (boots : List (List ℕ)) : Type 0 where
  pub few : length boots ≤ most_elements
  pub differ : IsDistinct bytes_eq boots
  pub each : AllByRecursion (IsBoot platform items) boots

pub record IsPlan (platform : Platform) (plan : Plan) : Type 0 where
  pub requirements : AreRequirements plan.requirements
  pub items : AreItems platform plan.items
  pub boots : AreBoots platform plan.items plan.boots
