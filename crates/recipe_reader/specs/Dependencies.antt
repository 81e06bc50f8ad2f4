-- The components that a recipe's component needs.
use Rattle.std.specs.Prelude.{◌≡◌, ℕ, ◌≤◌, ◌⊎◌, Bool, true, List, [], ◌++◌, length, codes, Option, Some, None}
use Rattle.std.specs.List.{AllZip}
use Rattle.serde_json.specs.Data.{Data, string}
use Rattle.serde_json.specs.Find.{get}
use Rattle.nuc_base.specs.Names.{IsName}
use Rattle.nuc_base.specs.Tables.{Table, each}
use Rattle.npm_ranges.specs.Ranges.{IsRange}
use Rattle.tree_core.specs.Parts.{present, IsText, IsTextOf, IsObject, members, check, optional}
use Rattle.recipe_reader.specs.Spelled.{spelled}
use Rattle.recipe_reader.specs.Keys.{is_same}
use Rattle.recipe_reader.specs.declared.recipe.Dependency.{Dependency}
use Rattle.recipe_reader.specs.declared.fault.Key.TheVariants as key
use Rattle.recipe_reader.specs.declared.fault.RecipeFault.{RecipeFault}
use Rattle.recipe_reader.specs.declared.fault.RecipeFault.TheVariants as fault

abbrev pub range_lines : Data → Table RecipeFault
range_lines v = check (IsText v) (fault.WrongKind key.VersionRequirement) ++ check (IsTextOf IsRange v) fault.BadRange

-- any version, where none is asked for
abbrev pub IsRangeOf : Option Data → List ℕ → Type 0
IsRangeOf None range = range ≡ codes "*"
IsRangeOf (Some v) range = v ≡ string range

-- one of the two words, in any case
abbrev pub IsKind : List ℕ → Type 0
IsKind s = (is_same (codes "HARD") s ≡ true) ⊎ (is_same (codes "SOFT") s ≡ true)

abbrev pub kind_lines : Data → Table RecipeFault
kind_lines v = check (IsTextOf IsKind v) (fault.WrongKind key.DependencyType)

-- hard, where nothing is said
abbrev pub IsHard : Option Data → Bool → Type 0
IsHard None hard = hard ≡ true
IsHard (Some v) hard = IsTextOf (λ s. hard ≡ is_same (codes "HARD") s) v

abbrev pub dependency_lines : List ℕ × Data → Table RecipeFault
dependency_lines m =
    check (IsName m.0) (fault.BadName key.ComponentDependencies)
    ++ check (IsObject m.1) (fault.WrongKind key.ComponentDependencies)
    ++ optional (spelled key.VersionRequirement) m.1 range_lines
    ++ optional (spelled key.DependencyType) m.1 kind_lines

pub record IsDependency (m : List ℕ × Data) (dependency : Dependency) : Type 0 where
  pub name : dependency.name ≡ m.0
  pub range : IsRangeOf (present (get (spelled key.VersionRequirement) m.1)) dependency.range
  pub kind : IsHard (present (get (spelled key.DependencyType) m.1)) dependency.hard

abbrev pub dependencies_lines : Data → Table RecipeFault
dependencies_lines v =
    check (IsObject v) (fault.WrongKind key.ComponentDependencies)
    ++ check (length (members v) ≤ 64) (fault.TooMany key.ComponentDependencies)
    ++ each dependency_lines (members v)

abbrev pub AreDependencies : Option Data → List Dependency → Type 0
AreDependencies None dependencies = dependencies ≡ []
AreDependencies (Some v) dependencies = AllZip IsDependency (members v) dependencies
