-- The recipes of a workload.
use Rattle.std.specs.Prelude.{ℕ, zero, suc, ◌+◌, ◌%◌, ◌==◌, List, [], ◌∷◌, ◌++◌, Option, Some, None, if◌then◌else◌, codes}
use Rattle.serde_json.specs.Data.{Data, string, array, object, no_items, item}
use Rattle.serde_json.specs.Written.{compact_text}
use Rattle.tree_core.specs.View.{members_of}
use Rattle.workload.specs.Generator.{next_state, next_draw, Drawing}
use Rattle.workload.specs.Names.{component_name, version_text, requirement}
use Rattle.workload.specs.Objects.{object_of}

-- ---- one recipe

-- one manifest, for every platform, whose startup step runs `start`
abbrev pub manifests : Data
manifests = array (item (object_of (codes "Lifecycle") (object_of (codes "startup") (string (codes "start")))) no_items)

-- a dependency that names no type is a hard one
abbrev pub dependency : ℕ → Data
dependency needed = object_of (component_name needed) (object_of (codes "VersionRequirement") (string requirement))

abbrev pub dependency_fields : Option ℕ → List (List ℕ × Data)
dependency_fields None = []
dependency_fields (Some needed) = (codes "ComponentDependencies", dependency needed) ∷ []

abbrev pub recipe_fields : ℕ → ℕ → Option ℕ → List (List ℕ × Data)
recipe_fields component minor needed =
    dependency_fields needed
    ++ (codes "ComponentName", string (component_name component))
    ∷ (codes "ComponentVersion", string (version_text minor))
    ∷ (codes "Manifests", manifests)
    ∷ (codes "RecipeFormatVersion", string (codes "2020-01-25"))
    ∷ []

abbrev pub recipe_tree : ℕ → ℕ → Option ℕ → Data
recipe_tree component minor needed = object (members_of (recipe_fields component minor needed))

unfoldable pub recipe_text : ℕ → ℕ → Option ℕ → List ℕ
recipe_text component minor needed = compact_text (recipe_tree component minor needed)

-- ---- what is drawn

-- every component but the first needs one before it
abbrev pub drawn_need : ℕ → ℕ → Drawing (Option ℕ)
drawn_need component state =
    if component == 0
    then record { value = None; state = state }
    else record { value = Some (next_draw state % component); state = next_state state }

-- the first versions of a component, so many
unfoldable pub drawn_versions : ℕ → ℕ → ℕ → Drawing (List (List ℕ))
drawn_versions component zero state = record { value = []; state = state }
drawn_versions component (suc minor) state =
    let before = drawn_versions component minor state in
    let need = drawn_need component before.state in
    record { value = before.value ++ recipe_text component minor need.value ∷ []; state = need.state }

-- a component has one to three versions
abbrev pub drawn_component : ℕ → ℕ → Drawing (List (List ℕ))
drawn_component component state = drawn_versions component (1 + next_draw state % 3) (next_state state)

-- the first components, so many
unfoldable pub drawn_components : ℕ → ℕ → Drawing (List (List ℕ))
drawn_components zero state = record { value = []; state = state }
drawn_components (suc component) state =
    let before = drawn_components component state in
    let versions = drawn_component component before.state in
    record { value = before.value ++ versions.value; state = versions.state }
