-- The documents of a workload.
use Rattle.std.specs.Prelude.{ℕ, zero, suc, ◌+◌, ◌%◌, Bool, nat_eq, List, [], ◌∷◌, ◌++◌, map, filter, if◌then◌else◌, codes}
use Rattle.std.specs.List.{list_any, range_with_len}
use Rattle.serde_json.specs.Data.{Data, string, object}
use Rattle.serde_json.specs.Written.{compact_text}
use Rattle.tree_core.specs.View.{members_of}
use Rattle.workload.specs.Generator.{next_state, next_draw, Drawing}
use Rattle.workload.specs.Names.{component_name, group_name, deployment_id, requirement}
use Rattle.workload.specs.Objects.{object_of}

abbrev pub component_count : ℕ
component_count = 24

-- ---- one document

abbrev pub is_root : List ℕ → ℕ → Bool
is_root roots component = list_any (λ r. nat_eq r component) roots

-- the components from this one on, so many, that are among the roots: each once, in order
abbrev pub roots_among : List ℕ → ℕ → ℕ → List ℕ
roots_among roots first count = filter (is_root roots) (range_with_len first count)

abbrev pub root_field : ℕ → List ℕ × Data
root_field component = (component_name component, object_of (codes "componentVersion") (string requirement))

-- the field of a component where it is a root
abbrev pub root_list : List ℕ → ℕ → List (List ℕ × Data)
root_list roots component = if is_root roots component then root_field component ∷ [] else []

unfoldable pub root_fields : List ℕ → ℕ → ℕ → List (List ℕ × Data)
root_fields roots first count = map root_field (roots_among roots first count)

abbrev pub document_fields : ℕ → ℕ → List ℕ → List (List ℕ × Data)
document_fields number group roots =
    (codes "components", object (members_of (root_fields roots 0 component_count)))
    ∷ (codes "deploymentId", string (deployment_id number))
    ∷ (codes "targetArn", string (group_name group))
    ∷ []

abbrev pub document_tree : ℕ → ℕ → List ℕ → Data
document_tree number group roots = object (members_of (document_fields number group roots))

unfoldable pub document_text : ℕ → ℕ → List ℕ → List ℕ
document_text number group roots = compact_text (document_tree number group roots)

-- ---- what is drawn

-- so many roots, some of which may be the same
unfoldable pub drawn_roots : ℕ → ℕ → Drawing (List ℕ)
drawn_roots zero state = record { value = []; state = state }
drawn_roots (suc count) state =
    let before = drawn_roots count state in
    record { value = before.value ++ (next_draw before.state % component_count) ∷ []; state = next_state before.state }

-- a document has one to four roots
abbrev pub drawn_root_list : ℕ → Drawing (List ℕ)
drawn_root_list state = drawn_roots (1 + next_draw state % 4) (next_state state)

abbrev pub drawn_document : ℕ → ℕ → Drawing (List ℕ)
drawn_document number state =
    let roots = drawn_root_list (next_state state) in
    record { value = document_text number (next_draw state % 3) roots.value; state = roots.state }

-- the first documents, so many
unfoldable pub drawn_documents : ℕ → ℕ → Drawing (List (List ℕ))
drawn_documents zero state = record { value = []; state = state }
drawn_documents (suc number) state =
    let before = drawn_documents number state in
    let document = drawn_document number before.state in
    record { value = before.value ++ document.value ∷ []; state = document.state }
