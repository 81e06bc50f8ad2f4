-- What one more turn of each loop draws.
use Rattle.std.proofs.Common.{◌≡◌, ◌+◌, ◌%◌, ℕ, List, [], ◌∷◌, ◌++◌, Option, refl, add-one, append_assoc}
use Rattle.serde_json.specs.Data.{Data}
use Rattle.serde_json.specs.Written.{compact_text}
use Rattle.workload.specs.Generator.{next_state, next_draw}
use Rattle.workload.specs.Documents.{component_count, document_tree, document_text, drawn_roots, drawn_root_list, drawn_document, drawn_documents}
use Rattle.workload.specs.Recipes.{drawn_need, recipe_text, drawn_versions, drawn_component, drawn_components}

module _ (count seed state : ℕ) (before : state ≡ (drawn_roots count seed).state) where
  pub root_drawn : (root : ℕ) (roots pushed : List ℕ) → roots ≡ (drawn_roots count seed).value → root ≡ next_draw state % component_count →
      pushed ≡ roots ++ root ∷ [] → pushed ≡ (drawn_roots (count + 1) seed).value
  unfolding drawn_roots
  root_drawn root roots pushed so_far drawn now = rw (add-one, now, so_far, drawn, before) refl

  pub root_state : (after : ℕ) → after ≡ next_state state → after ≡ (drawn_roots (count + 1) seed).state
  unfolding drawn_roots
  root_state after now = rw (add-one, now, before) refl

module _ (component minor seed state : ℕ) (before : state ≡ (drawn_versions component minor seed).state) where
  pub version_drawn : (needed : Option ℕ) (recipe : List ℕ) (others recipes pushed : List (List ℕ)) →
      recipes ≡ others ++ (drawn_versions component minor seed).value → needed ≡ (drawn_need component state).value →
      recipe ≡ recipe_text component minor needed → pushed ≡ recipes ++ recipe ∷ [] →
      pushed ≡ others ++ (drawn_versions component (minor + 1) seed).value
  unfolding drawn_versions
  version_drawn needed recipe others recipes pushed so_far drawn made now = rw (add-one, now, so_far, made, drawn, before) (append_assoc others _ _)

  pub version_state : (after : ℕ) → after ≡ (drawn_need component state).state → after ≡ (drawn_versions component (minor + 1) seed).state
  unfolding drawn_versions
  version_state after now = rw (add-one, now, before) refl

module _ (component seed state : ℕ) (before : state ≡ (drawn_components component seed).state) where
  pub component_drawn : (recipes pushed : List (List ℕ)) → recipes ≡ (drawn_components component seed).value →
      pushed ≡ recipes ++ (drawn_component component state).value → pushed ≡ (drawn_components (component + 1) seed).value
  unfolding drawn_components
  component_drawn recipes pushed so_far now = rw (add-one, now, so_far, before) refl

  pub component_state : (after : ℕ) → after ≡ (drawn_component component state).state → after ≡ (drawn_components (component + 1) seed).state
  unfolding drawn_components
  component_state after now = rw (add-one, now, before) refl

module _ (number seed state : ℕ) (before : state ≡ (drawn_documents number seed).state) where
  pub document_drawn : (document : List ℕ) (documents pushed : List (List ℕ)) → documents ≡ (drawn_documents number seed).value →
      document ≡ (drawn_document number state).value → pushed ≡ documents ++ document ∷ [] → pushed ≡ (drawn_documents (number + 1) seed).value
  unfolding drawn_documents
  document_drawn document documents pushed so_far drawn now = rw (add-one, now, so_far, drawn, before) refl

  pub document_state : (after : ℕ) → after ≡ (drawn_document number state).state → after ≡ (drawn_documents (number + 1) seed).state
  unfolding drawn_documents
  document_state after now = rw (add-one, now, before) refl

-- the text of the tree that was made is that of the document that was drawn
pub document_made : (number state group after : ℕ) (roots : List ℕ) (tree : Data) → group ≡ next_draw state % 3 → after ≡ next_state state →
    roots ≡ (drawn_root_list after).value → tree ≡ document_tree number group roots → compact_text tree ≡ (drawn_document number state).value
unfolding document_text
document_made number state group after roots tree is_group is_after are_roots is_tree = rw (is_tree, are_roots, is_after, is_group) refl
