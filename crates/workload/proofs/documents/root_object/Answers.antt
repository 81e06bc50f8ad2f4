use Rattle.std.proofs.Common.{◌≡◌, ℕ, List, map, refl, ap, sym, subst, arith, ◌∙◌}
use Rattle.serde_json.specs.Data.{Data, object}
use Rattle.tree_core.specs.Regular.{IsOrderly}
use Rattle.tree_core.specs.View.{field_view, members_of}
use Rattle.tree_core.proofs.Seen.{seen}
use Rattle.workload.specs.Documents.{component_count, root_fields}
use Rattle.workload.proofs.Roots.{one_passed, all_passed, roots_orderly}
use Rattle.workload.proofs.documents.root_object.Goals as goal

pub loop-component-init : goal.loop-component-init
loop-component-init c = rw c.new-fields.ensures.items refl

pub loop-component-preserved : goal.loop-component-preserved
loop-component-preserved c = one_passed _ _ _ _ _ _ c.loop-component-test.true c.loop-component.invariant c.in_ok-put_root.ensures

whole : (c : goal.After-loop-component) → map field_view c.loop-component.fields.items ≡ root_fields c.args.roots.now 0 component_count
whole c = all_passed c.args.roots.now c.loop-component.component component_count _ _ c.loop-component-test.false c.loop-component.invariant

pub returns-clause-tree : goal.returns-clause-tree
returns-clause-tree c = seen c.loop-component.fields ∙ ap (λ (fields : List (List ℕ × Data)). object (members_of fields)) (whole c)

pub returns-clause-orderly : goal.returns-clause-orderly
returns-clause-orderly c =
    subst (λ (d : Data). IsOrderly d) (sym (returns-clause-tree c)) (roots_orderly c.args.roots.now 0 component_count (omega arith))
