use Rattle.std.proofs.Common.{◌≡◌, ◌++◌, ◌-◌, map}
use Rattle.tree_core.specs.View.{field_view}
use Rattle.workload.specs.Documents.{component_count, root_fields}
use Rattle.workload.proofs.documents.root_object.Given as goal

abbrev pub invariant-loop-component : goal.invariant-loop-component
invariant-loop-component l =
    map field_view l.fields.items ++ root_fields l.roots l.component (component_count - l.component) ≡ root_fields l.roots 0 component_count
