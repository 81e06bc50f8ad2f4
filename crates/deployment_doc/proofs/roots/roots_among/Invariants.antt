use Rattle.std.proofs.Common.{map, drop}
use Rattle.tree_core.specs.View.{field_view}
use Rattle.nuc_base.specs.Tables.{IsPass}
use Rattle.deployment_doc.specs.Lines.{component_lines}
use Rattle.deployment_doc.specs.Named.{IsRoot}
use Rattle.deployment_doc.proofs.roots.roots_among.Given as goal

abbrev pub invariant-loop-name : goal.invariant-loop-name
invariant-loop-name l = IsPass component_lines IsRoot (map field_view l.name-items) (map field_view (drop l.name-index l.name-items)) l.roots.items
