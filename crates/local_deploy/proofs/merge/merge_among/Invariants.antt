use Rattle.std.proofs.Common.{map, drop}
use Rattle.tree_core.specs.View.{field_view}
use Rattle.nuc_base.specs.Tables.{IsPass}
use Rattle.local_deploy.specs.Lines.{merged_lines}
use Rattle.local_deploy.specs.Named.{IsMerged}
use Rattle.local_deploy.proofs.merge.merge_among.Given as goal

abbrev pub invariant-loop-name : goal.invariant-loop-name
invariant-loop-name l = IsPass merged_lines IsMerged (map field_view l.name-items) (map field_view (drop l.name-index l.name-items)) l.merge.items
