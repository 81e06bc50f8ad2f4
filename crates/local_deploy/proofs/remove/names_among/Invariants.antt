use Rattle.std.proofs.Common.{map, drop}
use Rattle.tree_core.specs.View.{view}
use Rattle.nuc_base.specs.Tables.{IsPass}
use Rattle.local_deploy.specs.Lines.{removed_lines}
use Rattle.local_deploy.specs.Named.{IsNamed}
use Rattle.local_deploy.proofs.remove.names_among.Given as goal

abbrev pub invariant-loop-item : goal.invariant-loop-item
invariant-loop-item l = IsPass removed_lines IsNamed (map view l.item-items) (map view (drop l.item-index l.item-items)) l.names.items
