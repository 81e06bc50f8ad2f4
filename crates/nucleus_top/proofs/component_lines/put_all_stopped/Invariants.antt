use Rattle.std.proofs.Common.{◌≡◌, ◌++◌, map, drop}
use Rattle.std.specs.List.{flat_map}
use Rattle.records.specs.Stored.{item_view}
use Rattle.nucleus_top.specs.Components.{stopped_line}
use Rattle.nucleus_top.proofs.component_lines.put_all_stopped.Given as goal

abbrev pub invariant-loop-item : goal.invariant-loop-item
invariant-loop-item l =
    l.out ++ flat_map stopped_line (map item_view (drop l.item-index l.items)) ≡ l.fn.out ++ flat_map stopped_line (map item_view l.items)
