use Rattle.std.proofs.Common.{◌≡◌, ◌++◌, map, drop}
use Rattle.std.specs.List.{flat_map}
use Rattle.records.specs.Stored.{item_view}
use Rattle.status_text.specs.Regularity.{AreRegular}
use Rattle.status_text.specs.Status.{component_line}
use Rattle.status_text.proofs.lines.put_components.Given as goal

abbrev pub invariant-loop-item : goal.invariant-loop-item
invariant-loop-item l = record {
  written : l.out ++ flat_map component_line (map item_view (drop l.item-index l.items)) ≡ l.fn.out ++ flat_map component_line (map item_view l.items);
  regular : AreRegular (map item_view (drop l.item-index l.items));
}
