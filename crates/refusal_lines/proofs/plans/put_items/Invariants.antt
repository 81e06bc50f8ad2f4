use Rattle.std.proofs.Common.{◌≡◌, ◌++◌, map, take}
use Rattle.std.specs.List.{flat_map}
use Rattle.records.specs.Stored.{draft_item_view}
use Rattle.refusal_lines.specs.Lines.{item_line}
use Rattle.refusal_lines.proofs.plans.put_items.Given as goal

abbrev pub invariant-loop-item : goal.invariant-loop-item
invariant-loop-item l = l.out ≡ l.fn.out ++ flat_map item_line (map draft_item_view (take l.item-index l.items))
