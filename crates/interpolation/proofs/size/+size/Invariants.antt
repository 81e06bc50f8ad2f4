use Rattle.std.proofs.Common.{◌≡◌, ◌+◌, drop}
use Rattle.tree_core.specs.View.{items_view, fields_view}
use Rattle.interpolation.specs.Sizes.{items_least, members_least}
use Rattle.interpolation.proofs.size.+size.Given as goal

-- what was taken and what is still to come are the whole
abbrev pub invariant-room_behind_items-loop-item : goal.invariant-room_behind_items-loop-item
invariant-room_behind_items-loop-item l = l.left + items_least (items_view l.item-items) ≡ l.room + items_least (items_view (drop l.item-index l.item-items))

abbrev pub invariant-room_behind_fields-loop-name : goal.invariant-room_behind_fields-loop-name
invariant-room_behind_fields-loop-name l = l.left + members_least (fields_view l.name-items) ≡ l.room + members_least (fields_view
    (drop l.name-index l.name-items))
