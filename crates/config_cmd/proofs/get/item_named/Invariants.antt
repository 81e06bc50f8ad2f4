use Rattle.std.proofs.Common.{◌≡◌, map, drop}
use Rattle.records.specs.Stored.{item_view}
use Rattle.device.specs.Lawful.{item_named}
use Rattle.config_cmd.proofs.get.item_named.Given as goal

abbrev pub invariant-loop-item : goal.invariant-loop-item
invariant-loop-item l = item_named l.name (map item_view l.items) ≡ item_named l.name (map item_view (drop l.item-index l.items))
