use Rattle.std.proofs.Common.{map, drop}
use Rattle.records.specs.Stored.{item_view}
use Rattle.plan_core.proofs.Growing.{Checked}
use Rattle.plan_core.proofs.sizes.check_configs.Given as goal

abbrev pub invariant-loop-item : goal.invariant-loop-item
invariant-loop-item l = Checked (map item_view l.items) (map item_view (drop l.item-index l.items))
