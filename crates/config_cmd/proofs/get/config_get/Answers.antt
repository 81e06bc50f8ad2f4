use Rattle.std.proofs.Common.{List, map, sym, subst}
use Rattle.tree_core.proofs.NodeOrder.{node_regular}
use Rattle.tree_core.specs.Regular.{IsRegular}
use Rattle.tree_core.specs.View.{view}
use Rattle.records.specs.Stored.{item_view}
use Rattle.records.specs.declared.record.Item as code
use Rattle.device.specs.Plans.{AreRegularItems}
use Rattle.config_cmd.proofs.Finding.{item_regular}
use Rattle.config_cmd.proofs.get.config_get.Goals as goal

pub get-requires : goal.get-requires
get-requires c =
    item_regular c.args.name.now (map item_view c.as_slice.result.now) (item_view c.in-Some.item.now)
    (subst (λ (l : List code.Item). AreRegularItems (map item_view l)) (sym c.as_slice.ensures) c.requires.set) c.in-Some.ensures

pub write-requires : goal.write-requires
write-requires c =
    let whole : IsRegular (view c.in-Some.item.now.config) = item_regular c.args.name.now (map item_view c.as_slice.result.now) (item_view c.in-Some.item.now)
    (subst (λ (l : List code.Item). AreRegularItems (map item_view l)) (sym c.as_slice.ensures) c.requires.set) c.in-Some.ensures in
    (node_regular c.args.at.now (view c.in-Some.item.now.config) (view c.in-Some-get.node.now) whole (sym c.in-Some-get.ensures)).orderly
