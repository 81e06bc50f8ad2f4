use Rattle.std.proofs.Common.{◌≡◌, ◌++◌, map, drop}
use Rattle.records.specs.Stored.{item_view}
use Rattle.device.specs.Plans.{AreRegularItems}
use Rattle.plan_core.specs.Set.{items_of, bare}
use Rattle.plan_core.specs.Looks.{candidates_of}
use Rattle.plan_core.proofs.items.bare_items.Given as goal

abbrev pub invariant-loop-candidate : goal.invariant-loop-candidate
invariant-loop-candidate l = record {
  value :
      map item_view l.items.items ++ map bare (items_of (map item_view l.set) l.roots (candidates_of (drop l.candidate-index l.choice)))
      ≡ map bare (items_of (map item_view l.set) l.roots (candidates_of l.choice));
  regular : AreRegularItems (map item_view l.items.items);
}
