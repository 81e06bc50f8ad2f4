use Rattle.std.proofs.Common.{◌≡◌, ◌++◌, map, drop}
use Rattle.std.specs.List.{flat_map, AllByRecursion}
use Rattle.records.proofs.coded.put_items.Given as goal

abbrev pub invariant-loop-item : goal.invariant-loop-item
invariant-loop-item g l = (l.out.items ++ flat_map g.T.Coded.spell (map g.T.Coded.seen (drop l.item-index l.items)) ≡ l.fn.out.items
    ++ flat_map g.T.Coded.spell (map g.T.Coded.seen l.items))
    × AllByRecursion g.T.Coded.asks (map g.T.Coded.seen (drop l.item-index l.items))
    × (AllByRecursion g.T.Coded.fits (map g.T.Coded.seen (drop l.item-index l.items)) → AllByRecursion g.T.Coded.fits (map g.T.Coded.seen l.items))
