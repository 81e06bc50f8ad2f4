use Rattle.std.proofs.Common.{map, drop}
use Rattle.records.specs.Stored.{item_view}
use Rattle.plan_core.specs.Boots.{IsDue}
use Rattle.plan_core.specs.Looks.{candidates_of}
use Rattle.plan_core.proofs.Facts.{Picks}
use Rattle.plan_core.proofs.boots.boots_of.Given as goal

abbrev pub invariant-loop-place : goal.invariant-loop-place
invariant-loop-place l =
    Picks (IsDue l.origin (map item_view l.set) (candidates_of l.choice) (map item_view l.items)) (candidates_of l.choice) l.place-items
    (drop l.place-index l.place-items) l.boots.items
