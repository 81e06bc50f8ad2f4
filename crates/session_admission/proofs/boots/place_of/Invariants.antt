use Rattle.std.proofs.Common.{◌≡◌, map, drop}
use Rattle.records.specs.Stored.{item_view}
use Rattle.device.specs.Lawful.{place_from}
use Rattle.session_admission.proofs.boots.place_of.Given as goal

abbrev pub invariant-loop-item : goal.invariant-loop-item
invariant-loop-item l = (l.at ≡ l.item-index) × (place_from 0 l.name (map item_view l.items) ≡ place_from l.item-index l.name
    (map item_view (drop l.item-index l.items)))
