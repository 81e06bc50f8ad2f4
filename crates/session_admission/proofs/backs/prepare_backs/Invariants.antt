use Rattle.std.proofs.Common.{map, take}
use Rattle.std.specs.Prelude.{filter}
use Rattle.std.specs.List.{AllZip}
use Rattle.records.specs.Stored.{item_view}
use Rattle.device.specs.Lawful.{goes_back}
use Rattle.session_boots.specs.Made.{IsBootOf}
use Rattle.session_admission.proofs.backs.prepare_backs.Given as goal

abbrev pub invariant-loop-name : goal.invariant-loop-name
invariant-loop-name l = AllZip (IsBootOf l.origin (map item_view l.set))
    (filter (goes_back l.origin.platform (map item_view l.set)) (take l.name-index l.names)) l.made.items
