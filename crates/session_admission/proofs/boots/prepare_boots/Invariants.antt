use Rattle.std.proofs.Common.{map, take}
use Rattle.std.specs.List.{AllZip}
use Rattle.records.specs.Stored.{item_view}
use Rattle.session_boots.specs.Made.{IsBootOf}
use Rattle.session_admission.proofs.boots.prepare_boots.Given as goal

abbrev pub invariant-loop-name : goal.invariant-loop-name
invariant-loop-name l = AllZip (IsBootOf l.origin (map item_view l.items)) (take l.name-index l.names) l.made.items
