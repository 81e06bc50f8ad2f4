use Rattle.std.proofs.Common.{map}
use Rattle.records.specs.Stored.{item_view}
use Rattle.library_core.proofs.Owning.{AreOwn}
use Rattle.library_core.proofs.kept.own_candidates.Given as goal

abbrev pub invariant-loop-item : goal.invariant-loop-item
invariant-loop-item l = AreOwn l.origin.nucleus l.origin.platform (map item_view l.item-items) l.item-index l.candidates
