use Rattle.std.proofs.Common.{map}
use Rattle.records.specs.Stored.{item_view}
use Rattle.supervisor.proofs.Readies.{AreReady}
use Rattle.supervisor.proofs.ready.fit_all.Given as goal

abbrev pub invariant-loop-at : goal.invariant-loop-at
invariant-loop-at l = AreReady l.origin (map item_view l.items) l.at l.slots.items
