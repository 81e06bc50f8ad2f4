use Rattle.std.proofs.Common.{◌≡◌, drop}
use Rattle.components.specs.Components.{owner, owner_from}
use Rattle.supervisor.proofs.asks.owner_of.Given as goal

abbrev pub invariant-loop-at : goal.invariant-loop-at
invariant-loop-at l = owner l.number l.slots ≡ owner_from l.at l.number (drop l.at l.slots)
