use Rattle.std.proofs.Common.{◌≡◌, ◌+◌, ◌≤◌, drop, filter, length}
use Rattle.components.specs.Components.{is_down}
use Rattle.supervisor.proofs.asks.broken_among.Given as goal

abbrev pub invariant-loop-slot : goal.invariant-loop-slot
invariant-loop-slot l = (l.down ≤ l.slot-index) × (l.down + length (filter is_down (drop l.slot-index l.slots)) ≡ length (filter is_down l.slots))
