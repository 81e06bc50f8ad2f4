use Rattle.std.proofs.Common.{◌≡◌, drop}
use Rattle.components.specs.Answers.{living_numbers}
use Rattle.components.specs.Deadlines.{earlier}
use Rattle.components.specs.Numbers.{least_above}
use Rattle.supervisor.proofs.asks.next_number.Given as goal

abbrev pub invariant-loop-slot : goal.invariant-loop-slot
invariant-loop-slot l = least_above l.last (living_numbers l.slots) ≡ earlier l.least (least_above l.last (living_numbers (drop l.slot-index l.slots)))
