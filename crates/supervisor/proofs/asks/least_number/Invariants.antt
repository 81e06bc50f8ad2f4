use Rattle.std.proofs.Common.{◌≡◌, drop}
use Rattle.components.specs.Answers.{child_numbers}
use Rattle.components.specs.Deadlines.{earlier}
use Rattle.components.specs.Numbers.{least_above}
use Rattle.supervisor.proofs.asks.least_number.Given as goal

abbrev pub invariant-loop-child : goal.invariant-loop-child
invariant-loop-child l = earlier l.fn.other (least_above l.last (child_numbers l.children)) ≡ earlier l.least
    (least_above l.last (child_numbers (drop l.child-index l.children)))
