use Rattle.components.specs.Answers.{living_numbers}
use Rattle.components.specs.Numbers.{IsNumberAt}
use Rattle.supervisor.proofs.asks.living_at.Given as goal

abbrev pub invariant-loop-turn : goal.invariant-loop-turn
invariant-loop-turn l = IsNumberAt (living_numbers l.slots) l.turn l.found
