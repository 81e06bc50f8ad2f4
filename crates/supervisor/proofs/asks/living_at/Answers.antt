use Rattle.std.proofs.Common.{◌≡◌, ℕ, subst, arith, sym}
use Rattle.components.specs.Answers.{living_numbers}
use Rattle.components.specs.Numbers.{IsNumberAt}
use Rattle.components.proofs.Numbers.{first_number}
use Rattle.supervisor.proofs.asks.living_at.Goals as goal

pub loop-turn-init : goal.loop-turn-init
loop-turn-init c = subst (IsNumberAt (living_numbers c.args.slots.now) 0) (sym c.next_number-found.ensures) (first_number (living_numbers c.args.slots.now))

pub returns : goal.returns
returns c = let e : c.loop-turn.turn ≡ c.args.at = omega arith in subst (λ (k : ℕ). IsNumberAt (living_numbers c.args.slots.now) k c.loop-turn.found) e
    c.loop-turn.invariant

pub loop-turn-preserved : goal.loop-turn-preserved
loop-turn-preserved c = c.number_after-found.ensures c.loop-turn.turn c.loop-turn.invariant
