use Rattle.std.proofs.Common.{◌+◌, subst, arith, sym}
use Rattle.components.specs.Answers.{living_numbers}
use Rattle.components.specs.Numbers.{IsNumberAt}
use Rattle.components.proofs.Numbers.{next_number, none_later}
use Rattle.supervisor.proofs.asks.number_after.Goals as goal

pub returns-in-None : goal.returns-in-None
returns-in-None c = λ k h. none_later (living_numbers c.args.slots.now) k (k + 1) (omega arith)
    (subst (IsNumberAt (living_numbers c.args.slots.now) k) c.in-None.is h)

pub returns-in-Some : goal.returns-in-Some
returns-in-Some c = λ k h. subst (IsNumberAt (living_numbers c.args.slots.now) (k + 1)) (sym c.next_number.ensures)
    (next_number (living_numbers c.args.slots.now) k c.in-Some.number c.requires (subst (IsNumberAt (living_numbers c.args.slots.now) k) c.in-Some.is h))
