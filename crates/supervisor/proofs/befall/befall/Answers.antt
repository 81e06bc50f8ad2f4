use Rattle.std.proofs.Common.{ap, sym, ◌∙◌}
use Rattle.components.specs.Events.{noticed}
use Rattle.components.specs.Flags.{at_moment}
use Rattle.components.specs.declared.kinds.Event.{Event}
use Rattle.supervisor.proofs.Worlds.{begun_at, handed_below}
use Rattle.supervisor.proofs.befall.befall.Goals as goal

pub start-requires-clause-begun : goal.start-requires-clause-begun
start-requires-clause-begun c = begun_at c.in-Started.at c.in-Started.step (at_moment c.args.slots.now c.args.moment c.args.steady)
    (rw c.in-Started.is at c.requires.answers).0

pub returns-in-Started-clause-noticed : goal.returns-in-Started-clause-noticed
returns-in-Started-clause-noticed c = c.start.ensures.started ∙ ap (λ (e : Event). noticed e (at_moment c.args.slots.now c.args.moment c.args.steady))
    (sym c.in-Started.is)

pub returns-in-Started-clause-short : goal.returns-in-Started-clause-short
returns-in-Started-clause-short c = rw c.in-Started.is c.start.ensures.short

pub answer-requires-clause-at : goal.answer-requires-clause-at
answer-requires-clause-at c = handed_below c.in-Refused.at c.in-Refused.step (at_moment c.args.slots.now c.args.moment c.args.steady)
    (rw c.in-Refused.is at c.requires.answers)
