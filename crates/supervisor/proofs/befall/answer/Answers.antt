use Rattle.std.proofs.Common.{refl, false}
use Rattle.components.proofs.Names.{names_changed}
use Rattle.supervisor.proofs.Worlds.{answered}
use Rattle.supervisor.proofs.befall.answer.Goals as goal

pub live_at-requires-clause-names : goal.live_at-requires-clause-names
live_at-requires-clause-names c = names_changed (λ p. record p { handed = false }) (λ p h. (refl, h)) c.args.at c.args.slots.now c.answer_at.new.slots
    c.answer_at.ensures c.requires.names

pub returns-clause-answered : goal.returns-clause-answered
returns-clause-answered c = answered c.args.at c.args.event c.args.steady c.args.slots.now c.answer_at.new.slots c.live_at.new.slots c.answer_at.ensures
    c.live_at.ensures.lived
