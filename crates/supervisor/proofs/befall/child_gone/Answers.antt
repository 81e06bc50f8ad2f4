use Rattle.std.proofs.Common.{ap, refl, sym, ◌∙◌, Option}
use Rattle.lifecycle.specs.declared.kinds.LifeEvent.{LifeEvent}
use Rattle.components.specs.Events.{gone_by}
use Rattle.components.specs.Flags.{at_moment}
use Rattle.components.specs.Components.{without_child}
use Rattle.components.proofs.Names.{names_changed}
use Rattle.supervisor.proofs.Worlds.{gone_orphan, gone_living}
use Rattle.supervisor.proofs.befall.child_gone.Goals as goal

pub live_at-requires-clause-names : goal.live_at-requires-clause-names
live_at-requires-clause-names c = names_changed (without_child c.args.number) (λ p h. (refl, h)) c.args.at c.args.slots.now c.remove_at.new.slots
    c.remove_at.ensures c.requires.names

pub returns-then-not-orphan-clause-gone : goal.returns-then-not-orphan-clause-gone
returns-then-not-orphan-clause-gone c = λ m.
    gone_living c.args.at c.args.step c.args.number c.in-Some.event c.args.steady c.args.slots.now c.remove_at.new.slots c.live_at.new.slots
    c.remove_at.ensures (sym c.if-not-orphan.true ∙ c.is_orphan-orphan.ensures) c.live_at.ensures.lived m
    ∙ ap (λ (o : Option LifeEvent). gone_by o c.args.at c.args.step c.args.number (at_moment c.args.slots.now m c.args.steady)) (sym c.in-Some.is)

pub returns-else-not-orphan-clause-gone : goal.returns-else-not-orphan-clause-gone
returns-else-not-orphan-clause-gone c = λ m.
    gone_orphan c.args.at c.args.step c.args.number c.in-Some.event c.args.steady c.args.slots.now c.remove_at.new.slots c.remove_at.ensures
    (sym c.if-not-orphan.false ∙ c.is_orphan-orphan.ensures) m
    ∙ ap (λ (o : Option LifeEvent). gone_by o c.args.at c.args.step c.args.number (at_moment c.args.slots.now m c.args.steady)) (sym c.in-Some.is)
