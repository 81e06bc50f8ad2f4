use Rattle.std.proofs.Common.{refl, false}
use Rattle.components.specs.Events.{with_child}
use Rattle.components.proofs.Names.{names_changed}
use Rattle.supervisor.proofs.Worlds.{start_run, start_other}
use Rattle.supervisor.proofs.befall.start.Goals as goal

pub live_at-requires-clause-names : goal.live_at-requires-clause-names
live_at-requires-clause-names c = names_changed (λ p. with_child c.args.number c.args.step c.args.moment (record p { handed = false })) (λ p h. (refl, h))
    c.args.at c.args.slots.now c.start_child_at.new.slots c.start_child_at.ensures.started c.requires.names

pub returns-in-Run-clause-started : goal.returns-in-Run-clause-started
returns-in-Run-clause-started c = start_run c.args.at c.args.number c.args.moment c.args.step c.args.steady c.args.slots.now c.start_child_at.new.slots
    c.live_at.new.slots c.in-Run.is c.start_child_at.ensures.started c.live_at.ensures.lived

pub returns-in_default-clause-started : goal.returns-in_default-clause-started
returns-in_default-clause-started c = start_other c.args.at c.args.number c.args.moment c.args.step c.args.steady c.args.slots.now c.start_child_at.new.slots
    c.in_default.not-Run c.start_child_at.ensures.started
