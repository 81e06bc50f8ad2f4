use Rattle.components.specs.Lives.{lived}
use Rattle.components.proofs.Names.{names_changed, stays_lived}
use Rattle.components.proofs.Kept.{lived_length}
use Rattle.supervisor.proofs.Worlds.{lived_drops, lived_stays}
use Rattle.supervisor.proofs.befall.live_at.Goals as goal

pub restart_from-requires-clause-names : goal.restart_from-requires-clause-names
restart_from-requires-clause-names c = (names_changed (lived c.args.steady c.args.event) (stays_lived c.args.steady c.args.event) c.args.at c.args.slots.now
    c.live_one.new.slots c.if-live_one.ensures.lived c.requires.names).apart

pub returns-then-live_one-clause-lived : goal.returns-then-live_one-clause-lived
returns-then-live_one-clause-lived c = lived_drops c.args.at c.args.event c.args.steady c.args.slots.now c.live_one.new.slots c.restart_from.new.slots
    c.if-live_one.ensures.lived c.if-live_one.ensures.drops c.restart_from.ensures.restarted

pub returns-then-live_one-clause-parts : goal.returns-then-live_one-clause-parts
returns-then-live_one-clause-parts c = lived_length c.args.at c.args.event c.args.steady c.args.slots.now c.restart_from.new.slots
    (returns-then-live_one-clause-lived c)

pub returns-else-live_one-clause-lived : goal.returns-else-live_one-clause-lived
returns-else-live_one-clause-lived c = lived_stays c.args.at c.args.event c.args.steady c.args.slots.now c.live_one.new.slots c.if-live_one.ensures.lived
    c.if-live_one.ensures.drops

pub returns-else-live_one-clause-parts : goal.returns-else-live_one-clause-parts
returns-else-live_one-clause-parts c = lived_length c.args.at c.args.event c.args.steady c.args.slots.now c.live_one.new.slots
    (returns-else-live_one-clause-lived c)
