use Rattle.std.proofs.Common.{length, refl, rules}
use Rattle.supervisor.proofs.Held.{asked_held}
use Rattle.supervisor.proofs.holds.find_held.Goals as goal

pub returns-then-any_asks_alone-clause-held : goal.returns-then-any_asks_alone-clause-held
returns-then-any_asks_alone-clause-held c = λ k p e a. c.hold_all.ensures.held k p e

pub returns-clause-held : goal.returns-clause-held
returns-clause-held c = asked_held c.args.slots.now c.fill.new.self (length c.args.flags.now) (c.fill.ensures.after (λ y h. search rules)) c.requires.many
    (c.if-any_asks_alone.ensures refl)
