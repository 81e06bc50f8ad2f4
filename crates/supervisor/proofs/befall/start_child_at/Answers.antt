use Rattle.std.proofs.Common.{◌≡◌, true, false}
use Rattle.components.specs.Events.{with_child}
use Rattle.components.specs.Fitted.{prepared_of, limit_of}
use Rattle.components.specs.Runs.{IsShort}
use Rattle.components.specs.Turns.{is_begun}
use Rattle.components.proofs.Each.{set_changed, at_below, at_got}
use Rattle.supervisor.proofs.befall.start_child_at.Goals as goal

pub returns-clause-started : goal.returns-clause-started
returns-clause-started c = set_changed (λ p. with_child c.args.number c.args.step c.args.moment (record p { handed = false })) _ c.args.at _
    c.start_child.new.self (at_below (λ p. is_begun c.args.step p ≡ true) _ c.args.at c.requires.begun) c.start_child.ensures.started

pub returns-clause-short : goal.returns-clause-short
returns-clause-short c = at_got (λ p. IsShort (limit_of (prepared_of p.fitted c.args.step))) c.args.slots.now c.args.at _
    (at_below (λ p. is_begun c.args.step p ≡ true) _ c.args.at c.requires.begun) c.start_child.ensures.short
