use Rattle.std.proofs.Common.{◌∙◌, subst, sym}
use Rattle.std.specs.Prelude.{is_some}
use Rattle.supervisor.specs.Holds.{AreNamesHeld, HaveFlags}
use Rattle.supervisor.proofs.Held.{holds_none}
use Rattle.supervisor.proofs.holds.hold_coming_needs.Goals as goal

pub returns-in-None-clause-holds : goal.returns-in-None-clause-holds
returns-in-None-clause-holds c = holds_none c.args.slots.now c.args.flags.now (is_some c.args.first)

pub returns-in-None-clause-flags : goal.returns-in-None-clause-flags
returns-in-None-clause-flags c = subst (HaveFlags c.args.slots.now c.args.flags.now) (sym c.in-None.ensures) tt

pub returns-in-None-clause-held : goal.returns-in-None-clause-held
returns-in-None-clause-held c = λ h a. a

pub returns-in-Some-clause-holds : goal.returns-in-Some-clause-holds
returns-in-Some-clause-holds c = c.hold_needs.ensures.holds

pub returns-in-Some-clause-flags : goal.returns-in-Some-clause-flags
returns-in-Some-clause-flags c = subst (HaveFlags c.args.slots.now c.hold_needs.new.flags) (c.hard.ensures ∙ sym c.in-Some.ensures) c.hold_needs.ensures.flags

pub returns-in-Some-clause-held : goal.returns-in-Some-clause-held
returns-in-Some-clause-held c = λ h a. c.hold_needs.ensures.held (subst (AreNamesHeld c.args.slots.now) (c.in-Some.ensures ∙ sym c.hard.ensures) h) a
