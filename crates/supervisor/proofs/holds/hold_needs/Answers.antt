use Rattle.std.proofs.Common.{◌∙◌, List, ℕ, arith, subst}
use Rattle.std.specs.Prelude.{is_some}
use Rattle.std.proofs.lemmas.List.{take_all}
use Rattle.supervisor.specs.Holds.{AreHeld, AreNamesHeld, HaveFlags}
use Rattle.supervisor.proofs.Held.{needs_next, needs_none}
use Rattle.supervisor.proofs.holds.hold_needs.Goals as goal

pub loop-need-init : goal.loop-need-init
loop-need-init c = needs_none c.args.slots.now c.args.flags.now (is_some c.args.first)

pub hold_need-last-requires-clause-many : goal.hold_need-last-requires-clause-many
hold_need-last-requires-clause-many c = c.loop-need.invariant.holds.adds.many ∙ c.requires.many

pub loop-need-preserved : goal.loop-need-preserved
loop-need-preserved c = needs_next c.args.slots.now c.args.flags.now c.loop-need.flags c.hold_need-last.new.flags (is_some c.args.first)
    (is_some c.loop-need.last) (is_some c.hold_need-last.result) c.args.needs.now c.loop-need.need-index c.need-item.result (omega arith) c.need-item.is
    c.loop-need.invariant c.hold_need-last.ensures.holds c.hold_need-last.ensures.flag c.hold_need-last.ensures.held

pub returns-clause-holds : goal.returns-clause-holds
returns-clause-holds c = c.loop-need.invariant.holds

pub returns-clause-flags : goal.returns-clause-flags
returns-clause-flags c = subst (HaveFlags c.args.slots.now c.loop-need.flags) (take_all c.loop-need.need-index c.args.needs.now (omega arith))
    c.loop-need.invariant.flags

pub returns-clause-held : goal.returns-clause-held
returns-clause-held c = subst (λ (ns : List (List ℕ)). AreNamesHeld c.args.slots.now ns → AreHeld c.args.slots.now c.args.flags.now →
    AreHeld c.args.slots.now c.loop-need.flags) (take_all c.loop-need.need-index c.args.needs.now (omega arith)) c.loop-need.invariant.held
