use Rattle.std.proofs.Common.{◌∙◌, arith}
use Rattle.std.specs.Prelude.{is_some}
use Rattle.supervisor.proofs.Held.{passed_all, passed_next, passed_none}
use Rattle.supervisor.proofs.holds.hold_once.Goals as goal

pub loop-at-init : goal.loop-at-init
loop-at-init c = passed_none c.args.slots.now c.args.flags.now

pub hold_by-first-requires-clause-many : goal.hold_by-first-requires-clause-many
hold_by-first-requires-clause-many c = c.loop-at.invariant.holds.adds.many ∙ c.requires.many

pub loop-at-preserved : goal.loop-at-preserved
loop-at-preserved c = passed_next c.args.slots.now c.args.flags.now c.loop-at.flags c.hold_by-first.new.flags (is_some c.loop-at.first)
    (is_some c.hold_by-first.result) c.loop-at.at c.loop-at.invariant c.hold_by-first.ensures.holds c.hold_by-first.ensures.flags
    c.hold_by-first.ensures.held

pub returns-clause-holds : goal.returns-clause-holds
returns-clause-holds c = c.loop-at.invariant.holds

pub returns-clause-closed : goal.returns-clause-closed
returns-clause-closed c = passed_all c.args.slots.now c.args.flags.now c.loop-at.flags (is_some c.loop-at.first) c.loop-at.at (omega arith) c.loop-at.invariant

pub returns-clause-held : goal.returns-clause-held
returns-clause-held c = c.loop-at.invariant.held
