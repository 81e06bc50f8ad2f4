use Rattle.std.proofs.Common.{◌<◌, length, arith, sym}
use Rattle.std.specs.Prelude.{is_some}
use Rattle.supervisor.proofs.Held.{flag_none, flag_one, held_one, hold_one, holds_none, place_below}
use Rattle.supervisor.proofs.holds.hold_need.Goals as goal

pub returns-in_default-clause-holds : goal.returns-in_default-clause-holds
returns-in_default-clause-holds c = holds_none c.args.slots.now c.args.flags.now (is_some c.args.first)

pub returns-in_default-clause-flag : goal.returns-in_default-clause-flag
returns-in_default-clause-flag c = flag_none c.args.need.now c.args.slots.now c.args.flags.now (sym c.in_default.ensures)

pub returns-in_default-clause-held : goal.returns-in_default-clause-held
returns-in_default-clause-held c = λ h a. a

pub hold_at-grew-requires-clause-at : goal.hold_at-grew-requires-clause-at
hold_at-grew-requires-clause-at c = place_below c.args.need.now c.in-Some.at c.args.slots.now c.in-Some.ensures

pub returns-clause-holds : goal.returns-clause-holds
returns-clause-holds c =
    let b : c.in-Some.at < length c.args.slots.now = place_below c.args.need.now c.in-Some.at c.args.slots.now c.in-Some.ensures in
    hold_one c.args.need.now c.in-Some.at c.args.slots.now c.args.flags.now c.hold_at-grew.new.flags c.hold_at-grew.result (is_some c.args.first)
    (is_some c.put_where.result) c.in-Some.ensures (omega (arith, b, c.requires.many)) c.hold_at-grew.ensures.grew c.hold_at-grew.ensures.flags
    (c.put_where.ensures b)

pub returns-clause-flag : goal.returns-clause-flag
returns-clause-flag c =
    let b : c.in-Some.at < length c.args.slots.now = place_below c.args.need.now c.in-Some.at c.args.slots.now c.in-Some.ensures in
    flag_one c.args.need.now c.in-Some.at c.args.slots.now c.args.flags.now c.hold_at-grew.new.flags c.in-Some.ensures
    (omega (arith, b, c.requires.many)) c.hold_at-grew.ensures.flags

pub returns-clause-held : goal.returns-clause-held
returns-clause-held c = held_one c.args.need.now c.in-Some.at c.args.slots.now c.args.flags.now c.hold_at-grew.new.flags c.in-Some.ensures
    c.hold_at-grew.ensures.flags
