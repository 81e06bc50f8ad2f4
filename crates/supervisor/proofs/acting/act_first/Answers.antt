use Rattle.std.proofs.Common.{◌∙◌, sym, true}
use Rattle.components.specs.Flags.{at_moment}
use Rattle.components.specs.Components.{Components}
use Rattle.supervisor.proofs.Deeds.{do_below, first_in_any, no_turns, none_in_any, turn_last, turn_more, turns_over}
use Rattle.supervisor.proofs.acting.act_first.Goals as goal

pub turns-init : goal.turns-init
turns-init c = record {
  many = c.requires.many;
  so_far = no_turns (at_moment c.args.slots.now c.args.moment c.args.steady) c.requires.kept c.requires.whole
      c.requires.owes_none;
}

pub find_held-requires-clause-names : goal.find_held-requires-clause-names
find_held-requires-clause-names c = c.turns.invariant.so_far.sound.kept.names

pub first_deed-requires-clause-many : goal.first_deed-requires-clause-many
first_deed-requires-clause-many c = c.find_held.ensures.many ∙ c.turns.invariant.many

pub perform-act-requires-clause-many : goal.perform-act-requires-clause-many
perform-act-requires-clause-many c = c.find_held.ensures.many ∙ c.turns.invariant.many

pub returns-in_default-clause-many : goal.returns-in_default-clause-many
returns-in_default-clause-many c = c.find_held.ensures.many ∙ c.turns.invariant.many

pub first_deed-requires-clause-few : goal.first_deed-requires-clause-few
first_deed-requires-clause-few c = c.turns.invariant.so_far.sound.kept.few

pub first_deed-requires-clause-apart : goal.first_deed-requires-clause-apart
first_deed-requires-clause-apart c = c.turns.invariant.so_far.sound.kept.apart

pub first_deed-requires-clause-names : goal.first_deed-requires-clause-names
first_deed-requires-clause-names c = c.turns.invariant.so_far.sound.kept.names

pub first_deed-requires-clause-whole : goal.first_deed-requires-clause-whole
first_deed-requires-clause-whole c = c.turns.invariant.so_far.sound.whole

pub returns-in_default-clause-next : goal.returns-in_default-clause-next
returns-in_default-clause-next c =
    let m = c.args.moment in
    let w : Components = at_moment c.args.slots.now m c.args.steady in
    let v : Components = at_moment c.turns.slots m c.args.steady in
    turns_over w v c.turns.invariant.so_far (none_in_any c.turns.slots m true c.args.steady c.in_default.ensures)

pub returns-in_default-clause-kept : goal.returns-in_default-clause-kept
returns-in_default-clause-kept c = c.turns.invariant.so_far.sound.kept

pub returns-in_default-clause-whole : goal.returns-in_default-clause-whole
returns-in_default-clause-whole c = c.turns.invariant.so_far.sound.whole

pub perform-act-requires-clause-at : goal.perform-act-requires-clause-at
perform-act-requires-clause-at c =
    let f = first_in_any c.turns.slots c.args.moment c.in-Some.at true c.args.steady c.in-Some.deed c.in-Some.ensures in
    do_below (at_moment c.turns.slots c.args.moment c.args.steady) c.in-Some.at c.in-Some.deed f.1

pub perform-act-requires-clause-few : goal.perform-act-requires-clause-few
perform-act-requires-clause-few c = c.turns.invariant.so_far.sound.kept.few

pub perform-act-requires-clause-names : goal.perform-act-requires-clause-names
perform-act-requires-clause-names c = record { apart = c.turns.invariant.so_far.sound.kept.names; named = c.turns.invariant.so_far.sound.kept.named }

pub returns-then-is_some-clause-next : goal.returns-then-is_some-clause-next
returns-then-is_some-clause-next c =
    let m = c.args.moment in
    let w : Components = at_moment c.args.slots.now m c.args.steady in
    let v : Components = at_moment c.turns.slots m c.args.steady in
    let u : Components = at_moment c.perform-act.new.slots m c.args.steady in
    let f = first_in_any c.turns.slots m c.in-Some.at true c.args.steady c.in-Some.deed c.in-Some.ensures in
    (turn_last w v u c.in-Some.at c.in-Some.deed c.perform-act.result c.turns.invariant.so_far f c.perform-act.ensures.done (sym c.if-is_some.ensures)).0

pub returns-then-is_some-clause-kept : goal.returns-then-is_some-clause-kept
returns-then-is_some-clause-kept c =
    let m = c.args.moment in
    let w : Components = at_moment c.args.slots.now m c.args.steady in
    let v : Components = at_moment c.turns.slots m c.args.steady in
    let u : Components = at_moment c.perform-act.new.slots m c.args.steady in
    let f = first_in_any c.turns.slots m c.in-Some.at true c.args.steady c.in-Some.deed c.in-Some.ensures in
    let s = (turn_last w v u c.in-Some.at c.in-Some.deed c.perform-act.result c.turns.invariant.so_far f c.perform-act.ensures.done
    (sym c.if-is_some.ensures)).1 in
    s.kept

pub returns-then-is_some-clause-whole : goal.returns-then-is_some-clause-whole
returns-then-is_some-clause-whole c =
    let m = c.args.moment in
    let w : Components = at_moment c.args.slots.now m c.args.steady in
    let v : Components = at_moment c.turns.slots m c.args.steady in
    let u : Components = at_moment c.perform-act.new.slots m c.args.steady in
    let f = first_in_any c.turns.slots m c.in-Some.at true c.args.steady c.in-Some.deed c.in-Some.ensures in
    let s = (turn_last w v u c.in-Some.at c.in-Some.deed c.perform-act.result c.turns.invariant.so_far f c.perform-act.ensures.done
    (sym c.if-is_some.ensures)).1 in
    s.whole

pub turns-preserved : goal.turns-preserved
turns-preserved c =
    let m = c.args.moment in
    let w : Components = at_moment c.args.slots.now m c.args.steady in
    let v : Components = at_moment c.turns.slots m c.args.steady in
    let u : Components = at_moment c.perform-act.new.slots m c.args.steady in
    let f = first_in_any c.turns.slots m c.in-Some.at true c.args.steady c.in-Some.deed c.in-Some.ensures in
    record {
      many = c.perform-act.ensures.many;
      so_far = (turn_more w v u c.in-Some.at c.in-Some.deed c.perform-act.result c.turns.invariant.so_far f c.perform-act.ensures.done
          (sym c.if-is_some.ensures)).0;
    }

pub turns-smaller : goal.turns-smaller
turns-smaller c =
    let m = c.args.moment in
    let w : Components = at_moment c.args.slots.now m c.args.steady in
    let v : Components = at_moment c.turns.slots m c.args.steady in
    let u : Components = at_moment c.perform-act.new.slots m c.args.steady in
    let f = first_in_any c.turns.slots m c.in-Some.at true c.args.steady c.in-Some.deed c.in-Some.ensures in
    (turn_more w v u c.in-Some.at c.in-Some.deed c.perform-act.result c.turns.invariant.so_far f c.perform-act.ensures.done (sym c.if-is_some.ensures)).1
