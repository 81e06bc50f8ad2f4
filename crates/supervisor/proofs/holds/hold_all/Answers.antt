use Rattle.std.proofs.Common.{◌∙◌, ap, false, length, arith, refl, rules}
use Rattle.supervisor.proofs.Held.{many_flags, none_held, shows}
use Rattle.supervisor.proofs.holds.hold_all.Goals as goal

pub rounds-init : goal.rounds-init
rounds-init c =
    let e = c.fill.ensures.after (λ y h. search rules) in
    record {
      many = ap length e ∙ many_flags (length c.args.flags.now) false;
      held = none_held c.args.slots.now c.fill.new.self (length c.args.flags.now) e;
    }

pub hold_once-requires-clause-many : goal.hold_once-requires-clause-many
hold_once-requires-clause-many c = c.rounds.invariant.many ∙ c.requires.many

pub hold_rest-requires-clause-many : goal.hold_rest-requires-clause-many
hold_rest-requires-clause-many c = c.in-Some.ensures.holds.adds.many ∙ c.rounds.invariant.many ∙ c.requires.many

pub returns-in_default-clause-held : goal.returns-in_default-clause-held
returns-in_default-clause-held c = shows c.args.slots.now c.hold_once.new.flags c.requires.names (c.in_default.ensures.closed refl)
    (c.in_default.ensures.held c.rounds.invariant.held)

pub returns-in_default-clause-many : goal.returns-in_default-clause-many
returns-in_default-clause-many c = c.in_default.ensures.holds.adds.many ∙ c.rounds.invariant.many

pub rounds-preserved : goal.rounds-preserved
rounds-preserved c = record {
  many = c.hold_rest.ensures.adds.many ∙ c.in-Some.ensures.holds.adds.many ∙ c.rounds.invariant.many;
  held = c.hold_rest.ensures.held (c.in-Some.ensures.held c.rounds.invariant.held);
}

pub rounds-smaller : goal.rounds-smaller
rounds-smaller c =
    let a = c.in-Some.ensures.holds.less in
    let b = c.hold_rest.ensures.adds.fewer in
    omega (arith, a, b)
