use Rattle.std.proofs.Common.{refl, ◌∙◌}
use Rattle.supervisor.proofs.Flags.{grows_spread, reached}
use Rattle.supervisor.proofs.marks.spread.Goals as goal

pub rounds-init : goal.rounds-init
rounds-init c = c.spread_known.ensures

pub spread_once-requires-clause-many : goal.spread_once-requires-clause-many
spread_once-requires-clause-many c = c.rounds.invariant.many ∙ c.requires.many

pub rounds-preserved : goal.rounds-preserved
rounds-preserved c = grows_spread c.args.slots.now c.args.flags.now c.rounds.flags c.spread_once.new.flags c.spread_once.result c.rounds.invariant
    c.spread_once.ensures

pub returns-then-not-spread_once-clause-reached : goal.returns-then-not-spread_once-clause-reached
returns-then-not-spread_once-clause-reached c =
    let r = grows_spread c.args.slots.now c.args.flags.now c.rounds.flags c.spread_once.new.flags c.spread_once.result c.rounds.invariant
    c.spread_once.ensures in
    reached c.args.slots.now c.args.flags.now c.spread_once.new.flags c.requires.many r (c.if-not-spread_once.ensures.closed refl)
