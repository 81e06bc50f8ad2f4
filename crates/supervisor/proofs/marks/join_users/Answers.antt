use Rattle.std.proofs.Common.{◌∙◌}
use Rattle.supervisor.proofs.Flags.{grows_more, grows_none}
use Rattle.supervisor.proofs.marks.join_users.Goals as goal

pub loop-turn-init : goal.loop-turn-init
loop-turn-init c = grows_none c.args.slots.now c.args.flags.now

pub join_user-joined-requires-clause-many : goal.join_user-joined-requires-clause-many
join_user-joined-requires-clause-many c = c.loop-turn.invariant.many ∙ c.requires.many

pub loop-turn-preserved : goal.loop-turn-preserved
loop-turn-preserved c = grows_more c.args.slots.now c.args.flags.now c.loop-turn.flags c.join_user-joined.new.flags c.loop-turn.invariant
    c.join_user-joined.ensures
