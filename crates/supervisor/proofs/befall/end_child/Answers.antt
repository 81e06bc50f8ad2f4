use Rattle.supervisor.proofs.Worlds.{ended_none, ended_some}
use Rattle.supervisor.proofs.befall.end_child.Goals as goal

pub returns-in-Some-clause-ended : goal.returns-in-Some-clause-ended
returns-in-Some-clause-ended c = ended_some c.args.number c.args.exit c.in-Some.at c.in-Some.step c.args.steady c.args.slots.now c.child_gone.new.slots
    c.in-Some.ensures.owner c.child_gone.ensures.gone

pub returns-in_default-clause-ended : goal.returns-in_default-clause-ended
returns-in_default-clause-ended c = ended_none c.args.number c.args.exit c.args.steady c.args.slots.now c.in_default.ensures.owner
