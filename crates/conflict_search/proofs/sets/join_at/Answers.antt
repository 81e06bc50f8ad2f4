use Rattle.std.proofs.Common.{arith}
use Rattle.conflict_search.proofs.Words.{joined_at, joined_at_kept, joined_at_given}
use Rattle.conflict_search.proofs.sets.join_at.Goals as goal

pub returns-clause-only : goal.returns-clause-only
returns-clause-only c = joined_at c.args.from c.loop-at.at c.args.set.now c.args.other.now c.loop-at.set c.loop-at.invariant.1

pub returns-clause-kept : goal.returns-clause-kept
returns-clause-kept c = joined_at_kept c.args.from c.loop-at.at c.args.set.now c.args.other.now c.loop-at.set c.loop-at.invariant.1

pub returns-clause-given : goal.returns-clause-given
returns-clause-given c = joined_at_given c.args.from c.loop-at.at c.args.set.now c.args.other.now c.loop-at.set (omega arith) c.loop-at.invariant.1
