use Rattle.conflict_search.proofs.Words.{removed_at}
use Rattle.conflict_search.proofs.sets.remove_at.Goals as goal

pub returns-clause-kept : goal.returns-clause-kept
returns-clause-kept c = removed_at c.args.from c.loop-at.at c.args.set.now c.args.other.now c.loop-at.set c.loop-at.invariant.1
