use Rattle.std.proofs.Common.{arith}
use Rattle.conflict_search.proofs.Words.{fewer_at, met_at, met_at_kept}
use Rattle.conflict_search.proofs.sets.meet_at.Goals as goal

pub returns-clause-only : goal.returns-clause-only
returns-clause-only c = fewer_at c.args.from c.loop-at.at c.args.set.now c.args.other.now c.loop-at.set c.loop-at.invariant.1

pub returns-clause-met : goal.returns-clause-met
returns-clause-met c = λ v small. met_at c.args.from c.loop-at.at c.args.set.now c.args.other.now c.loop-at.set c.loop-at.invariant.1 v (omega (arith, small))

pub returns-clause-kept : goal.returns-clause-kept
returns-clause-kept c = met_at_kept c.args.from c.loop-at.at c.args.set.now c.args.other.now c.loop-at.set (omega arith) c.loop-at.invariant.1
