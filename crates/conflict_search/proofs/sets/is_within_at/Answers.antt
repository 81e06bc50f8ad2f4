use Rattle.std.proofs.Common.{arith}
use Rattle.conflict_search.proofs.Words.{within_at}
use Rattle.conflict_search.proofs.sets.is_within_at.Goals as goal

pub returns : goal.returns
returns c = λ yes. within_at c.args.from c.args.set.now c.args.other.now (λ j lt. c.loop-at.invariant j (omega (arith, lt)))
