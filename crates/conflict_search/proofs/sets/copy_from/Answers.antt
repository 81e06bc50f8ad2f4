use Rattle.std.proofs.Common.{arith}
use Rattle.conflict_search.proofs.Words.{copied}
use Rattle.conflict_search.proofs.sets.copy_from.Goals as goal

pub returns-clause-only : goal.returns-clause-only
returns-clause-only c =
    let count = c.loop-at.invariant.0 in
    copied c.args.from c.loop-at.set c.args.row.now (λ j lt. c.loop-at.invariant.1 j (omega (arith, lt, count, c.loop-at-test.false)))
