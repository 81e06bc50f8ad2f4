use Rattle.std.proofs.Common.{sym, ◌∙◌}
use Rattle.std.specs.Cmp.Lexicographic.{slice_cmp}
use Rattle.std.specs.Ordering.{nat_cmp}
use Rattle.local_deploy.proofs.Least.{less_from, not_back, not_itself}
use Rattle.local_deploy.proofs.list.lesser.Goals as goal

pub returns-then-lt-clause-name : goal.returns-then-lt-clause-name
returns-then-lt-clause-name c less =
    not_back c.args.name.now c.args.other.now less
    (less_from (slice_cmp nat_cmp c.args.other.now c.args.name.now) (sym c.lt.ensures ∙ c.if-lt.true))

pub returns-then-lt-clause-other : goal.returns-then-lt-clause-other
returns-then-lt-clause-other c = not_itself c.args.other.now

pub returns-else-lt-clause-name : goal.returns-else-lt-clause-name
returns-else-lt-clause-name c = not_itself c.args.name.now
