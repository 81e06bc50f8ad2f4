use Rattle.std.proofs.Common.{◌≡◌, drop}
use Rattle.local_deploy.specs.Lists.{asked_in, range_at}
use Rattle.local_deploy.proofs.list.asks.Given as goal

abbrev pub invariant-loop-requirement : goal.invariant-loop-requirement
invariant-loop-requirement l = range_at l.name (asked_in l.asked) ≡ range_at l.name (asked_in (drop l.requirement-index l.asked))
