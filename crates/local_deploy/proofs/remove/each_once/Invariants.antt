use Rattle.std.proofs.Common.{◌≡◌}
use Rattle.std.specs.Vec.Iter.{into_iter_items}
use Rattle.local_deploy.specs.Named.{once, with_names}
use Rattle.local_deploy.proofs.remove.each_once.Given as goal

abbrev pub invariant-loop-name : goal.invariant-loop-name
invariant-loop-name l = with_names l.list.items (into_iter_items l.name-iterator) ≡ once l.fn.names
