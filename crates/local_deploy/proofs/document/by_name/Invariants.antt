use Rattle.std.proofs.Common.{◌≡◌, ◌++◌, ℕ, List}
use Rattle.std.specs.Prelude.{None}
use Rattle.std.specs.Vec.Iter.{into_iter_items}
use Rattle.local_deploy.specs.Lists.{range_at}
use Rattle.local_deploy.proofs.Lookups.{put_all}
use Rattle.local_deploy.proofs.document.by_name.Given as goal

abbrev pub invariant-loop-name : goal.invariant-loop-name
invariant-loop-name l = record {
  ranges : (q : List ℕ) → range_at q l.named.entries ≡ put_all (λ _. None) l.yielded q;
  all : l.yielded ++ into_iter_items l.name-iterator ≡ l.fn.updates;
}
