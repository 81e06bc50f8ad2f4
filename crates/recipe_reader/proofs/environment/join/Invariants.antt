use Rattle.std.proofs.Common.{◌≡◌, ◌++◌, ◌≤◌, ◌+◌, ◌-◌, length, drop}
use Rattle.recipe_reader.proofs.Joining.{merged}
use Rattle.recipe_reader.proofs.environment.join.Given as goal

abbrev pub invariant-names : goal.invariant-names
invariant-names l = record {
  done : merged l.own l.outer ≡ l.joined.items ++ merged (drop l.next l.own) (drop l.other l.outer);
  own_in : l.next ≤ length l.own;
  outer_in : l.other ≤ length l.outer;
}

abbrev pub decreases-names : goal.decreases-names
decreases-names l = (length l.own - l.next) + (length l.outer - l.other)
