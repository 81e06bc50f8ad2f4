use Rattle.std.proofs.Common.{◌≡◌, ◌++◌, drop}
use Rattle.serde_json.specs.Written.{compact_text}
use Rattle.status_text.specs.Regularity.{AreNumbers}
use Rattle.status_text.specs.Status.{list_tree, group_tree}
use Rattle.status_text.proofs.Joining.{text_from}
use Rattle.status_text.proofs.trees.put_groups.Given as goal

abbrev pub invariant-loop-at : goal.invariant-loop-at
invariant-loop-at l = record {
  written : l.out ++ text_from group_tree l.at (drop l.at l.groups.list) ≡ l.fn.out ++ compact_text (list_tree group_tree l.groups.list);
  numbers : AreNumbers (drop l.at l.groups.list) → AreNumbers l.groups.list;
}
