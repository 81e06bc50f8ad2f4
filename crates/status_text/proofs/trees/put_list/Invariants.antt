use Rattle.std.proofs.Common.{◌≡◌, ◌++◌, drop}
use Rattle.std.specs.List.{AllByRecursion}
use Rattle.serde_json.specs.Written.{compact_text}
use Rattle.status_text.specs.Status.{list_tree}
use Rattle.status_text.proofs.Joining.{text_from}
use Rattle.status_text.proofs.trees.put_list.Given as goal

abbrev pub invariant-loop-at : goal.invariant-loop-at
invariant-loop-at g l = record {
  written : l.out ++ text_from g.T.Shown.tree l.at (drop l.at l.items) ≡ l.fn.out ++ compact_text (list_tree g.T.Shown.tree l.items);
  can_show : AllByRecursion g.T.Shown.can_show (drop l.at l.items);
}
