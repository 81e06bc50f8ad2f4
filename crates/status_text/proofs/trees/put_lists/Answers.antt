use Rattle.std.proofs.Common.{◌≡◌, ℕ, List, OnOk, subst, map}
use Rattle.std.specs.Prelude.{codes}
use Rattle.std.proofs.lemmas.List.Elements.{recursion_from_All}
use Rattle.serde_json.specs.Written.{compact_text}
use Rattle.tree_core.specs.Regular.{IsRegular}
use Rattle.records.specs.Stored.{Item, item_view}
use Rattle.records.specs.declared.record.Item as code
use Rattle.status_text.specs.Status.{list_tree, closed_tree, component_tree, group_tree}
use Rattle.status_text.proofs.Joining.{joined6}
use Rattle.status_text.proofs.Texts.{can_show, map_twice}
use Rattle.status_text.proofs.trees.put_lists.Goals as goal

pub put_list-requires-2 : goal.put_list-requires-2
put_list-requires-2 c = rw c.as_slice-2.ensures (can_show _ (recursion_from_All (λ (i : Item). IsRegular i.config) (map item_view c.args.device.now.set)
    c.requires.set))

pub returns-clause-text : goal.returns-clause-text
returns-clause-text c =
    rw (← c.as_slice.ensures, ← c.as_slice-2.ensures, map_twice c.as_slice-2.result.now)
    (subst (λ (t : List ℕ). OnOk c.put_groups.result (c.put_groups.new.out ≡ t))
    (joined6 c.args.out.now (codes "{\"closed\":") (compact_text (list_tree closed_tree c.as_slice.result.now)) (codes ",\"components\":")
    (compact_text (list_tree (λ (i : code.Item). component_tree (item_view i)) c.as_slice-2.result.now)) (codes ",\"groups\":")
    (compact_text (list_tree group_tree c.args.device.now.groups.list))
    _ _ _ _ _ c.in_ok-push_str.ensures.ok c.in_ok-put_list.ensures c.in_ok-push_str-2.ensures.ok c.in_ok-put_list-2.ensures c.in_ok-push_str-3.ensures.ok)
    c.put_groups.ensures.text)
