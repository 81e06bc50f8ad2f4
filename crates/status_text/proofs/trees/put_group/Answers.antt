use Rattle.std.proofs.Common.{◌≡◌, ℕ, List, OnOk, subst}
use Rattle.std.specs.Prelude.{codes, decimal}
use Rattle.json.specs.Print.{quoted}
use Rattle.serde_json.specs.Written.{compact_text}
use Rattle.status_text.specs.Status.{list_tree, requirement_tree}
use Rattle.status_text.proofs.Joining.{joined7}
use Rattle.status_text.proofs.Texts.{group_text}
use Rattle.status_text.proofs.trees.put_group.Goals as goal

pub returns-clause-text : goal.returns-clause-text
returns-clause-text c =
    let g = c.args.group.now in
    rw (← group_text g.arn (list_tree requirement_tree g.requirements) g.revision, ← c.as_str.ensures.value, ← c.as_slice.ensures)
    (subst (λ (t : List ℕ). OnOk c.push_str-4.result (c.push_str-4.new.self ≡ t))
    (joined7 c.args.out.now (codes "{\"arn\":") (quoted c.as_str.result.now) (codes ",\"components\":")
    (compact_text (list_tree requirement_tree c.as_slice.result.now)) (codes ",\"revision\":") (decimal g.revision) (codes "}")
    _ _ _ _ _ _ c.in_ok-push_str.ensures.ok c.in_ok-put_text.ensures c.in_ok-push_str-2.ensures.ok c.in_ok-put_list.ensures c.in_ok-push_str-3.ensures.ok
    c.in_ok-put_number.ensures)
    c.push_str-4.ensures.ok)
