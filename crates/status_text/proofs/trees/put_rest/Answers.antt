use Rattle.std.proofs.Common.{◌≡◌, ℕ, List, OnOk, option_map, subst}
use Rattle.std.specs.Prelude.{codes}
use Rattle.json.specs.Print.{quoted}
use Rattle.serde_json.specs.Written.{compact_text}
use Rattle.device.specs.Devices.{pending_view}
use Rattle.status_text.specs.Status.{pending_tree}
use Rattle.status_text.proofs.Joining.{joined7}
use Rattle.status_text.proofs.trees.put_rest.Goals as goal

pub returns : goal.returns
returns c =
    rw (← c.text.ensures.value, ← c.as_str.ensures, ← c.as_str-2.ensures.value)
    (subst (λ (t : List ℕ). OnOk c.push_str-4.result (c.push_str-4.new.self ≡ t))
    (joined7 c.args.out.now (codes ",\"nucleus\":") (quoted c.as_str.result.now) (codes ",\"pending\":")
    (compact_text (pending_tree (option_map pending_view c.args.pending.now))) (codes ",\"thing\":") (quoted c.as_str-2.result.now) (codes "}")
    _ _ _ _ _ _ c.in_ok-push_str.ensures.ok c.in_ok-put_text.ensures c.in_ok-push_str-2.ensures.ok c.in_ok-put_pending.ensures c.in_ok-push_str-3.ensures.ok
    c.in_ok-put_text-2.ensures)
    c.push_str-4.ensures.ok)
