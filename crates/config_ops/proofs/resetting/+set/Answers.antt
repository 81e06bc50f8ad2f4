use Rattle.std.proofs.Common.{◌++◌, sym, ap, ◌∙◌, subst, option_map, rules}
use Rattle.tree_core.specs.View.{view, fields_view}
use Rattle.tree_core.specs.Regular.{MembersAreOrderly}
use Rattle.config_ops.specs.Places.{fields_before}
use Rattle.config_ops.specs.Reset.{set_node, node_at}
use Rattle.config_ops.proofs.Joining.{found_is, found_fits, found_orderly}
use Rattle.config_ops.proofs.Setting.{one_field, set_done, name_fits, value_orderly}
use Rattle.config_ops.proofs.resetting.+set.Goals as goal

pub set_node-name_and_value-requires : goal.set_node-name_and_value-requires
set_node-name_and_value-requires t c =
    let k = c.args.key.now in
    let rest = c.from_vec-rest.result.items in
    let popped = c.pop_where-found in
    let orderly : MembersAreOrderly (fields_view rest) = subst (λ fs. MembersAreOrderly (fields_view fs)) (sym c.from_vec-rest.ensures.items) c.requires in
    let found = found_is k rest c.move_before.new.rest.items popped.new.rest.items popped.result popped.ensures.some popped.ensures.none
    c.in_ok-move_before.ensures.rest in
    name_fits k popped.result (found_fits k rest popped.result popped.new.rest.items found orderly)

pub set_node-node_at-requires : goal.set_node-node_at-requires
set_node-node_at-requires t c =
    let k = c.args.key.now in
    let rest = c.from_vec-rest.result.items in
    let popped = c.pop_where-found in
    let orderly : MembersAreOrderly (fields_view rest) = subst (λ fs. MembersAreOrderly (fields_view fs)) (sym c.from_vec-rest.ensures.items) c.requires in
    let found = found_is k rest c.move_before.new.rest.items popped.new.rest.items popped.result popped.ensures.some popped.ensures.none
    c.in_ok-move_before.ensures.rest in
    (search rules, value_orderly popped.result c.in_ok-name.old c.in_ok-name.ensures.1 (found_orderly k rest popped.result popped.new.rest.items found orderly))

pub set_node-returns : goal.set_node-returns
set_node-returns t c =
    let k = c.args.key.now in
    let rest = c.from_vec-rest.result.items in
    let popped = c.pop_where-found in
    let later = popped.new.rest.items in
    let node = c.in_ok-node.node in
    let one = one_field k node in
    let new = option_map view c.args.new in
    let prefix = c.move_before.new.done.items in
    let orderly : MembersAreOrderly (fields_view rest) = subst (λ fs. MembersAreOrderly (fields_view fs)) (sym c.from_vec-rest.ensures.items) c.requires in
    let found = found_is k rest c.move_before.new.rest.items later popped.result popped.ensures.some popped.ensures.none c.in_ok-move_before.ensures.rest in
    let value = c.in_ok-node.ensures ∙ ap (node_at c.args.below.now new) c.in_ok-name.ensures.1 in
    let pushed = c.in_ok-push_node.ensures ∙ ap (λ n. prefix ++ one_field n node) c.in_ok-name.ensures.0 in
    ap fields_view (c.in_ok-move_all.ensures ∙ ap (λ fs. fs ++ later) (pushed ∙ ap (λ fs. fs ++ one) (c.in_ok-move_before.ensures.done
    ∙ ap (λ fs. fs ++ fields_before k rest) c.in_ok-done.ensures.items)))
    ∙ set_done k c.args.below.now rest popped.result later new node orderly found value
    ∙ ap (λ fs. set_node k c.args.below.now new (fields_view fs)) c.from_vec-rest.ensures.items
