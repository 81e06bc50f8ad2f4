use Rattle.std.proofs.Common.{◌≡◌, ◌<◌, ◌≤◌, ◌+◌, [], ◌∷◌, ◌++◌, length, drop, arith, sym, ap, ap₂, ◌∙◌, subst, rules}
use Rattle.std.proofs.lemmas.List.{drop_more, drop_all}
use Rattle.tree_core.specs.declared.tree.Tree.{the_lemmas}
use Rattle.tree_core.specs.View.{view, fields_view}
use Rattle.tree_core.specs.Regular.{MembersAreOrderly}
use Rattle.tree_core.proofs.Fields.{Field}
use Rattle.config_ops.specs.Join.{joined_members, kept_by}
use Rattle.config_ops.specs.Places.{fields_before}
use Rattle.config_ops.proofs.Joining.{behind, view-append, found_is, found_fits, later_orderly, next_key, done_grows}
use Rattle.config_ops.proofs.join.+join.Goals as goal

pub join_fields-join_field-requires : goal.join_fields-join_field-requires
join_fields-join_field-requires t c =
    let xs = c.deref-name-items.result.now in
    let i = c.loop-name.name-index in
    let f : Field = c.loop-name-item.result in
    let within : i < length xs = omega arith in
    let here : drop i xs ≡ f ∷ drop (i + 1) xs = drop_more xs i f within ∙ ap (λ (g : Field). g ∷ drop (i + 1) xs) (sym c.loop-name-item.is) in
    let others = subst (λ ys. MembersAreOrderly (fields_view ys)) here c.loop-name.invariant.2 in
    let rest = c.loop-name.rest.items in
    let popped = c.pop_where-found in
    let found = found_is f.0 rest c.move_before.new.rest.items popped.new.rest.items popped.result popped.ensures.some popped.ensures.none
    c.in_ok-move_before.ensures.rest in
    (search (rules, the_lemmas), (found_fits f.0 rest popped.result popped.new.rest.items found c.loop-name.invariant.1, others.1))

pub join_fields-loop-name-preserved : goal.join_fields-loop-name-preserved
join_fields-loop-name-preserved t c =
    let other = kept_by c.args.rule in
    let xs = c.deref-name-items.result.now in
    let i = c.loop-name.name-index in
    let f : Field = c.loop-name-item.result in
    let within : i < length xs = omega arith in
    let here : drop i xs ≡ f ∷ drop (i + 1) xs = drop_more xs i f within ∙ ap (λ (g : Field). g ∷ drop (i + 1) xs) (sym c.loop-name-item.is) in
    let others = subst (λ ys. MembersAreOrderly (fields_view ys)) here c.loop-name.invariant.2 in
    let done = c.loop-name.joined.items in
    let rest = c.loop-name.rest.items in
    let later = c.pop_where-found.new.rest.items in
    let new : Field = c.in_ok-join_field.field-0 in
    let us = fields_view (drop (i + 1) xs) in
    let more = joined_members other (fields_view later) us in
    let popped = c.pop_where-found in
    let found = found_is f.0 rest c.move_before.new.rest.items later popped.result popped.ensures.some popped.ensures.none c.in_ok-move_before.ensures.rest in
    let next = next_key other f.0 (view f.1) us rest popped.result later new others.0 c.loop-name.invariant.1 found c.in_ok-join_field.ensures.0
    c.in_ok-join_field.ensures.1 in
    let pushed = c.in_ok-push.ensures.items ∙ ap (λ fs. fs ++ new ∷ []) c.in_ok-move_before.ensures.done in (
      c.loop-name.invariant.0
          ∙ ap (λ ys. behind (fields_view done) (joined_members other (fields_view rest) (fields_view ys))) here
          ∙ ap (behind (fields_view done)) next
          ∙ done_grows done (fields_before f.0 rest) new more
          ∙ ap (λ fs. behind (fields_view fs) more) (sym pushed),
      later_orderly f.0 rest popped.result later found c.loop-name.invariant.1,
      others.2,
    )

pub join_fields-returns : goal.join_fields-returns
join_fields-returns t c =
    let other = kept_by c.args.rule in
    let xs = c.deref-name-items.result.now in
    let done = c.loop-name.joined.items in
    let rest = c.loop-name.rest.items in
    let past : length xs ≤ c.loop-name.name-index = omega arith in
    ap fields_view c.in_ok-move_all.ensures
    ∙ view-append done rest
    ∙ ap (λ ys. behind (fields_view done) (joined_members other (fields_view rest) (fields_view ys))) (sym (drop_all c.loop-name.name-index xs past))
    ∙ sym c.loop-name.invariant.0
    ∙ ap₂ (λ fs ys. joined_members other (fields_view fs) (fields_view ys)) c.from_vec-rest.ensures.items c.deref-name-items.ensures.value
