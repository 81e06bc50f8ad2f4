use Rattle.std.proofs.Common.{◌≡◌, Some, get_or, sym, ap, ◌∙◌, subst, rules}
use Rattle.std.proofs.lemmas.Fn.{always_returns_same}
use Rattle.serde_json.specs.Find.{get_member}
use Rattle.tree_core.specs.Regular.{MembersAreOrderly}
use Rattle.tree_core.specs.View.{view, fields_view}
use Rattle.tree_core.proofs.Fields.{Field}
use Rattle.tree_core.proofs.Halves.{ranked, rising, found_at, not_found}
use Rattle.tree_core.proofs.get.field_found.Goals as goal

pub returns-in-Ok : goal.returns-in-Ok
returns-in-Ok c =
    let k = c.args.name.now in
    let xs = c.deref.result.now in
    let same : xs ≡ c.args.fields.now.items = c.deref.ensures.value in
    let orderly : MembersAreOrderly (fields_view xs) = subst (λ ys. MembersAreOrderly (fields_view ys)) (sym same) c.requires in
    let i = c.in-Ok.place in
    let x : Field = c.index.result.now in
    let at = c.in-Ok.ensures.position (ranked k) (always_returns_same _ _ _ (λ a r f called. search rules)) in
    ap (λ (f : Field). Some (view f.1)) c.index.ensures
    ∙ ap (λ ys. Some (view (get_or ys i x).1)) (sym same)
    ∙ sym (found_at k xs i x orderly c.in-Ok.ensures.bound (at x))
    ∙ ap (λ ys. get_member k (fields_view ys)) same

pub returns-in-Err : goal.returns-in-Err
returns-in-Err c =
    let k = c.args.name.now in
    let xs = c.deref.result.now in
    let same : xs ≡ c.args.fields.now.items = c.deref.ensures.value in
    let orderly : MembersAreOrderly (fields_view xs) = subst (λ ys. MembersAreOrderly (fields_view ys)) (sym same) c.requires in
    let parts = c.in-Err.ensures.position (ranked k) (always_returns_same _ _ _ (λ a r f called. search rules)) (rising k xs orderly) in
    not_found k xs c.in-Err.field-0 parts ∙ ap (λ ys. get_member k (fields_view ys)) same
