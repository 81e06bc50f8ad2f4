use Rattle.std.proofs.Common.{◌≡◌, ◌+◌, ◌<◌, ◌∷◌, drop, length, true, false, sym, ap, ◌∙◌, arith}
use Rattle.std.specs.Str.{bytes_eq}
use Rattle.std.proofs.lemmas.List.{drop_more}
use Rattle.serde_json.specs.Find.{get_member}
use Rattle.tree_core.specs.View.{fields_view}
use Rattle.tree_core.proofs.Fields.{Field}
use Rattle.tree_core.proofs.Halves.{field_here, field_passed}
use Rattle.tree_core.proofs.get.field_named.Goals as goal

pub returns-then-eq : goal.returns-then-eq
returns-then-eq c =
    let k = c.args.name.now in
    let xs = c.deref-key-items.result.now in
    let i = c.loop-key.key-index in
    let f : Field = c.loop-key-item.result in
    let within : i < length xs = omega arith in
    let here : drop i xs ≡ f ∷ drop (i + 1) xs = drop_more xs i f within ∙ ap (λ (g : Field). g ∷ drop (i + 1) xs) (sym c.loop-key-item.is) in
    let matched : bytes_eq f.0 k ≡ true = ap (λ t. bytes_eq t k) (sym c.as_str.ensures) ∙ sym c.eq.ensures ∙ c.if-eq.true in
    sym (field_here k f (drop (i + 1) xs) matched)
    ∙ ap (λ ys. get_member k (fields_view ys)) (sym here)
    ∙ sym c.loop-key.invariant
    ∙ ap (λ ys. get_member k (fields_view ys)) c.deref-key-items.ensures.value

pub loop-key-preserved : goal.loop-key-preserved
loop-key-preserved c =
    let k = c.args.name.now in
    let xs = c.deref-key-items.result.now in
    let i = c.loop-key.key-index in
    let f : Field = c.loop-key-item.result in
    let within : i < length xs = omega arith in
    let here : drop i xs ≡ f ∷ drop (i + 1) xs = drop_more xs i f within ∙ ap (λ (g : Field). g ∷ drop (i + 1) xs) (sym c.loop-key-item.is) in
    let other : bytes_eq f.0 k ≡ false = ap (λ t. bytes_eq t k) (sym c.as_str.ensures) ∙ sym c.eq.ensures ∙ c.if-eq.false in
    c.loop-key.invariant ∙ ap (λ ys. get_member k (fields_view ys)) here ∙ field_passed k f (drop (i + 1) xs) other
