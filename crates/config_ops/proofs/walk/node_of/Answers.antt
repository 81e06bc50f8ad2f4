use Rattle.std.proofs.Common.{◌≡◌, ◌+◌, ◌<◌, ◌∷◌, List, ℕ, Some, IfSome, drop, length, option_and_then, sym, ap, ◌∙◌, subst, arith}
use Rattle.std.proofs.lemmas.List.{drop_more}
use Rattle.serde_json.specs.Find.{get}
use Rattle.tree_core.specs.Regular.{IsRegular}
use Rattle.tree_core.specs.View.{view}
use Rattle.tree_core.proofs.RegularParts.{get_regular}
use Rattle.config_ops.specs.Reset.{key_node}
use Rattle.config_ops.proofs.walk.node_of.Goals as goal

pub loop-key-preserved : goal.loop-key-preserved
loop-key-preserved c =
    let l = c.loop-key in
    let keys = c.args.keys.now in
    let i = l.key-index in
    let k : List ℕ = c.key-item.result in
    let tree = view l.here.now in
    let within : i < length keys = omega arith in
    let here : drop i keys ≡ k ∷ drop (i + 1) keys = drop_more keys i k within ∙ ap (λ t. t ∷ drop (i + 1) keys) (sym c.key-item.is) in
    let there : Some (view c.in_ok-here.here.now) ≡ get k tree = c.in_ok-here.ensures ∙ ap (λ t. get t tree) c.as_str.ensures in (
      l.invariant.0 ∙ ap (λ ks. key_node ks tree) here ∙ ap (option_and_then (key_node (drop (i + 1) keys))) (sym there),
      subst (λ o. IfSome o IsRegular) (sym there) (get_regular k tree l.invariant.1),
    )
