use Rattle.std.proofs.Common.{◌≡◌, ◌+◌, ◌<◌, ◌∷◌, List, ℕ, Some, IfSome, drop, length, option_and_then, sym, ap, ◌∙◌, subst, arith}
use Rattle.std.proofs.lemmas.List.{drop_more}
use Rattle.tree_core.specs.View.{view}
use Rattle.tree_core.specs.Nodes.{node, child}
use Rattle.tree_core.specs.Regular.{IsRegular}
use Rattle.tree_core.proofs.NodeOrder.{child_regular}
use Rattle.tree_core.proofs.tree.Tree.get.Goals as goal

pub loop-token-preserved : goal.loop-token-preserved
loop-token-preserved c =
    let l = c.loop-token in
    let xs = c.as_slice-token-items.result.now in
    let i = l.token-index in
    let token : List ℕ = c.token-item.result in
    let below = c.in_ok-tree.tree.now in
    let within : i < length xs = omega arith in
    let here : drop i xs ≡ token ∷ drop (i + 1) xs = drop_more xs i token within ∙ ap (λ t. t ∷ drop (i + 1) xs) (sym c.token-item.is) in
    let there : Some (view below) ≡ child token (view l.tree.now) = c.in_ok-tree.ensures in (
      l.invariant.0 ∙ ap (λ ts. node ts (view l.tree.now)) here ∙ ap (option_and_then (node (drop (i + 1) xs))) (sym there),
      subst (λ o. IfSome o IsRegular) (sym there) (child_regular token (view l.tree.now) l.invariant.1),
    )
