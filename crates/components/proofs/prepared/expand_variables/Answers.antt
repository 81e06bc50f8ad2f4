use Rattle.std.proofs.Common.{◌≡◌, ◌+◌, ◌<◌, [], ◌∷◌, ◌++◌, take, length, sym, ap, ◌∙◌, arith}
use Rattle.std.proofs.lemmas.List.{take_more}
use Rattle.std.proofs.lemmas.List.Elements.{AllZip-push}
use Rattle.components.specs.Made.{IsVariable}
use Rattle.components.proofs.prepared.expand_variables.Goals as goal

pub loop-variable-preserved : goal.loop-variable-preserved
loop-variable-preserved c =
    let R = IsVariable c.args.scope.now in
    let xs = c.args.variables.now in
    let i = c.loop-variable.variable-index in
    let x = c.variable-item.result in
    let y = c.in_ok-expand_variable.field-0 in
    let ys = c.loop-variable.made.items in
    let within : i < length xs = omega arith in
    let next : take (i + 1) xs ≡ take i xs ++ x ∷ [] = take_more xs i x within ∙ ap (λ z. take i xs ++ z ∷ []) (sym c.variable-item.is) in
    rw (next, c.in_ok-push.ensures.items) (AllZip-push R (take i xs) ys x y c.loop-variable.invariant c.in_ok-expand_variable.ensures)
