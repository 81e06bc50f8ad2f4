use Rattle.std.proofs.Common.{◌≡◌, ◌+◌, ◌<◌, ◌≤◌, ℕ, List, [], ◌∷◌, ◌++◌, get_or, length, map, take, sym, ap, subst, ◌∙◌, arith}
use Rattle.std.specs.List.{AllZip}
use Rattle.std.proofs.lemmas.List.{take_all, take_more}
use Rattle.records.specs.Stored.{item_view}
use Rattle.components.specs.declared.kinds.Prepared.{Prepared}
use Rattle.session_boots.specs.Made.{AreBootsOf, IsBootOf}
use Rattle.session_admission.proofs.Listed.{listed, zip_push}
use Rattle.session_admission.proofs.boots.prepare_boots.Goals as goal

pub loop-name-preserved : goal.loop-name-preserved
loop-name-preserved c =
    let R = IsBootOf c.args.origin.now (map item_view c.args.items.now) in
    let names : List (List ℕ) = c.args.names.now in
    let i = c.loop-name.name-index in
    let x = c.name-item.result in
    let y = c.in_ok-prepare_boot.field-0 in
    let ys = c.loop-name.made.items in
    let long = ap length c.as_slice-name-items.ensures in
    let within : i < length names = omega (arith, long) in
    let is : x ≡ get_or names i x = subst (λ (l : List (List ℕ)). x ≡ get_or l i x) c.as_slice-name-items.ensures c.name-item.is in
    let next : take (i + 1) names ≡ take i names ++ x ∷ [] = take_more names i x within ∙ ap (λ z. take i names ++ z ∷ []) (sym is) in
    rw (next, c.in_ok-push.ensures.items) (zip_push R (take i names) ys x y c.loop-name.invariant c.in_ok-prepare_boot.ensures)

pub returns : goal.returns
returns c =
    let origin = c.args.origin.now in
    let items = map item_view c.args.items.now in
    let names : List (List ℕ) = c.args.names.now in
    let long = ap length c.as_slice-name-items.ensures in
    let past : length names ≤ c.loop-name.name-index = omega (arith, long) in
    let zip : AllZip (IsBootOf origin items) names c.loop-name.made.items =
    subst (λ (l : List (List ℕ)). AllZip (IsBootOf origin items) l c.loop-name.made.items) (take_all c.loop-name.name-index names past) c.loop-name.invariant in
    subst (λ (made : List Prepared). AreBootsOf origin items names made) (sym c.new.ensures) (listed origin items names c.loop-name.made.items zip)
