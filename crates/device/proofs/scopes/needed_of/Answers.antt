use Rattle.std.proofs.Common.{arith, ◌<◌, length, filter, subst, sym}
use Rattle.device.specs.Scopes.{is_needed_at, ArePlacesAt}
use Rattle.device.proofs.ScopeLoops.{keeps_more, keeps_end}
use Rattle.device.proofs.scopes.needed_of.Goals as goal

pub loop-item-preserved : goal.loop-item-preserved
loop-item-preserved c =
    let xs = c.args.items.now in
    let i = c.loop-item.item-index in
    let below : i < length xs = omega arith in
    keeps_more c.args.recipe.now xs xs i c.item-item.result c.loop-item.places.items c.push_needed.new.places.items below c.item-item.is c.loop-item.invariant
    c.in_ok-push_needed.ensures

pub returns : goal.returns
returns c =
    let xs = c.args.items.now in
    let named = is_needed_at c.args.recipe.now in
    subst (ArePlacesAt (filter named xs)) (sym c.new.ensures) (keeps_end named xs xs c.loop-item.item-index c.loop-item.places.items c.loop-item-test.false
    c.loop-item.invariant)
