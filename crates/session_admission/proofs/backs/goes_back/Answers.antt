use Rattle.std.proofs.Common.{◌≡◌, ◌∙◌, ℕ, List, Some, map, sym, subst}
use Rattle.recipe_reader.specs.OneRecipe.{IsRecipeFor}
use Rattle.records.specs.Stored.{item_view}
use Rattle.device.specs.Lawful.{place}
use Rattle.session_admission.proofs.GoingBack.{back_none, back_some, item_read, place_below}
use Rattle.session_admission.proofs.backs.goes_back.Goals as goal

pub returns-in_default : goal.returns-in_default
returns-in_default c = back_none c.args.origin.now.platform c.args.name.now (map item_view c.args.set.now) (sym c.place_of.ensures ∙ c.in_default.is)

pub bounds-set-at : goal.bounds-set-at
bounds-set-at c = place_below c.args.name.now c.args.set.now c.in-Some.at (sym c.place_of.ensures ∙ c.in-Some.is)

pub returns-in-Ok : goal.returns-in-Ok
returns-in-Ok c =
    let p = c.args.origin.now.platform in
    let item = c.index-set-at.result in
    let recipe = c.in-Ok.recipe in
    let there : place c.args.name.now (map item_view c.args.set.now) ≡ Some c.in-Some.at = sym c.place_of.ensures ∙ c.in-Some.is in
    let below = place_below c.args.name.now c.args.set.now c.in-Some.at there in
    let reads = subst (λ (b : List ℕ). IsRecipeFor b p recipe) c.as_slice.ensures c.in-Ok.ensures.exact in
    c.recipe_laws.ensures.boot_back item.recipe p recipe reads
    ∙ back_some p c.args.name.now (map item_view c.args.set.now) (item_view item)
    (item_read c.args.name.now c.args.set.now c.in-Some.at item there below c.index-set-at.is)
