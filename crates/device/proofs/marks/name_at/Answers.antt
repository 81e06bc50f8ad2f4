use Rattle.std.proofs.Common.{map, sym, ◌∙◌}
use Rattle.std.proofs.lemmas.Bool.{ltb-true, ltb-false}
use Rattle.records.specs.Stored.{item_view}
use Rattle.device.proofs.Places.{there, past, name_at, no_name_at}
use Rattle.device.proofs.FirstPlaces.{place_has}
use Rattle.device.proofs.marks.name_at.Goals as goal

pub returns-in-Some : goal.returns-in-Some
returns-in-Some c = λ n is.
    let items = c.args.items.now in
    let x = c.in-Some.item.now in
    let here = there items c.args.at x (ltb-true _ _ (sym c.in-Some.ensures.lookup.0)) c.in-Some.ensures.lookup.1 in
    sym (name_at items c.args.at x here) ∙ place_has n (map item_view items) c.args.at is

pub returns-in-None : goal.returns-in-None
returns-in-None c = λ n is.
    let items = c.args.items.now in
    let here = past items c.args.at (ltb-false _ _ (sym c.in-None.ensures.lookup.0)) in
    sym (no_name_at items c.args.at here) ∙ place_has n (map item_view items) c.args.at is
