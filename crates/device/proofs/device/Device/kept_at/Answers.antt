use Rattle.std.proofs.Common.{◌≡◌, ◌-◌, ◌≤◌, ◌∙◌, ◌++◌, ℕ, List, length, map, Some, sym, ap, subst, arith}
use Rattle.std.specs.Prelude.{slice_get}
use Rattle.std.proofs.lemmas.Bool.{ltb-true, ltb-false}
use Rattle.std.proofs.lemmas.List.{length-map}
use Rattle.records.specs.declared.record.Item as code
use Rattle.records.specs.Stored.{Item, Kept, item_view}
use Rattle.device.specs.Fronts.{ended}
use Rattle.device.proofs.Places.{there}
use Rattle.device.proofs.Telling.{told_at, prefix_at, behind_at, moved_to}
use Rattle.device.proofs.device.Device.kept_at.Goals as goal

pub returns-in_ok-copy-in-Some : goal.returns-in_ok-copy-in-Some
returns-in_ok-copy-in-Some c =
    let x = c.in-Some.item.now in
    let at = c.args.at in
    let set = c.args.self.now.set in
    let copy = item_view c.in_ok-copy-in-Some.field-0 in
    let found = there c.as_slice.result.now at x (ltb-true _ _ (sym c.in-Some.ensures.lookup.0)) c.in-Some.ensures.lookup.1 in
    let here : slice_get set at ≡ Some x = subst (λ (l : List code.Item). slice_get l at ≡ Some x) c.as_slice.ensures found in
    let shown : slice_get (map item_view set) at ≡ Some copy = told_at item_view set at x here ∙ ap (λ (i : Item). Some i) (sym c.in_ok-copy-in-Some.ensures) in
    prefix_at (map Kept (map item_view set)) (map ended c.args.self.now.closed) at (Kept copy) (told_at Kept (map item_view set) at copy shown)

pub returns-in-None : goal.returns-in-None
returns-in-None c =
    let set = c.args.self.now.set in
    let records = map Kept (map item_view set) in
    let long : length records ≡ length set = length-map (map item_view set) Kept ∙ length-map set item_view in
    let slice = ap length c.as_slice.ensures in
    let past = ltb-false _ _ (sym c.in-None.ensures.lookup.0) in
    let le : length records ≤ c.args.at = omega (arith, long, slice, past) in
    let place : c.args.at - length records ≡ c.args.at - c.len.result = let count = c.len.ensures in omega (arith, long, count) in
    moved_to c.ended_at.result (map Kept (map item_view set) ++ map ended c.args.self.now.closed) (map ended c.args.self.now.closed) c.args.at
    (c.args.at - c.len.result)
    (behind_at records (map ended c.args.self.now.closed) c.args.at le ∙ ap (λ (k : ℕ). slice_get (map ended c.args.self.now.closed) k) place)
    c.ended_at.ensures
