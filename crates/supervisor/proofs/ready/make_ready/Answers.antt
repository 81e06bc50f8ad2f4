use Rattle.std.proofs.Common.{◌≤◌, List, arith, length, map}
use Rattle.records.specs.Stored.{item_view}
use Rattle.std.proofs.lemmas.List.{length-map}
use Rattle.components.specs.Components.{ComponentState}
use Rattle.supervisor.proofs.Readies.{ready_apart, ready_few}
use Rattle.supervisor.proofs.ready.make_ready.Goals as goal

pub invariant_of-result : goal.invariant_of-result
invariant_of-result c =
    let ps : List ComponentState = c.in_ok-coming.coming.items in
    let items = map item_view c.args.items.now in
    let l = length-map c.args.items.now item_view in
    let few : length ps ≤ 128 = ready_few c.args.origin.now items ps c.in_ok-coming.ensures.fitted (omega (arith, l, c.requires.few)) in
    let room = c.in_ok-room.ensures.exact in
    let flags = c.in_ok-flags.ensures.exact in (
      c.in_ok-room.ensures.items,
      c.in_ok-flags.ensures.items,
      omega (arith, room),
      omega (arith, room, flags),
      omega (arith, room),
      few,
      c.in_ok-coming.ensures.fresh,
      ready_apart c.args.origin.now items ps c.in_ok-coming.ensures.fitted c.requires.rise,
    )
