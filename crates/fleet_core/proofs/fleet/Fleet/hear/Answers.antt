use Rattle.std.proofs.Common.{◌+◌, length, max, refl}
use Rattle.std.specs.Prelude.{slice_set}
use Rattle.std.proofs.lemmas.Option.{slice_get_read}
use Rattle.fleet_core.specs.Keeping.{Keeping}
use Rattle.fleet_core.specs.Fleets.{FleetState}
use Rattle.fleet_core.proofs.Stepping.{item_at, hear_steps, heard_sound}
use Rattle.fleet_core.proofs.fleet.Fleet.hear.Goals as goal

pub invariant_of-self-2 : goal.invariant_of-self-2
invariant_of-self-2 c =
    let v : FleetState = record { devices = c.self.inside.devices.items; sent = c.self.inside.sent.items; reports = c.self.inside.reports.items } in
    let d = c.in-Some.reporter.now in
    let device : Keeping = c.index_mut.result.now in
    let at = item_at c.deref.result.now c.self.inside.reports.items c.args.number d c.deref.ensures.value c.in-Some.ensures.lookup.0
    c.in-Some.ensures.lookup.1 in
    let low = c.self.invariant.reports c.args.number d at in
    let there = slice_get_read c.self.inside.devices.items (length c.self.inside.devices.items) d device refl low c.index_mut.ensures.value in
    heard_sound v d (max device.heard (c.args.number + 1)) device c.hear.new.self c.self.invariant there c.in_ok-list.ensures.heard

pub returns-clause-steps : goal.returns-clause-steps
returns-clause-steps c =
    let v : FleetState = record { devices = c.self.inside.devices.items; sent = c.self.inside.sent.items; reports = c.self.inside.reports.items } in
    let d = c.in-Some.reporter.now in
    let device : Keeping = c.index_mut.result.now in
    let at = item_at c.deref.result.now c.self.inside.reports.items c.args.number d c.deref.ensures.value c.in-Some.ensures.lookup.0
    c.in-Some.ensures.lookup.1 in
    let low = c.self.invariant.reports c.args.number d at in
    let there = slice_get_read c.self.inside.devices.items (length c.self.inside.devices.items) d device refl low c.index_mut.ensures.value in
    hear_steps v c.args.self.now c.self.view_is c.args.number d device c.hear.new.self c.in_ok-list.list
    (slice_set c.self.inside.devices.items d c.hear.new.self) at there c.in_ok-list.ensures.list c.in_ok-list.ensures.heard refl
