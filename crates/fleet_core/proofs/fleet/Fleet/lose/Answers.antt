use Rattle.std.proofs.Common.{◌≡◌, ◌<◌, ◌∙◌, length, refl, arith}
use Rattle.std.specs.Prelude.{slice_set, true}
use Rattle.std.proofs.lemmas.Option.{slice_get_read}
use Rattle.fleet_core.specs.declared.packet.Sent.{Sent}
use Rattle.fleet_core.specs.Fleets.{FleetState}
use Rattle.fleet_core.proofs.Stepping.{lost_steps}
use Rattle.fleet_core.proofs.fleet.Fleet.lose.Goals as goal

pub returns-clause-steps : goal.returns-clause-steps
returns-clause-steps c =
    let v : FleetState = record { devices = c.self.inside.devices.items; sent = c.self.inside.sent.items; reports = c.self.inside.reports.items } in
    let s : Sent = c.index_mut.result.now in
    let many : c.len.result ≡ length c.self.inside.sent.items = c.len.ensures ∙ c.self.inside.sent.ok.0 in
    let below : c.args.number < c.len.result = omega arith in
    let at = slice_get_read c.self.inside.sent.items c.len.result c.args.number s many below c.index_mut.ensures.value in
    lost_steps v c.args.self.now c.self.view_is c.args.number s (slice_set c.self.inside.sent.items c.args.number (record s { is_lost = true })) at refl
