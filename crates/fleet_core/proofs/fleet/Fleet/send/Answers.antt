use Rattle.std.proofs.Common.{◌≡◌, ◌∙◌, length, arith}
use Rattle.fleet_core.specs.Fleets.{FleetState}
use Rattle.fleet_core.proofs.Stepping.{send_steps}
use Rattle.fleet_core.proofs.fleet.Fleet.send.Goals as goal

pub returns-clause-steps : goal.returns-clause-steps
returns-clause-steps c =
    let v : FleetState = record { devices = c.self.inside.devices.items; sent = c.self.inside.sent.items; reports = c.self.inside.reports.items } in
    let devices : c.len.result ≡ length c.self.inside.devices.items = c.len.ensures ∙ c.self.inside.devices.ok.0 in
    let sent : c.len-number.result ≡ length c.self.inside.sent.items = c.len-number.ensures ∙ c.self.inside.sent.ok.0 in
    send_steps v c.args.self.now c.self.view_is c.args.device c.len-number.result c.args.bytes.now c.in_ok-packet.packet c.push.new.self.items
    (omega (arith, devices)) (omega (arith, sent)) sent
    c.in_ok-packet.ensures c.in_ok-push.ensures.items
