use Rattle.std.proofs.Common.{◌≡◌, ◌∙◌, length, arith}
use Rattle.fleet_core.specs.Fleets.{FleetState}
use Rattle.fleet_core.proofs.Stepping.{report_steps, report_sound}
use Rattle.fleet_core.proofs.fleet.Fleet.report.Goals as goal

pub invariant_of-self-2 : goal.invariant_of-self-2
invariant_of-self-2 c =
    let v : FleetState = record { devices = c.self.inside.devices.items; sent = c.self.inside.sent.items; reports = c.self.inside.reports.items } in
    let devices : c.len.result ≡ length c.self.inside.devices.items = c.len.ensures ∙ c.self.inside.devices.ok.0 in
    let reports : c.len-number.result ≡ length c.self.inside.reports.items = c.len-number.ensures ∙ c.self.inside.reports.ok.0 in
    report_sound v c.args.device c.push.new.self.items c.self.invariant (omega (arith, devices)) (omega (arith, reports)) c.in_ok-push.ensures.items

pub returns-clause-steps : goal.returns-clause-steps
returns-clause-steps c =
    let v : FleetState = record { devices = c.self.inside.devices.items; sent = c.self.inside.sent.items; reports = c.self.inside.reports.items } in
    let devices : c.len.result ≡ length c.self.inside.devices.items = c.len.ensures ∙ c.self.inside.devices.ok.0 in
    let reports : c.len-number.result ≡ length c.self.inside.reports.items = c.len-number.ensures ∙ c.self.inside.reports.ok.0 in
    report_steps v c.args.self.now c.self.view_is c.args.device c.len-number.result c.push.new.self.items (omega (arith, devices)) (omega (arith, reports))
    reports c.in_ok-push.ensures.items
