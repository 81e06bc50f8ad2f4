use Rattle.std.proofs.Common.{◌≡◌, ◌<◌, ◌∙◌, length, subst, refl, arith}
use Rattle.fleet_core.specs.Fleets.{FleetState}
use Rattle.fleet_core.proofs.Stepping.{restarted_steps}
use Rattle.fleet_core.proofs.fleet.Fleet.restart.Goals as goal

pub returns-clause-steps : goal.returns-clause-steps
returns-clause-steps c =
    let many : c.len.result ≡ length c.self.inside.devices.items = c.len.ensures ∙ c.self.inside.devices.ok.0 in
    let there : c.args.device < length c.self.inside.devices.items = omega (arith, many) in
    restarted_steps c.args.self.now c.args.self.now refl c.args.device (subst (λ (f : FleetState). c.args.device < length f.devices) c.self.view_is there)
