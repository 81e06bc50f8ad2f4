use Rattle.std.proofs.Common.{sym, subst}
use Rattle.device.specs.declared.staged.Stage.TheVariants as stages
use Rattle.device.specs.Devices.{Device}
use Rattle.deploy_state.specs.States.{IsIn, device_of}
use Rattle.deploy_state.proofs.Steps.{in_ended}
use Rattle.deploy_state.proofs.state.Booting.ended.Goals as goal

pub returns-in-Ok-clause-held : goal.returns-in-Ok-clause-held
returns-in-Ok-clause-held g c =
    let may = c.requires.may in
    let taken = c.in-Ok.ensures.taken may.0 may.1 in
    let held = c.in-Ok.ensures.held in
    (held, subst (λ (e : Device). IsIn stages.Booting e) (sym taken) (in_ended (device_of c.args.self.hand) c.args.exit may.0 c.requires.held.1 may.1))
