use Rattle.std.proofs.Common.{sym, subst}
use Rattle.device.specs.declared.staged.Stage.TheVariants as stages
use Rattle.device.specs.Devices.{Device}
use Rattle.deploy_state.specs.States.{IsIn, device_of}
use Rattle.deploy_state.proofs.Steps.{in_counted}
use Rattle.deploy_state.proofs.state.Rolling.failed.Goals as goal

pub returns-in-Ok-clause-held : goal.returns-in-Ok-clause-held
returns-in-Ok-clause-held g c =
    let held = c.in-Ok.ensures.held in (
      held,
      subst (λ (e : Device). IsIn stages.Rolling e) (sym c.in-Ok.ensures.taken)
          (in_counted (device_of c.args.self.hand) stages.Rolling c.args.name.now c.args.step c.args.exit c.requires.held.1),
    )
