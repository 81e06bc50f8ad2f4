use Rattle.std.proofs.Common.{sym, subst}
use Rattle.device.specs.declared.staged.Stage.TheVariants as stages
use Rattle.device.specs.Devices.{Device}
use Rattle.deploy_state.specs.States.{IsIn, device_of}
use Rattle.deploy_state.proofs.Steps.{in_back}
use Rattle.deploy_state.proofs.state.Backing.ended.Goals as goal

pub returns-else-is_rolling-clause-held : goal.returns-else-is_rolling-clause-held
returns-else-is_rolling-clause-held g c =
    let may = c.requires.may in
    let taken = c.in-Ok.ensures.taken may.0 may.1 in
    let held = c.in-Ok.ensures.held in (
      held,
      subst (λ (e : Device). IsIn stages.Backing e) (sym taken)
          (in_back (device_of c.args.self.hand) c.args.exit may.0 c.requires.held.1 may.1
          (λ rolling. let is = c.if-is_rolling.ensures.1 (subst (λ (e : Device). IsIn stages.Rolling e) (sym taken) rolling) in let none =
          c.if-is_rolling.false in cc)),
    )
