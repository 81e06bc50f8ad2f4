use Rattle.std.proofs.Common.{sym, subst}
use Rattle.device.specs.declared.staged.Stage.TheVariants as stages
use Rattle.device.specs.Devices.{Device}
use Rattle.deploy_state.specs.States.{IsIn, device_of}
use Rattle.deploy_state.proofs.Steps.{in_begun, some_begun}
use Rattle.deploy_state.proofs.state.Booting.begin.Goals as goal

pub returns-in-Ok-clause-held : goal.returns-in-Ok-clause-held
returns-in-Ok-clause-held g c =
    let d = device_of c.args.self.hand in
    let some = some_begun d c.requires.may in
    let taken = c.in-Ok.ensures.taken some.0 some.1 in
    let held = c.in-Ok.ensures.held in
    (held, subst (λ (e : Device). IsIn stages.Booting e) (sym taken) (in_begun d stages.Booting some.0 c.requires.held.1 some.1))
