use Rattle.std.proofs.Common.{sym, subst}
use Rattle.records.specs.Stored as stored
use Rattle.device.specs.declared.staged.Stage.TheVariants as stages
use Rattle.device.specs.Devices.{Device}
use Rattle.deploy_state.specs.States.{IsIn, device_of}
use Rattle.deploy_state.proofs.Steps.{in_activated, mark_activating, may_activate}
use Rattle.deploy_state.proofs.state.Booting.activate.Goals as goal

pub step-requires-clause-may : goal.step-requires-clause-may
step-requires-clause-may g c = may_activate (device_of c.args.self.hand) c.requires.may

pub returns-in-Ok-clause-moments : goal.returns-in-Ok-clause-moments
returns-in-Ok-clause-moments g c = c.step.ensures.moments stored.Activating (mark_activating (device_of c.args.self.hand) c.requires.may)

pub returns-in-Ok-clause-taken : goal.returns-in-Ok-clause-taken
returns-in-Ok-clause-taken g c = c.in-Ok.ensures.taken stored.Activating (mark_activating (device_of c.args.self.hand) c.requires.may)

pub returns-in-Ok-clause-held : goal.returns-in-Ok-clause-held
returns-in-Ok-clause-held g c =
    let d = device_of c.args.self.hand in
    let taken = c.in-Ok.ensures.taken stored.Activating (mark_activating d c.requires.may) in
    let held = c.in-Ok.ensures.held in
    (held, subst (λ (e : Device). IsIn stages.Activating e) (sym taken) (in_activated d c.requires.may))

pub returns-in-Err-clause-moments : goal.returns-in-Err-clause-moments
returns-in-Err-clause-moments g c = c.step.ensures.moments stored.Activating (mark_activating (device_of c.args.self.hand) c.requires.may)
