use Rattle.std.proofs.Common.{sym, subst}
use Rattle.device.specs.Devices.{Device}
use Rattle.device.specs.declared.staged.Stage.TheVariants as stages
use Rattle.deploy_state.specs.States.{IsIn, device_of}
use Rattle.deploy_state.proofs.Steps.{back_mark, in_rolled, in_sent_back, may_go_back, may_roll_back, roll_mark}
use Rattle.deploy_state.proofs.state.Hand.break_off.Goals as goal

pub step-requires-clause-may : goal.step-requires-clause-may
step-requires-clause-may g c = may_go_back (device_of c.args.self) c.has_backs.result c.if-has_backs.true c.has_backs.ensures.lawful c.requires.may

pub step-requires-else-has_backs-clause-may : goal.step-requires-else-has_backs-clause-may
step-requires-else-has_backs-clause-may g c = may_roll_back (device_of c.args.self) c.requires.may

pub returns-in-Ok-clause-moments : goal.returns-in-Ok-clause-moments
returns-in-Ok-clause-moments g c = λ r is. c.step.ensures.moments r
    (back_mark (device_of c.args.self) c.has_backs.result r c.if-has_backs.true c.has_backs.ensures.answers is)

pub returns-in-Err-clause-moments : goal.returns-in-Err-clause-moments
returns-in-Err-clause-moments g c = λ r is. c.step.ensures.moments r
    (back_mark (device_of c.args.self) c.has_backs.result r c.if-has_backs.true c.has_backs.ensures.answers is)

pub returns-in-Ok-clause-taken : goal.returns-in-Ok-clause-taken
returns-in-Ok-clause-taken g c = λ r is. c.in-Ok.ensures.taken r
    (back_mark (device_of c.args.self) c.has_backs.result r c.if-has_backs.true c.has_backs.ensures.answers is)

pub returns-in-Ok-clause-held : goal.returns-in-Ok-clause-held
returns-in-Ok-clause-held g c =
    let d = device_of c.args.self in
    let may = may_go_back d c.has_backs.result c.if-has_backs.true c.has_backs.ensures.lawful c.requires.may in
    let held = c.in-Ok.ensures.held in
    (held, subst (λ (e : Device). IsIn stages.Backing e) (sym (c.in-Ok.ensures.taken may.0 may.1)) (in_sent_back d may.0 may.1))

pub returns-in-Ok-step-clause-moments : goal.returns-in-Ok-step-clause-moments
returns-in-Ok-step-clause-moments g c = λ r is. c.step-else-has_backs.ensures.moments r
    (roll_mark (device_of c.args.self) c.has_backs.result r c.if-has_backs.false c.has_backs.ensures.answers is)

pub returns-in-Err-step-clause-moments : goal.returns-in-Err-step-clause-moments
returns-in-Err-step-clause-moments g c = λ r is. c.step-else-has_backs.ensures.moments r
    (roll_mark (device_of c.args.self) c.has_backs.result r c.if-has_backs.false c.has_backs.ensures.answers is)

pub returns-in-Ok-step-clause-taken : goal.returns-in-Ok-step-clause-taken
returns-in-Ok-step-clause-taken g c = λ r is. c.in-Ok-step.ensures.taken r
    (roll_mark (device_of c.args.self) c.has_backs.result r c.if-has_backs.false c.has_backs.ensures.answers is)

pub returns-in-Ok-step-clause-held : goal.returns-in-Ok-step-clause-held
returns-in-Ok-step-clause-held g c =
    let d = device_of c.args.self in
    let may = may_roll_back d c.requires.may in
    let held = c.in-Ok-step.ensures.held in
    (held, subst (λ (e : Device). IsIn stages.Rolling e) (sym (c.in-Ok-step.ensures.taken may.0 may.1)) (in_rolled d may.0 may.1))
