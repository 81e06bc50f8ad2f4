use Rattle.std.proofs.Common.{◌∙◌, sym}
use Rattle.deploy_state.specs.States.{device_of}
use Rattle.session_boots.proofs.Turning.{none_at, next_at}
use Rattle.session_boots.proofs.boots.next_step.Goals as goal

pub returns-in-Some-clause-next : goal.returns-in-Some-clause-next
returns-in-Some-clause-next g c =
    next_at c.device.result.now c.in-Some.pending (device_of (g.S.BootStage.hand c.args.state.now)) c.args.made.now c.step_at.result
    c.device.ensures c.in-Some.is c.requires.made (sym c.is_through.ensures ∙ c.if-is_through.false) c.step_at.ensures

pub returns-in-Some-clause-none : goal.returns-in-Some-clause-none
returns-in-Some-clause-none g c = λ none. absurd (
    none_at c.device.result.now c.in-Some.pending (device_of (g.S.BootStage.hand c.args.state.now)) c.args.made.now c.step_at.result
    c.device.ensures c.in-Some.is c.requires.made (sym c.is_through.ensures ∙ c.if-is_through.false) c.step_at.ensures none)
