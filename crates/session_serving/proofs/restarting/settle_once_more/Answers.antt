use Rattle.std.specs.Prelude.{List, ◌⊎◌, IfSome}
use Rattle.std.proofs.Common.{subst}
use Rattle.deploy_state.specs.States.{idle_device}
use Rattle.step_runner.specs.Entries.{Listed}
use Rattle.histories.specs.States.{state_after}
use Rattle.histories.specs.TraceEvents.{TraceEvent}
use Rattle.session_boots.specs.Traces.{ActTrace}
use Rattle.session_steady.specs.Serves.{SettledLeft}
use Rattle.session_serving.specs.Pauses.{StaysAsItIs}
use Rattle.session_serving.specs.declared.pauses.Pause.{Pause}
use Rattle.session_serving.proofs.restarting.settle_once_more.Goals as goal

pub returns-clause-trace : goal.returns-clause-trace
returns-clause-trace g c = λ p serving.
    let d = idle_device c.args.idle.now in
    let told = Listed g.R.Runner.list g.R.Runner.told g.R.Runner.asked c.settle_and_look.new.runner in
    let world = g.S.Supervise.world c.settle_and_look.new.supervisor in
    let living = g.R.Runner.living c.settle_and_look.new.runner in
    subst (λ (x : Pause). (h : List TraceEvent) × ActTrace p h (g.R.Runner.list c.args.runner.now) (g.R.Runner.list c.settle_and_look.new.runner)
    × SettledLeft p c.settle_and_look.result (state_after p h) d world told living
    × IfSome c.settle_and_look.result (λ s. StaysAsItIs x c.settle_and_look.new.pause s.now p h)) c.lengthened.ensures
    (c.settle_and_look.ensures.trace p serving)
