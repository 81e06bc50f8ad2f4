use Rattle.std.specs.Prelude.{List, Option, IfSome}
use Rattle.std.proofs.Common.{◌≡◌, ◌∙◌, ap, subst}
use Rattle.deploy_state.specs.States.{idle_device}
use Rattle.step_runner.specs.Entries.{Listed}
use Rattle.histories.specs.States.{state_after}
use Rattle.session_steady.specs.Failures.{hears}
use Rattle.session_steady.specs.declared.settling.Settled.{Settled}
use Rattle.session_serving.specs.declared.pauses.Pause.{Pause}
use Rattle.session_serving.proofs.Pausing.{looked_at}
use Rattle.session_serving.proofs.Steady.{settled_none, settled_some, up_on}
use Rattle.session_serving.proofs.restarting.settle_and_look.Goals as goal

pub settle-requires-clause-drives : goal.settle-requires-clause-drives
settle-requires-clause-drives g c = (c.requires.up.drives, c.requires.up.steady)

pub settle-requires-clause-from_state : goal.settle-requires-clause-from_state
settle-requires-clause-from_state g c = let q = c.requires.from_state in (q.0, idle_device c.args.idle.now, q.1)

pub returns-in-Some-clause-trace : goal.returns-in-Some-clause-trace
returns-in-Some-clause-trace g c = λ p serving.
    let d = idle_device c.args.idle.now in
    let told = Listed g.R.Runner.list g.R.Runner.told g.R.Runner.asked c.settle.new.runner in
    let world = g.S.Supervise.world c.settle.new.supervisor in
    let living = g.R.Runner.living c.settle.new.runner in
    let k = c.settle.ensures.trace p d serving in
    let q = state_after p k.0 in
    let s = settled_some p q d world told living c.settle.result c.in-Some.settled c.in-Some.is k.2 in
    let failed = subst (λ (o : Option Settled). IfSome o (λ x. x.failed ≡ hears k.0)) c.in-Some.is k.3 in (
      k.0,
      k.1,
      (s.0, s.1, s.2),
      record {
        unchanged = k.4;
        left = c.take_look.ensures ∙ looked_at c.args.pause.now c.in-Some.settled d world q k.0 failed s.0.device_is s.0.turn.world_is;
      },
    )

pub returns-in-Some-clause-broken : goal.returns-in-Some-clause-broken
returns-in-Some-clause-broken g c = ap (λ (x : Pause). x.broken) c.take_look.ensures

pub returns-in-Some-clause-up : goal.returns-in-Some-clause-up
returns-in-Some-clause-up g c = up_on (idle_device c.args.idle.now) (g.S.Supervise.world c.args.supervisor.now)
    (g.S.Supervise.world c.settle.new.supervisor) c.requires.up c.settle.ensures.stays

pub returns-in-None-clause-trace : goal.returns-in-None-clause-trace
returns-in-None-clause-trace g c = λ p serving.
    let d = idle_device c.args.idle.now in
    let told = Listed g.R.Runner.list g.R.Runner.told g.R.Runner.asked c.settle.new.runner in
    let world = g.S.Supervise.world c.settle.new.supervisor in
    let living = g.R.Runner.living c.settle.new.runner in
    let k = c.settle.ensures.trace p d serving in
    let s = settled_none p (state_after p k.0) d world told living c.settle.result c.in-None.is k.2 in
    (k.0, k.1, (s.0, s.1, s.2), tt)

pub returns-in-None-clause-up : goal.returns-in-None-clause-up
returns-in-None-clause-up g c = up_on (idle_device c.args.idle.now) (g.S.Supervise.world c.args.supervisor.now)
    (g.S.Supervise.world c.settle.new.supervisor) c.requires.up c.settle.ensures.stays
