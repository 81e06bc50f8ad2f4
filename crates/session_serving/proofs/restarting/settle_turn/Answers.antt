use Rattle.std.specs.Prelude.{ℕ, List, Option, IfSome, ◌++◌}
use Rattle.std.proofs.Common.{◌≡◌, ◌∙◌, inr, sym, subst}
use Rattle.deploy_state.specs.States.{idle_device}
use Rattle.step_runner.specs.Entries.{Listed}
use Rattle.components.specs.Components.{Components}
use Rattle.histories.specs.States.{SessionState, state_after}
use Rattle.histories.proofs.Joined.{left-append}
use Rattle.session_boots.specs.Traces.{ActTrace}
use Rattle.session_boots.proofs.Acting.{acts_on}
use Rattle.session_steady.specs.Runs.{IsSame}
use Rattle.session_steady.specs.Serves.{IsAsking, SettledLeft}
use Rattle.session_steady.specs.declared.settling.Settled.{Settled}
use Rattle.session_steady.proofs.Since.{since_on}
use Rattle.session_serving.specs.Pauses.{CameLeft, StaysAsItIs, is_due}
use Rattle.session_serving.specs.declared.restarting.Came.{Came}
use Rattle.session_serving.proofs.Pausing.{came_due, change_since, left_twice, paced_again, settled_since}
use Rattle.session_serving.proofs.Steady.{settled_none, settled_some}
use Rattle.session_serving.proofs.restarting.settle_turn.Goals as goal

pub come_again-requires-clause-from_state : goal.come_again-requires-clause-from_state
come_again-requires-clause-from_state g c =
    let q = c.requires.from_state in
    let d = idle_device c.args.idle.now in
    let told = Listed g.R.Runner.list g.R.Runner.told g.R.Runner.asked c.settle_and_look.new.runner in
    let world = g.S.Supervise.world c.settle_and_look.new.supervisor in
    let living = g.R.Runner.living c.settle_and_look.new.runner in
    let k = c.settle_and_look.ensures.trace q.0 q.1 in
    let s = settled_some q.0 (state_after q.0 k.0) d world told living c.settle_and_look.result c.in-Some.settled c.in-Some.is k.2 in
    (state_after q.0 k.0, told, living, s.0)

-- ---- it comes up again

pub settle_once_more-requires-clause-from_state : goal.settle_once_more-requires-clause-from_state
settle_once_more-requires-clause-from_state g c =
    let q = c.requires.from_state in
    let d = idle_device c.args.idle.now in
    let told = Listed g.R.Runner.list g.R.Runner.told g.R.Runner.asked c.settle_and_look.new.runner in
    let world = g.S.Supervise.world c.settle_and_look.new.supervisor in
    let new = g.S.Supervise.world c.come_again.new.supervisor in
    let living = g.R.Runner.living c.settle_and_look.new.runner in
    let k = c.settle_and_look.ensures.trace q.0 q.1 in
    let x = state_after q.0 k.0 in
    let s = settled_some q.0 x d world told living c.settle_and_look.result c.in-Some.settled c.in-Some.is k.2 in
    let t = subst (λ (y : Came). CameLeft y x d world new told living) c.in-Again.is (c.in-Ok.ensures.trace x told living s.0) in
    (state_after x t.0, t.3)

pub returns-in-Again-clause-trace : goal.returns-in-Again-clause-trace
returns-in-Again-clause-trace g c = λ p serving.
    let d = idle_device c.args.idle.now in
    let told = Listed g.R.Runner.list g.R.Runner.told g.R.Runner.asked c.settle_and_look.new.runner in
    let world = g.S.Supervise.world c.settle_and_look.new.supervisor in
    let new = g.S.Supervise.world c.come_again.new.supervisor in
    let living = g.R.Runner.living c.settle_and_look.new.runner in
    let last = Listed g.R.Runner.list g.R.Runner.told g.R.Runner.asked c.settle_once_more.new.runner in
    let final = g.S.Supervise.world c.settle_once_more.new.supervisor in
    let left = g.R.Runner.living c.settle_once_more.new.runner in
    let before = g.R.Runner.list c.args.runner.now in
    let between = g.R.Runner.list c.settle_and_look.new.runner in
    let after = g.R.Runner.list c.settle_once_more.new.runner in
    let k = c.settle_and_look.ensures.trace p serving in
    let x = state_after p k.0 in
    let s = settled_some p x d world told living c.settle_and_look.result c.in-Some.settled c.in-Some.is k.2 in
    let t = subst (λ (y : Came). CameLeft y x d world new told living) c.in-Again.is (c.in-Ok.ensures.trace x told living s.0) in
    let y = state_after x t.0 in
    let m = c.settle_once_more.ensures.trace y t.3 in
    let due = came_due c.in-Ok.came (is_due c.settle_and_look.new.pause c.in-Some.settled.now) c.in-Ok.ensures.exact c.in-Again.is in
    let first = subst (λ (o : Option Settled). IfSome o (λ r. StaysAsItIs c.args.pause.now c.settle_and_look.new.pause r.now p k.0)) c.in-Some.is k.3 in
    let since = since_on p x y (s.1, s.2) (change_since x t.0 t.1 s.0.steady) in (
      m.0 ++ (t.0 ++ k.0),
      acts_on p (t.0 ++ k.0) m.0 before between after (acts_on p k.0 t.0 before between between k.1 t.2)
          (subst (λ (q : SessionState). ActTrace q m.0 between after) (sym (left-append p t.0 k.0)) m.1),
      subst (λ (q : SessionState). SettledLeft p c.settle_once_more.result q d final last left) (sym (left_twice p k.0 t.0 m.0))
          (settled_since p y (state_after y m.0) c.settle_once_more.result d final last left since m.2),
      paced_again p k.0 t.0 m.0 c.args.pause.now c.settle_and_look.new.pause c.settle_once_more.new.pause c.in-Some.settled.now c.settle_once_more.result
          first due t.1 m.3,
    )

-- ---- it does not

pub returns-in-NotYet-clause-trace : goal.returns-in-NotYet-clause-trace
returns-in-NotYet-clause-trace g c = λ p serving.
    let d = idle_device c.args.idle.now in
    let told = Listed g.R.Runner.list g.R.Runner.told g.R.Runner.asked c.settle_and_look.new.runner in
    let world = g.S.Supervise.world c.settle_and_look.new.supervisor in
    let new = g.S.Supervise.world c.come_again.new.supervisor in
    let living = g.R.Runner.living c.settle_and_look.new.runner in
    let k = c.settle_and_look.ensures.trace p serving in
    let x = state_after p k.0 in
    let s = settled_some p x d world told living c.settle_and_look.result c.in-Some.settled c.in-Some.is k.2 in
    let same = subst (λ (y : Came). CameLeft y x d world new told living) c.in-NotYet.is (c.in-Ok.ensures.trace x told living s.0) in
    let stays = subst (λ (o : Option Settled). IfSome o (λ r. StaysAsItIs c.args.pause.now c.settle_and_look.new.pause r.now p k.0)) c.in-Some.is k.3 in
    (k.0, k.1, (subst (λ (w : Components). IsAsking x d w told living) (sym same) s.0, s.1, s.2), inr stays)

pub returns-in-Err-clause-trace : goal.returns-in-Err-clause-trace
returns-in-Err-clause-trace g c = λ p serving.
    let d = idle_device c.args.idle.now in
    let told = Listed g.R.Runner.list g.R.Runner.told g.R.Runner.asked c.settle_and_look.new.runner in
    let world = g.S.Supervise.world c.settle_and_look.new.supervisor in
    let living = g.R.Runner.living c.settle_and_look.new.runner in
    let k = c.settle_and_look.ensures.trace p serving in
    let x = state_after p k.0 in
    let s = settled_some p x d world told living c.settle_and_look.result c.in-Some.settled c.in-Some.is k.2 in
    let stays = subst (λ (o : Option Settled). IfSome o (λ r. StaysAsItIs c.args.pause.now c.settle_and_look.new.pause r.now p k.0)) c.in-Some.is k.3 in
    (k.0, k.1, (subst (λ (w : Components). IsAsking x d w told living) (sym c.in-Err.ensures.refused) s.0, s.1, s.2), inr stays)

-- ---- the clock stands at its end

pub returns-in-None-clause-trace : goal.returns-in-None-clause-trace
returns-in-None-clause-trace g c = λ p serving.
    let d = idle_device c.args.idle.now in
    let told = Listed g.R.Runner.list g.R.Runner.told g.R.Runner.asked c.settle_and_look.new.runner in
    let world = g.S.Supervise.world c.settle_and_look.new.supervisor in
    let living = g.R.Runner.living c.settle_and_look.new.runner in
    let k = c.settle_and_look.ensures.trace p serving in
    let s = settled_none p (state_after p k.0) d world told living c.settle_and_look.result c.in-None.is k.2 in
    (k.0, k.1, (s.0, s.1, s.2), tt)
