use Rattle.std.proofs.Common.{◌∙◌, ◌++◌, true, refl, sym, subst}
use Rattle.step_runner.specs.Entries.{Listed}
use Rattle.histories.specs.States.{SessionState, state_after}
use Rattle.histories.proofs.Joined.{left-append}
use Rattle.law_termination.specs.Rank.{rank}
use Rattle.session_boots.proofs.Acting.{acts_on}
use Rattle.law_termination.proofs.Steps.{measure_less, not_above_on, pass_not_above, turn_goes}
use Rattle.session_shutdown.specs.Runs.{ActLeft, IsAtTurnStart}
use Rattle.session_shutdown.proofs.Entering.{start_of, turn_left}
use Rattle.session_shutdown.proofs.Falling.{falling_at, sits_time}
use Rattle.session_shutdown.proofs.Turning.{apart, has_stopped, sits}
use Rattle.session_shutdown.proofs.turns.turn.Goals as goal

pub pass-now-requires : goal.pass-now-requires
pass-now-requires g c = let q = c.requires.from_state in record { from_state = (q.0, q.1, start_of q.2) }

pub take_acts-requires-clause-now : goal.take_acts-requires-clause-now
take_acts-requires-clause-now g c = c.pass-now.ensures.now

pub take_acts-requires-clause-drives : goal.take_acts-requires-clause-drives
take_acts-requires-clause-drives g c =
    (pass_not_above (g.S.Supervise.world c.args.supervisor.now) (g.S.Supervise.world c.pass-now.new.supervisor) c.pass-now.result c.requires.drives
    c.pass-now.ensures.passed).on.drives

pub take_acts-requires-clause-from_state : goal.take_acts-requires-clause-from_state
take_acts-requires-clause-from_state g c =
    let q = c.requires.from_state in
    let w = turn_left c.leaving_laws.ensures q.0 q.2.on q.2.keeps (c.pass-now.ensures.trace q.0 q.1 (start_of q.2)) in
    (state_after q.0 w.0, w.2)

pub returns-then-stopped-clause-trace : goal.returns-then-stopped-clause-trace
returns-then-stopped-clause-trace g c = λ p d comes.
    let w = turn_left c.leaving_laws.ensures p comes.on comes.keeps (c.pass-now.ensures.trace p d (start_of comes)) in
    let t = c.take_acts.ensures.trace (state_after p w.0) w.2 in
    let new = Listed g.R.Runner.list g.R.Runner.told g.R.Runner.asked c.take_acts.new.runner in
    let world = g.S.Supervise.world c.take_acts.new.supervisor in
    let living = g.R.Runner.living c.take_acts.new.runner in
    let all = acts_on p w.0 t.0 (g.R.Runner.list c.args.runner.now) (g.R.Runner.list c.pass-now.new.runner) (g.R.Runner.list c.take_acts.new.runner) w.1 t.1 in
    let a = subst (λ (x : SessionState). ActLeft x true world new living) (sym (left-append p t.0 w.0)) t.2 in (
      t.0 ++ w.0,
      all,
      has_stopped (state_after p (t.0 ++ w.0)) d world new living true c.stopped.result a refl (all.device ∙ comes.stands.device_is) c.stopped.ensures
          c.if-stopped.true,
    )

pub returns-then-stopped-clause-drives : goal.returns-then-stopped-clause-drives
returns-then-stopped-clause-drives g c = c.take_acts.ensures.not_above.on.drives

pub returns-then-stopped-clause-falls : goal.returns-then-stopped-clause-falls
returns-then-stopped-clause-falls g c = λ more. absurd (apart more)

pub wait_once-requires-clause-now : goal.wait_once-requires-clause-now
wait_once-requires-clause-now g c = (c.take_acts.ensures.now, c.pass-now.ensures.now.1)

pub wait_once-requires-clause-from_state : goal.wait_once-requires-clause-from_state
wait_once-requires-clause-from_state g c =
    let q = c.requires.from_state in
    let w = turn_left c.leaving_laws.ensures q.0 q.2.on q.2.keeps (c.pass-now.ensures.trace q.0 q.1 (start_of q.2)) in
    let t = c.take_acts.ensures.trace (state_after q.0 w.0) w.2 in
    let new = Listed g.R.Runner.list g.R.Runner.told g.R.Runner.asked c.take_acts.new.runner in
    let x = state_after (state_after q.0 w.0) t.0 in (
      x,
      sits x (g.S.Supervise.world c.take_acts.new.supervisor) new (g.R.Runner.living c.take_acts.new.runner) true c.stopped.result t.2 refl
          c.stopped.ensures c.if-stopped.false,
    )

pub wait_once-requires-clause-drives : goal.wait_once-requires-clause-drives
wait_once-requires-clause-drives g c =
    let q = c.requires.from_state in
    let w = turn_left c.leaving_laws.ensures q.0 q.2.on q.2.keeps (c.pass-now.ensures.trace q.0 q.1 (start_of q.2)) in
    let t = c.take_acts.ensures.trace (state_after q.0 w.0) w.2 in
    let new = Listed g.R.Runner.list g.R.Runner.told g.R.Runner.asked c.take_acts.new.runner in (
      c.take_acts.ensures.not_above.on.drives,
      falling_at (state_after (state_after q.0 w.0) t.0) (g.S.Supervise.world c.take_acts.new.supervisor) new
          (g.R.Runner.living c.take_acts.new.runner) t.2.runs,
    )

pub wait_once-requires-clause-time : goal.wait_once-requires-clause-time
wait_once-requires-clause-time g c =
    let q = c.requires.from_state in
    let w = turn_left c.leaving_laws.ensures q.0 q.2.on q.2.keeps (c.pass-now.ensures.trace q.0 q.1 (start_of q.2)) in
    let t = c.take_acts.ensures.trace (state_after q.0 w.0) w.2 in
    let new = Listed g.R.Runner.list g.R.Runner.told g.R.Runner.asked c.take_acts.new.runner in
    let world = g.S.Supervise.world c.take_acts.new.supervisor in
    let living = g.R.Runner.living c.take_acts.new.runner in
    let x = state_after (state_after q.0 w.0) t.0 in
    sits_time x world new living (sits x world new living true c.stopped.result t.2 refl c.stopped.ensures c.if-stopped.false)
    c.take_acts.ensures.not_above.on.drives

pub returns-clause-trace : goal.returns-clause-trace
returns-clause-trace g c = λ p d comes.
    let w = turn_left c.leaving_laws.ensures p comes.on comes.keeps (c.pass-now.ensures.trace p d (start_of comes)) in
    let t = c.take_acts.ensures.trace (state_after p w.0) w.2 in
    let new = Listed g.R.Runner.list g.R.Runner.told g.R.Runner.asked c.take_acts.new.runner in
    let last = Listed g.R.Runner.list g.R.Runner.told g.R.Runner.asked c.wait_once.new.runner in
    let world = g.S.Supervise.world c.take_acts.new.supervisor in
    let living = g.R.Runner.living c.take_acts.new.runner in
    let all = acts_on p w.0 t.0 (g.R.Runner.list c.args.runner.now) (g.R.Runner.list c.pass-now.new.runner) (g.R.Runner.list c.take_acts.new.runner) w.1 t.1 in
    let x = state_after p (t.0 ++ w.0) in
    let a = subst (λ (y : SessionState). ActLeft y true world new living) (sym (left-append p t.0 w.0)) t.2 in
    let u = c.wait_once.ensures.trace x d (all.device ∙ comes.stands.device_is)
    (sits x world new living true c.stopped.result a refl c.stopped.ensures c.if-stopped.false) in (
      u.0 ++ (t.0 ++ w.0),
      acts_on p (t.0 ++ w.0) u.0 (g.R.Runner.list c.args.runner.now) (g.R.Runner.list c.take_acts.new.runner) (g.R.Runner.list c.wait_once.new.runner) all u.1,
      subst (λ (y : SessionState). IsAtTurnStart y d (g.S.Supervise.world c.wait_once.new.supervisor) last (g.R.Runner.living c.wait_once.new.runner))
          (sym (left-append p u.0 (t.0 ++ w.0))) u.2,
    )

pub returns-clause-drives : goal.returns-clause-drives
returns-clause-drives g c = c.wait_once.ensures.not_above.on.drives

pub returns-clause-falls : goal.returns-clause-falls
returns-clause-falls g c = λ more.
    let old = g.S.Supervise.world c.args.supervisor.now in
    let told = g.S.Supervise.world c.pass-now.new.supervisor in
    let acts = g.S.Supervise.world c.take_acts.new.supervisor in
    let n = not_above_on old told acts (pass_not_above old told c.pass-now.result c.requires.drives c.pass-now.ensures.passed) c.take_acts.ensures.not_above in
    let last = g.S.Supervise.world c.wait_once.new.supervisor in
    let before = g.R.Runner.clock c.args.runner.now in
    let after = g.R.Runner.clock c.wait_once.new.runner in
    measure_less old last before after (g.met.R.Runner.in_time c.args.runner.now) (g.met.R.Runner.in_time c.wait_once.new.runner)
    (turn_goes (rank old) (rank acts) (rank last) before c.pass-now.result after n.least c.wait_once.ensures.not_above.least c.pass-now.ensures.clock
    c.wait_once.ensures.goes_on)
