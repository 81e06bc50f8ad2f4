use Rattle.std.proofs.Common.{◌++◌, [], true, refl, sym, subst}
use Rattle.step_runner.specs.Entries.{Listed}
use Rattle.histories.specs.States.{SessionState, state_after}
use Rattle.histories.proofs.Joined.{left-append}
use Rattle.session_boots.proofs.Acting.{acts_none, acts_on}
use Rattle.law_termination.proofs.Steps.{not_above_on, self_not_above}
use Rattle.session_shutdown.specs.Runs.{ActLeft, IsInTurn}
use Rattle.session_shutdown.proofs.acts.take_acts.Goals as goal

pub acts-init : goal.acts-init
acts-init g c = record {
  now = c.requires.now.0;
  not_above = self_not_above (g.S.Supervise.world c.args.supervisor.now) c.requires.drives;
  trace = λ p runs. ([], acts_none p (g.R.Runner.list c.args.runner.now) (g.R.Runner.list c.args.runner.now) refl, runs);
}

pub take_act-requires-clause-now : goal.take_act-requires-clause-now
take_act-requires-clause-now g c = (c.acts.invariant.now, c.requires.now.1)

pub take_act-requires-clause-from_state : goal.take_act-requires-clause-from_state
take_act-requires-clause-from_state g c =
    let q = c.requires.from_state in
    let w = c.acts.invariant.trace q.0 q.1 in
    (state_after q.0 w.0, w.2)

pub acts-preserved : goal.acts-preserved
acts-preserved g c = record {
  now = c.take_act.ensures.now;
  not_above = not_above_on (g.S.Supervise.world c.args.supervisor.now) (g.S.Supervise.world c.acts.supervisor) (g.S.Supervise.world c.take_act.new.supervisor)
      c.acts.invariant.not_above c.take_act.ensures.not_above;
  trace = λ p runs.
      let w = c.acts.invariant.trace p runs in
      let t = c.take_act.ensures.trace (state_after p w.0) w.2 in (
        t.0 ++ w.0,
        acts_on p w.0 t.0 (g.R.Runner.list c.args.runner.now) (g.R.Runner.list c.acts.runner) (g.R.Runner.list c.take_act.new.runner) w.1 t.1,
        subst (λ (x : SessionState). IsInTurn x (g.S.Supervise.world c.take_act.new.supervisor)
            (Listed g.R.Runner.list g.R.Runner.told g.R.Runner.asked c.take_act.new.runner) (g.R.Runner.living c.take_act.new.runner))
            (sym (left-append p t.0 w.0)) t.2.runs,
      );
}

pub returns-then-take_act-clause-trace : goal.returns-then-take_act-clause-trace
returns-then-take_act-clause-trace g c = λ p runs.
    let w = c.acts.invariant.trace p runs in
    let t = c.take_act.ensures.trace (state_after p w.0) w.2 in (
      t.0 ++ w.0,
      acts_on p w.0 t.0 (g.R.Runner.list c.args.runner.now) (g.R.Runner.list c.acts.runner) (g.R.Runner.list c.take_act.new.runner) w.1 t.1,
      subst (λ (x : SessionState). ActLeft x true (g.S.Supervise.world c.take_act.new.supervisor)
          (Listed g.R.Runner.list g.R.Runner.told g.R.Runner.asked c.take_act.new.runner) (g.R.Runner.living c.take_act.new.runner))
          (sym (left-append p t.0 w.0)) (record { runs = t.2.runs; quiet = λ none. t.2.quiet c.if-take_act.true }),
    )

pub take_act-requires-clause-drives : goal.take_act-requires-clause-drives
take_act-requires-clause-drives g c = c.acts.invariant.not_above.on.drives

pub returns-then-take_act-clause-not_above : goal.returns-then-take_act-clause-not_above
returns-then-take_act-clause-not_above g c = not_above_on (g.S.Supervise.world c.args.supervisor.now) (g.S.Supervise.world c.acts.supervisor)
    (g.S.Supervise.world c.take_act.new.supervisor) c.acts.invariant.not_above c.take_act.ensures.not_above

pub acts-smaller : goal.acts-smaller
acts-smaller g c = (c.take_act.ensures.falls c.if-take_act.false).less
