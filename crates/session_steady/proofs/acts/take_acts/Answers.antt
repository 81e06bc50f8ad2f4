use Rattle.std.proofs.Common.{◌++◌, [], true, refl, sym, subst}
use Rattle.step_runner.specs.Entries.{Listed}
use Rattle.histories.specs.States.{SessionState, state_after}
use Rattle.histories.proofs.Joined.{left-append}
use Rattle.session_boots.proofs.Acting.{acts_none, acts_on}
use Rattle.session_steady.specs.Acting.{ActLeft}
use Rattle.session_acts.specs.Runs.{IsInTurn}
use Rattle.session_steady.specs.Runs.{IsSince}
use Rattle.session_steady.proofs.Failures.{changes_both, noted_both}
use Rattle.session_steady.proofs.Since.{idle_on, since_on, since_self}
use Rattle.session_steady.proofs.Staying.{no_wilder_on, self_no_wilder, steady_on}
use Rattle.session_steady.proofs.acts.take_acts.Goals as goal

pub acts-init : goal.acts-init
acts-init g c = record {
  now = c.requires.now.0;
  no_wilder = self_no_wilder (g.S.Supervise.world c.args.supervisor.now) c.requires.drives.0;
  trace = λ p runs idle. ([], acts_none p (g.R.Runner.list c.args.runner.now) (g.R.Runner.list c.args.runner.now) refl, since_self p, runs, refl, refl);
}

pub take_act-requires-clause-now : goal.take_act-requires-clause-now
take_act-requires-clause-now g c = (c.acts.invariant.now, c.requires.now.1)

pub take_act-requires-clause-from_state : goal.take_act-requires-clause-from_state
take_act-requires-clause-from_state g c =
    let q = c.requires.from_state in
    let w = c.acts.invariant.trace q.0 q.1 q.2 in
    (state_after q.0 w.0, w.3, idle_on q.0 (state_after q.0 w.0) w.2 q.2)

pub acts-preserved : goal.acts-preserved
acts-preserved g c = record {
  now = c.take_act.ensures.now;
  no_wilder = no_wilder_on (g.S.Supervise.world c.args.supervisor.now) (g.S.Supervise.world c.acts.supervisor) (g.S.Supervise.world c.take_act.new.supervisor)
      c.acts.invariant.no_wilder c.take_act.ensures.no_wilder;
  trace = λ p runs idle.
      let w = c.acts.invariant.trace p runs idle in
      let t = c.take_act.ensures.trace (state_after p w.0) w.3 (idle_on p (state_after p w.0) w.2 idle) in (
        t.0 ++ w.0,
        acts_on p w.0 t.0 (g.R.Runner.list c.args.runner.now) (g.R.Runner.list c.acts.runner) (g.R.Runner.list c.take_act.new.runner) w.1 t.1,
        since_on p (state_after p w.0) (state_after p (t.0 ++ w.0)) w.2
            (subst (λ (s : SessionState). IsSince (state_after p w.0) s) (sym (left-append p t.0 w.0)) t.2),
        subst (λ (s : SessionState). IsInTurn s (g.S.Supervise.world c.take_act.new.supervisor)
            (Listed g.R.Runner.list g.R.Runner.told g.R.Runner.asked c.take_act.new.runner) (g.R.Runner.living c.take_act.new.runner))
            (sym (left-append p t.0 w.0))
            t.3.runs,
        noted_both t.0 w.0 c.acts.failed c.take_act.new.failed t.4 w.4,
        changes_both t.0 w.0 t.5 w.5,
      );
}

pub returns-then-take_act-clause-trace : goal.returns-then-take_act-clause-trace
returns-then-take_act-clause-trace g c = λ p runs idle.
    let w = c.acts.invariant.trace p runs idle in
    let t = c.take_act.ensures.trace (state_after p w.0) w.3 (idle_on p (state_after p w.0) w.2 idle) in (
      t.0 ++ w.0,
      acts_on p w.0 t.0 (g.R.Runner.list c.args.runner.now) (g.R.Runner.list c.acts.runner) (g.R.Runner.list c.take_act.new.runner) w.1 t.1,
      since_on p (state_after p w.0) (state_after p (t.0 ++ w.0)) w.2
          (subst (λ (s : SessionState). IsSince (state_after p w.0) s) (sym (left-append p t.0 w.0)) t.2),
      subst (λ (s : SessionState). ActLeft s true (g.S.Supervise.world c.take_act.new.supervisor)
          (Listed g.R.Runner.list g.R.Runner.told g.R.Runner.asked c.take_act.new.runner) (g.R.Runner.living c.take_act.new.runner))
          (sym (left-append p t.0 w.0))
          (record { runs = t.3.runs; quiet = λ none. t.3.quiet c.if-take_act.true }),
      noted_both t.0 w.0 c.acts.failed c.take_act.new.failed t.4 w.4,
      changes_both t.0 w.0 t.5 w.5,
    )

pub take_act-requires-clause-drives : goal.take_act-requires-clause-drives
take_act-requires-clause-drives g c =
    let s = c.acts.invariant.no_wilder.stays in
    (s.drives, steady_on (g.S.Supervise.world c.args.supervisor.now) (g.S.Supervise.world c.acts.supervisor) c.requires.drives.1 s)

pub returns-then-take_act-clause-no_wilder : goal.returns-then-take_act-clause-no_wilder
returns-then-take_act-clause-no_wilder g c = no_wilder_on (g.S.Supervise.world c.args.supervisor.now) (g.S.Supervise.world c.acts.supervisor)
    (g.S.Supervise.world c.take_act.new.supervisor) c.acts.invariant.no_wilder c.take_act.ensures.no_wilder

pub acts-smaller : goal.acts-smaller
acts-smaller g c = (c.take_act.ensures.calms c.if-take_act.false).less
