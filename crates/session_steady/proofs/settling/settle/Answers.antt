use Rattle.std.proofs.Common.{◌++◌, true, refl, sym, subst, arith}
use Rattle.step_runner.specs.Entries.{Listed}
use Rattle.histories.specs.States.{SessionState, state_after}
use Rattle.histories.proofs.Joined.{left-append}
use Rattle.session_boots.proofs.Acting.{acts_on}
use Rattle.session_steady.specs.Acting.{ActLeft}
use Rattle.session_steady.specs.Runs.{IsSince}
use Rattle.session_steady.proofs.Failures.{acts_unchanged, changes_both, noted_behind}
use Rattle.session_steady.proofs.Since.{idle_on, since_acts, since_on}
use Rattle.session_steady.proofs.Serving.{asking_on, idle_of, serving_on, start_of}
use Rattle.session_steady.proofs.Staying.{pass_stays, stays_on, steady_on}
use Rattle.session_steady.proofs.settling.settle.Goals as goal

pub pass-now-requires : goal.pass-now-requires
pass-now-requires g c =
    let q = c.requires.from_state in
    let told = Listed g.R.Runner.list g.R.Runner.told g.R.Runner.asked c.args.runner.now in
    record { from_state = (q.0, q.1, start_of q.0 q.1 (g.S.Supervise.world c.args.supervisor.now) told (g.R.Runner.living c.args.runner.now) q.2) }

pub returns-then-is_last-clause-last : goal.returns-then-is_last-clause-last
returns-then-is_last-clause-last g c =
    let last = c.is_last.ensures.last c.if-is_last.true in
    omega (arith, last, c.pass-now.ensures.now.0)

pub returns-then-is_last-clause-trace : goal.returns-then-is_last-clause-trace
returns-then-is_last-clause-trace g c = λ p d serving.
    let old = Listed g.R.Runner.list g.R.Runner.told g.R.Runner.asked c.args.runner.now in
    let told = Listed g.R.Runner.list g.R.Runner.told g.R.Runner.asked c.pass-now.new.runner in
    let world = g.S.Supervise.world c.args.supervisor.now in
    let lived = g.R.Runner.living c.args.runner.now in
    let w = c.pass-now.ensures.trace p d (start_of p d world old lived serving) in (
      w.0,
      w.1.acts,
      serving_on p d world old lived serving (state_after p w.0) (g.S.Supervise.world c.pass-now.new.supervisor) told
          (g.R.Runner.living c.pass-now.new.runner) w.2 (since_acts p w.0 w.1),
      tt,
      acts_unchanged p w.0 w.1,
    )

pub returns-then-is_last-clause-clock : goal.returns-then-is_last-clause-clock
returns-then-is_last-clause-clock g c = omega (arith, c.pass-now.ensures.now.0, c.pass-now.ensures.clock)

pub take_acts-failed-requires-clause-now : goal.take_acts-failed-requires-clause-now
take_acts-failed-requires-clause-now g c =
    (c.pass-now.ensures.now.0, c.is_last.ensures.early c.if-is_last.false c.pass-now.ensures.now.1)

pub take_acts-failed-requires-clause-drives : goal.take_acts-failed-requires-clause-drives
take_acts-failed-requires-clause-drives g c =
    let s = pass_stays (g.S.Supervise.world c.args.supervisor.now) (g.S.Supervise.world c.pass-now.new.supervisor) c.pass-now.result c.requires.drives.0
    c.pass-now.ensures.passed in
    (s.drives, steady_on (g.S.Supervise.world c.args.supervisor.now) (g.S.Supervise.world c.pass-now.new.supervisor) c.requires.drives.1 s)

pub take_acts-failed-requires-clause-from_state : goal.take_acts-failed-requires-clause-from_state
take_acts-failed-requires-clause-from_state g c =
    let q = c.requires.from_state in
    let told = Listed g.R.Runner.list g.R.Runner.told g.R.Runner.asked c.args.runner.now in
    let living = g.R.Runner.living c.args.runner.now in
    let world = g.S.Supervise.world c.args.supervisor.now in
    let w = c.pass-now.ensures.trace q.0 q.1 (start_of q.0 q.1 world told living q.2) in
    (state_after q.0 w.0, w.2, idle_on q.0 (state_after q.0 w.0) (since_acts q.0 w.0 w.1) (idle_of q.0 q.1 world told living q.2))

pub returns-clause-now : goal.returns-clause-now
returns-clause-now g c = (c.take_acts-failed.ensures.now, c.is_last.ensures.early c.if-is_last.false c.pass-now.ensures.now.1)

pub returns-clause-trace : goal.returns-clause-trace
returns-clause-trace g c = λ p d serving.
    let old = Listed g.R.Runner.list g.R.Runner.told g.R.Runner.asked c.args.runner.now in
    let new = Listed g.R.Runner.list g.R.Runner.told g.R.Runner.asked c.take_acts-failed.new.runner in
    let world = g.S.Supervise.world c.args.supervisor.now in
    let last = g.S.Supervise.world c.take_acts-failed.new.supervisor in
    let lived = g.R.Runner.living c.args.runner.now in
    let living = g.R.Runner.living c.take_acts-failed.new.runner in
    let w = c.pass-now.ensures.trace p d (start_of p d world old lived serving) in
    let t = c.take_acts-failed.ensures.trace (state_after p w.0) w.2
    (idle_on p (state_after p w.0) (since_acts p w.0 w.1) (idle_of p d world old lived serving)) in (
      t.0 ++ w.0,
      acts_on p w.0 t.0 (g.R.Runner.list c.args.runner.now) (g.R.Runner.list c.pass-now.new.runner) (g.R.Runner.list c.take_acts-failed.new.runner) w.1.acts t.1,
      asking_on p d world old lived serving (state_after p (t.0 ++ w.0)) true last new living
          (subst (λ (s : SessionState). ActLeft s true last new living) (sym (left-append p t.0 w.0)) t.3) refl
          (since_on p (state_after p w.0) (state_after p (t.0 ++ w.0)) (since_acts p w.0 w.1)
          (subst (λ (s : SessionState). IsSince (state_after p w.0) s) (sym (left-append p t.0 w.0)) t.2)),
      noted_behind p w.0 t.0 w.1 c.take_acts-failed.result t.4,
      changes_both t.0 w.0 t.5 (acts_unchanged p w.0 w.1),
    )

pub returns-clause-stays : goal.returns-clause-stays
returns-clause-stays g c = stays_on (g.S.Supervise.world c.args.supervisor.now) (g.S.Supervise.world c.pass-now.new.supervisor)
    (g.S.Supervise.world c.take_acts-failed.new.supervisor)
    (pass_stays (g.S.Supervise.world c.args.supervisor.now) (g.S.Supervise.world c.pass-now.new.supervisor) c.pass-now.result c.requires.drives.0
    c.pass-now.ensures.passed) c.take_acts-failed.ensures.no_wilder.stays

pub returns-clause-clock : goal.returns-clause-clock
returns-clause-clock g c = omega (arith, c.take_acts-failed.ensures.now, c.pass-now.ensures.clock)

pub returns-then-is_last-clause-stays : goal.returns-then-is_last-clause-stays
returns-then-is_last-clause-stays g c = pass_stays (g.S.Supervise.world c.args.supervisor.now) (g.S.Supervise.world c.pass-now.new.supervisor)
    c.pass-now.result c.requires.drives.0 c.pass-now.ensures.passed
