use Rattle.std.proofs.Common.{false, refl}
use Rattle.step_runner.specs.Entries.{Listed}
use Rattle.session_acts.proofs.Entering.{never}
use Rattle.session_acts.proofs.Taken.{something_is, taken_falls, taken_not_above}
use Rattle.session_shutdown.proofs.Entering.{none_fails, quiet_left, turn_left, turn_of}
use Rattle.session_shutdown.proofs.Falling.{falling_at}
use Rattle.session_shutdown.proofs.Turning.{apart}
use Rattle.session_shutdown.proofs.acts.take_act.Goals as goal

pub act-requires-clause-from_state : goal.act-requires-clause-from_state
act-requires-clause-from_state g c = let q = c.requires.from_state in (q.0, turn_of q.1)

pub returns-in-Nothing-clause-trace : goal.returns-in-Nothing-clause-trace
returns-in-Nothing-clause-trace g c = λ p runs.
    let w = quiet_left c.leaving_laws.ensures p runs.within.on runs.within.keeps (c.in-Nothing.ensures.trace p (turn_of runs)) in
    (w.0, w.1, record { runs = w.2.0; quiet = λ none. w.2.1 })

pub returns-in-Something-clause-trace : goal.returns-in-Something-clause-trace
returns-in-Something-clause-trace g c = λ p runs.
    let w = turn_left c.leaving_laws.ensures p runs.within.on runs.within.keeps (c.in-Something.ensures.trace p (turn_of runs)) in
    (w.0, w.1, record { runs = w.2; quiet = λ none. absurd (never false refl none) })

pub unreachable-requires : goal.unreachable-requires
unreachable-requires g c =
    let q = c.requires.from_state in
    absurd (none_fails c.leaving_laws.ensures q.0 q.1.within.on q.1.within.keeps (c.in-Failed.ensures.trace q.0 (turn_of q.1)))

-- ---- the number

pub returns-in-Nothing-clause-falls : goal.returns-in-Nothing-clause-falls
returns-in-Nothing-clause-falls g c = λ more. absurd (apart more)

pub returns-in-Something-clause-falls : goal.returns-in-Something-clause-falls
returns-in-Something-clause-falls g c = λ more.
    let q = c.requires.from_state in
    let v = g.S.Supervise.world c.args.supervisor.now in
    let told = Listed g.R.Runner.list g.R.Runner.told g.R.Runner.asked c.args.runner.now in
    let f = falling_at q.0 v told (g.R.Runner.living c.args.runner.now) q.1 in
    taken_falls c.args.now v (g.S.Supervise.world c.act.new.supervisor) c.requires.drives f c.act.result c.act.ensures.taken
    (something_is c.act.result c.in-Something.is)

pub returns-in-Nothing-clause-not_above : goal.returns-in-Nothing-clause-not_above
returns-in-Nothing-clause-not_above g c =
    let q = c.requires.from_state in
    let v = g.S.Supervise.world c.args.supervisor.now in
    let told = Listed g.R.Runner.list g.R.Runner.told g.R.Runner.asked c.args.runner.now in
    let f = falling_at q.0 v told (g.R.Runner.living c.args.runner.now) q.1 in
    taken_not_above c.args.now v (g.S.Supervise.world c.act.new.supervisor) c.requires.drives f c.act.result c.act.ensures.taken

pub returns-in-Something-clause-not_above : goal.returns-in-Something-clause-not_above
returns-in-Something-clause-not_above g c =
    let q = c.requires.from_state in
    let v = g.S.Supervise.world c.args.supervisor.now in
    let told = Listed g.R.Runner.list g.R.Runner.told g.R.Runner.asked c.args.runner.now in
    let f = falling_at q.0 v told (g.R.Runner.living c.args.runner.now) q.1 in
    taken_not_above c.args.now v (g.S.Supervise.world c.act.new.supervisor) c.requires.drives f c.act.result c.act.ensures.taken
