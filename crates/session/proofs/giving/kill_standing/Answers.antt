use Rattle.std.proofs.Common.{◌≡◌, ◌∙◌, [], refl, sym}
use Rattle.std.proofs.lemmas.Bool.{false≢true}
use Rattle.step_runner.specs.Entries.{Listed}
use Rattle.session_boots.proofs.Acting.{acts_none}
use Rattle.session.proofs.States.{quit_bare, quit_none}
use Rattle.session.proofs.giving.kill_standing.Goals as goal

-- ---- none stands

pub returns-then-stopped-clause-trace : goal.returns-then-stopped-clause-trace
returns-then-stopped-clause-trace g c = λ p may.
    let list = g.R.Runner.list c.args.runner.now in
    let told = Listed g.R.Runner.list g.R.Runner.told g.R.Runner.asked c.args.runner.now in
    let stopped = sym c.stopped.ensures ∙ c.if-stopped.true in (
      [],
      acts_none p list list refl,
      (tt, λ is. refl),
      record { owed = refl; boot_end = refl; over = refl },
      quit_bare p (g.S.Supervise.world c.args.supervisor.now) told (g.R.Runner.living c.args.runner.now) may stopped,
    )

pub returns-then-stopped-clause-none : goal.returns-then-stopped-clause-none
returns-then-stopped-clause-none g c =
    let q = c.requires.from_state in
    let told = Listed g.R.Runner.list g.R.Runner.told g.R.Runner.asked c.args.runner.now in
    quit_none q.0 (g.S.Supervise.world c.args.supervisor.now) told (g.R.Runner.living c.args.runner.now) q.1 (sym c.stopped.ensures ∙ c.if-stopped.true)

-- ---- children are killed

pub kill_all-requires : goal.kill_all-requires
kill_all-requires g c = let q = c.requires.from_state in record { from_state = (q.0, q.1.0) }

pub returns-clause-trace : goal.returns-clause-trace
returns-clause-trace g c = λ p may.
    let t = c.kill_all.ensures.trace p may.0 in
    (t.0, t.1, (t.4, λ is. absurd (false≢true (sym c.if-stopped.false ∙ c.stopped.ensures ∙ sym may.1 ∙ is))), t.2, t.3)
