use Rattle.std.proofs.Common.{◌≡◌, ◌∙◌, sym}
use Rattle.std.proofs.lemmas.Bool.{false≢true}
use Rattle.step_runner.specs.Entries.{Listed}
use Rattle.histories.specs.States.{state_after}
use Rattle.session_transitions.proofs.Ended.{killed_ends}
use Rattle.session.proofs.States.{returned_may, shut_ends}
use Rattle.session.proofs.whole.end_standing.Goals as goal

-- ---- it gives up

pub kill_standing-requires : goal.kill_standing-requires
kill_standing-requires g c =
    let q = c.requires.from_state in
    let told = Listed g.R.Runner.list g.R.Runner.told g.R.Runner.asked c.args.runner.now in
    record {
      from_state = (q.0, returned_may q.0 q.1 (g.S.Supervise.world c.args.supervisor.now) told (g.R.Runner.living c.args.runner.now) q.2);
    }

pub returns-then-gives_up-clause-trace : goal.returns-then-gives_up-clause-trace
returns-then-gives_up-clause-trace g c = λ p d returned serves.
    let told = Listed g.R.Runner.list g.R.Runner.told g.R.Runner.asked c.args.runner.now in
    let world = g.S.Supervise.world c.args.supervisor.now in
    let living = g.R.Runner.living c.args.runner.now in
    let may = returned_may p d world told living returned in
    let t = c.kill_standing.ensures.trace p may in
    let gives = sym c.gives_up.ensures ∙ c.if-gives_up.true in (
      t.0,
      t.1,
      (λ rose. killed_ends p (state_after p t.0) world told living c.args.status rose may.0 t.3 t.4 gives (λ kept. returned.quiet.owes_none)),
      t.2.1,
      λ is. t.2.0,
    )

-- ---- all are stopped

pub stop_standing-requires-clause-from_state : goal.stop_standing-requires-clause-from_state
stop_standing-requires-clause-from_state g c = c.requires.from_state

pub returns-clause-trace : goal.returns-clause-trace
returns-clause-trace g c = λ p d returned serves.
    let t = c.stop_standing.ensures.trace p d returned serves in (
      t.0,
      t.1,
      (λ rose. shut_ends (state_after p t.0) c.args.status rose t.2 c.requires.other),
      t.3,
      λ gives. absurd (false≢true (sym (sym c.gives_up.ensures ∙ c.if-gives_up.false) ∙ gives)),
    )
