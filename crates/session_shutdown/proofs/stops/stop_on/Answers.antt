use Rattle.std.proofs.Common.{◌++◌, [], refl, sym, subst}
use Rattle.step_runner.specs.Entries.{Listed}
use Rattle.histories.specs.States.{SessionState, state_after}
use Rattle.histories.proofs.Joined.{left-append}
use Rattle.session_boots.proofs.Acting.{acts_none, acts_on}
use Rattle.session_shutdown.specs.Runs.{IsAtTurnStart}
use Rattle.session_shutdown.specs.Stops.{HasStopped}
use Rattle.session_shutdown.proofs.Turning.{is_on, is_stopped_left}
use Rattle.session_shutdown.proofs.stops.stop_on.Goals as goal

pub turns-init : goal.turns-init
turns-init g c = record {
  drives = c.requires.drives;
  trace = λ p d comes. ([], acts_none p (g.R.Runner.list c.args.runner.now) (g.R.Runner.list c.args.runner.now) refl, comes);
}

pub turn-requires-clause-drives : goal.turn-requires-clause-drives
turn-requires-clause-drives g c = c.turns.invariant.drives

pub turn-requires-clause-from_state : goal.turn-requires-clause-from_state
turn-requires-clause-from_state g c =
    let q = c.requires.from_state in
    let w = c.turns.invariant.trace q.0 q.1 q.2 in
    (state_after q.0 w.0, q.1, w.2)

pub turns-preserved : goal.turns-preserved
turns-preserved g c = record {
  drives = c.turn.ensures.drives;
  trace = λ p d comes.
      let w = c.turns.invariant.trace p d comes in
      let t = c.turn.ensures.trace (state_after p w.0) d w.2 in
      let new = Listed g.R.Runner.list g.R.Runner.told g.R.Runner.asked c.turn.new.runner in
      let world = g.S.Supervise.world c.turn.new.supervisor in
      let living = g.R.Runner.living c.turn.new.runner in (
        t.0 ++ w.0,
        acts_on p w.0 t.0 (g.R.Runner.list c.args.runner.now) (g.R.Runner.list c.turns.runner) (g.R.Runner.list c.turn.new.runner) w.1 t.1,
        subst (λ (x : SessionState). IsAtTurnStart x d world new living) (sym (left-append p t.0 w.0))
            (is_on c.turn.result (state_after (state_after p w.0) t.0) d world new living c.if-turn.false t.2),
      );
}

pub turns-smaller : goal.turns-smaller
turns-smaller g c = c.turn.ensures.falls c.if-turn.false

pub returns-then-turn-clause-trace : goal.returns-then-turn-clause-trace
returns-then-turn-clause-trace g c = λ p d comes.
    let w = c.turns.invariant.trace p d comes in
    let t = c.turn.ensures.trace (state_after p w.0) d w.2 in
    let new = Listed g.R.Runner.list g.R.Runner.told g.R.Runner.asked c.turn.new.runner in
    let world = g.S.Supervise.world c.turn.new.supervisor in
    let living = g.R.Runner.living c.turn.new.runner in (
      t.0 ++ w.0,
      acts_on p w.0 t.0 (g.R.Runner.list c.args.runner.now) (g.R.Runner.list c.turns.runner) (g.R.Runner.list c.turn.new.runner) w.1 t.1,
      subst (λ (x : SessionState). HasStopped x d world new living) (sym (left-append p t.0 w.0))
          (is_stopped_left c.turn.result (state_after (state_after p w.0) t.0) d world new living c.if-turn.true t.2),
    )

pub returns-then-turn-clause-drives : goal.returns-then-turn-clause-drives
returns-then-turn-clause-drives g c = c.turn.ensures.drives
