use Rattle.std.proofs.Common.{inl, inr, refl, sym, ap, subst, arith}
use Rattle.step_runner.specs.Entries.{Listed}
use Rattle.components.specs.Components.{Components}
use Rattle.histories.specs.States.{leaves}
use Rattle.session_acts.specs.Runs.{IsAtTurnStart}
use Rattle.session_acts.proofs.Shows.{are_shown}
use Rattle.session_acts.proofs.Waiting.{elapsed, ends, owns_world}
use Rattle.session_acts.proofs.waits.wait.Goals as goal

pub event-requires-clause-answers : goal.event-requires-clause-answers
event-requires-clause-answers g c =
    let q = c.requires.from_state in
    owns_world q.0 (g.S.Supervise.world c.args.supervisor.now) (Listed g.R.Runner.list g.R.Runner.told g.R.Runner.asked c.args.runner.now)
    (g.R.Runner.living c.args.runner.now) c.in-Ended.child q.1.runs c.in-Ended.ensures.lives.0

pub event-requires-clause-late : goal.event-requires-clause-late
event-requires-clause-late g c =
    let q = c.requires.from_state in
    omega (arith, ap (λ (w : Components). w.moment) q.1.runs.world_is, q.1.runs.within.moment, c.requires.now.0)

pub returns-in-Ended-clause-trace : goal.returns-in-Ended-clause-trace
returns-in-Ended-clause-trace g c = λ p ready.
    let old = Listed g.R.Runner.list g.R.Runner.told g.R.Runner.asked c.args.runner.now in
    let new = Listed g.R.Runner.list g.R.Runner.told g.R.Runner.asked c.await_end.new.runner in
    let living = g.R.Runner.living c.await_end.new.runner in
    let e = ends c.orderly_laws.ensures p (g.S.Supervise.world c.args.supervisor.now) old new (g.R.Runner.living c.args.runner.now) living
    c.in-Ended.child c.in-Ended.exit c.args.limit c.args.now ready c.requires.now.0 c.in-Ended.ensures.notes c.in-Ended.ensures.lives.0
    c.in-Ended.ensures.lives.1 in
    (e.event, e.once, subst (λ (w : Components). IsAtTurnStart (leaves p e.event) p.device w new living) (sym c.event.ensures) e.left)

pub returns-in-Ended-clause-waited : goal.returns-in-Ended-clause-waited
returns-in-Ended-clause-waited g c =
    let q = c.requires.from_state in
    let own = owns_world q.0 (g.S.Supervise.world c.args.supervisor.now) (Listed g.R.Runner.list g.R.Runner.told g.R.Runner.asked c.args.runner.now)
    (g.R.Runner.living c.args.runner.now) c.in-Ended.child q.1.runs c.in-Ended.ensures.lives.0 in
    inl (c.in-Ended.child, c.in-Ended.exit, own, c.event.ensures)

pub returns-in-Elapsed-clause-trace : goal.returns-in-Elapsed-clause-trace
returns-in-Elapsed-clause-trace g c = λ p ready.
    let old = Listed g.R.Runner.list g.R.Runner.told g.R.Runner.asked c.args.runner.now in
    let new = Listed g.R.Runner.list g.R.Runner.told g.R.Runner.asked c.await_end.new.runner in
    let e = elapsed p (g.S.Supervise.world c.args.supervisor.now) old new (g.R.Runner.living c.args.runner.now) (g.R.Runner.living c.await_end.new.runner)
    c.args.limit ready c.in-Elapsed.ensures.notes c.in-Elapsed.ensures.lives in
    (e.event, e.once, e.left)

pub returns-in-Elapsed-clause-waited : goal.returns-in-Elapsed-clause-waited
returns-in-Elapsed-clause-waited g c = inr (refl, c.in-Elapsed.ensures.time.1)

pub returns-in-Ended-clause-shown : goal.returns-in-Ended-clause-shown
returns-in-Ended-clause-shown g c =
    are_shown (g.R.Runner.shown c.await_end.new.runner) (g.S.View.components c.args.supervisor.now) (g.S.Supervise.world c.args.supervisor.now)
    (g.met.S.Supervise.shows c.args.supervisor.now) c.in-Ended.ensures.shown

pub returns-in-Elapsed-clause-shown : goal.returns-in-Elapsed-clause-shown
returns-in-Elapsed-clause-shown g c =
    are_shown (g.R.Runner.shown c.await_end.new.runner) (g.S.View.components c.args.supervisor.now) (g.S.Supervise.world c.args.supervisor.now)
    (g.met.S.Supervise.shows c.args.supervisor.now) c.in-Elapsed.ensures.shown
