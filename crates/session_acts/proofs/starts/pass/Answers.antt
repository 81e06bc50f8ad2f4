use Rattle.std.proofs.Common.{[], ◌∷◌, subst, sym, arith}
use Rattle.step_runner.specs.Entries.{Listed}
use Rattle.components.specs.Components.{Components}
use Rattle.histories.specs.TraceEvents.{ReadClock}
use Rattle.histories.specs.States.{leaves}
use Rattle.session_acts.specs.Runs.{IsInTurn}
use Rattle.session_acts.proofs.Entering.{pass_acts, pass_runs}
use Rattle.session_acts.proofs.starts.pass.Goals as goal

pub event-requires-clause-late : goal.event-requires-clause-late
event-requires-clause-late g c =
    let q = c.requires.from_state in
    let past = g.met.R.Runner.past c.args.runner.now in
    omega (arith, q.2.stands.not_before, past, c.moment-now.ensures.later)

pub returns-clause-trace : goal.returns-clause-trace
returns-clause-trace g c = λ p d q.
    let now = c.moment-now.result in
    let world = g.S.Supervise.world c.args.supervisor.now in
    let old = Listed g.R.Runner.list g.R.Runner.told g.R.Runner.asked c.args.runner.now in
    let new = Listed g.R.Runner.list g.R.Runner.told g.R.Runner.asked c.moment-now.new.self in
    let past = g.met.R.Runner.past c.args.runner.now in (
      ReadClock now ∷ [],
      pass_acts p d world old (g.R.Runner.living c.args.runner.now) now (g.R.Runner.list c.args.runner.now) (g.R.Runner.list c.moment-now.new.self) q
          (omega (arith, past, c.moment-now.ensures.later)) c.moment-now.ensures.list,
      subst (λ (w : Components). IsInTurn (leaves p (ReadClock now)) w new (g.R.Runner.living c.moment-now.new.self)) (sym c.event.ensures)
          (pass_runs c.orderly_laws.ensures p d world old new (g.R.Runner.living c.args.runner.now) (g.R.Runner.living c.moment-now.new.self) now q
          c.moment-now.ensures.moment c.moment-now.ensures.asked c.moment-now.ensures.lives),
    )

pub returns-clause-passed : goal.returns-clause-passed
returns-clause-passed g c = c.event.ensures
