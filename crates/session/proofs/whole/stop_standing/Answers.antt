use Rattle.std.proofs.Common.{◌≡◌, ◌∙◌, [], refl, sym, ap}
use Rattle.std.proofs.lemmas.Bool.{false≢true}
use Rattle.components.specs.Components.{Components, is_stopped}
use Rattle.step_runner.specs.Entries.{Listed}
use Rattle.histories.specs.States.{state_after}
use Rattle.session_boots.proofs.Acting.{acts_none}
use Rattle.session.proofs.States.{bare_none, quit_none, returned_may, returned_shut, returned_stops, stopped_shut}
use Rattle.session.proofs.whole.stop_standing.Goals as goal

-- ---- none stands

pub returns-then-stopped-clause-trace : goal.returns-then-stopped-clause-trace
returns-then-stopped-clause-trace g c = λ p d returned serves.
    let list = g.R.Runner.list c.args.runner.now in
    let told = Listed g.R.Runner.list g.R.Runner.told g.R.Runner.asked c.args.runner.now in
    let world = g.S.Supervise.world c.args.supervisor.now in
    let living = g.R.Runner.living c.args.runner.now in
    let stopped = (returned_may p d world told living returned).1 ∙ sym c.stopped.ensures ∙ c.if-stopped.true in
    ([], acts_none p list list refl, returned_shut p d world told living returned stopped, λ is. refl)

pub returns-then-stopped-clause-none : goal.returns-then-stopped-clause-none
returns-then-stopped-clause-none g c =
    let q = c.requires.from_state in
    let told = Listed g.R.Runner.list g.R.Runner.told g.R.Runner.asked c.args.runner.now in
    let world = g.S.Supervise.world c.args.supervisor.now in
    let living = g.R.Runner.living c.args.runner.now in
    quit_none q.0 world told living (returned_may q.0 q.1 world told living q.2) (sym c.stopped.ensures ∙ c.if-stopped.true)

-- ---- all are stopped

pub stop_components-requires-clause-drives : goal.stop_components-requires-clause-drives
stop_components-requires-clause-drives g c = c.requires.drives

pub stop_components-requires-clause-from_state : goal.stop_components-requires-clause-from_state
stop_components-requires-clause-from_state g c =
    let q = c.requires.from_state in
    let told = Listed g.R.Runner.list g.R.Runner.told g.R.Runner.asked c.args.runner.now in
    (q.0, q.1, returned_stops q.0 q.1 (g.S.Supervise.world c.args.supervisor.now) told (g.R.Runner.living c.args.runner.now) q.2 q.3)

pub returns-clause-trace : goal.returns-clause-trace
returns-clause-trace g c = λ p d returned serves.
    let told = Listed g.R.Runner.list g.R.Runner.told g.R.Runner.asked c.args.runner.now in
    let world = g.S.Supervise.world c.args.supervisor.now in
    let living = g.R.Runner.living c.args.runner.now in
    let t = c.stop_components.ensures.trace p d (returned_stops p d world told living returned serves) in
    let new = Listed g.R.Runner.list g.R.Runner.told g.R.Runner.asked c.stop_components.new.runner in (
      t.0,
      t.1,
      stopped_shut (state_after p t.0) d (g.S.Supervise.world c.stop_components.new.supervisor) new
          (g.R.Runner.living c.stop_components.new.runner) t.2,
      λ is. absurd (false≢true (sym c.if-stopped.false ∙ c.stopped.ensures ∙ sym (returned_may p d world told living returned).1 ∙ is)),
    )

pub returns-clause-none : goal.returns-clause-none
returns-clause-none g c =
    let q = c.requires.from_state in
    let told = Listed g.R.Runner.list g.R.Runner.told g.R.Runner.asked c.args.runner.now in
    let t = c.stop_components.ensures.trace q.0 q.1
    (returned_stops q.0 q.1 (g.S.Supervise.world c.args.supervisor.now) told (g.R.Runner.living c.args.runner.now) q.2 q.3) in
    let new = Listed g.R.Runner.list g.R.Runner.told g.R.Runner.asked c.stop_components.new.runner in
    bare_none (state_after q.0 t.0) q.1 (g.S.Supervise.world c.stop_components.new.supervisor) new (g.R.Runner.living c.stop_components.new.runner)
    t.2.stands t.2.bare
