use Rattle.std.proofs.Common.{◌++◌, [], ◌∷◌, sym, subst}
use Rattle.step_runner.specs.Entries.{Listed}
use Rattle.components.specs.Components.{Components}
use Rattle.histories.specs.TraceEvents.{StopsAll}
use Rattle.histories.specs.States.{SessionState, leaves}
use Rattle.histories.proofs.Joined.{left-append}
use Rattle.law_termination.specs.Drives.{AreDriven}
use Rattle.law_termination.proofs.Stands.{stop_drives}
use Rattle.session_boots.proofs.Acting.{acts_on}
use Rattle.session_shutdown.specs.Runs.{IsAtTurnStart}
use Rattle.session_shutdown.specs.Stops.{HasStopped}
use Rattle.session_shutdown.proofs.Ended.{stop_acts, stop_comes}
use Rattle.session_shutdown.proofs.stops.stop_components.Goals as goal

pub stop_on-requires-clause-drives : goal.stop_on-requires-clause-drives
stop_on-requires-clause-drives g c = subst (λ (w : Components). AreDriven w) (sym c.stop_all.ensures)
    (stop_drives (g.S.Supervise.world c.args.supervisor.now) c.requires.drives)

pub stop_on-requires-clause-from_state : goal.stop_on-requires-clause-from_state
stop_on-requires-clause-from_state g c =
    let q = c.requires.from_state in
    let told = Listed g.R.Runner.list g.R.Runner.told g.R.Runner.asked c.args.runner.now in
    let living = g.R.Runner.living c.args.runner.now in (
      leaves q.0 StopsAll,
      q.1,
      subst (λ (w : Components). IsAtTurnStart (leaves q.0 StopsAll) q.1 w told living) (sym c.stop_all.ensures)
          (stop_comes c.stops_leave.ensures q.0 q.1 (g.S.Supervise.world c.args.supervisor.now) told living q.2),
    )

pub returns-clause-trace : goal.returns-clause-trace
returns-clause-trace g c = λ p d may.
    let told = Listed g.R.Runner.list g.R.Runner.told g.R.Runner.asked c.args.runner.now in
    let living = g.R.Runner.living c.args.runner.now in
    let world = g.S.Supervise.world c.args.supervisor.now in
    let list = g.R.Runner.list c.args.runner.now in
    let comes = subst (λ (w : Components). IsAtTurnStart (leaves p StopsAll) d w told living) (sym c.stop_all.ensures)
    (stop_comes c.stops_leave.ensures p d world told living may) in
    let t = c.stop_on.ensures.trace (leaves p StopsAll) d comes in
    let new = Listed g.R.Runner.list g.R.Runner.told g.R.Runner.asked c.stop_on.new.runner in (
      t.0 ++ (StopsAll ∷ []),
      acts_on p (StopsAll ∷ []) t.0 list list (g.R.Runner.list c.stop_on.new.runner) (stop_acts p d world told living list may) t.1,
      subst (λ (x : SessionState). HasStopped x d (g.S.Supervise.world c.stop_on.new.supervisor) new (g.R.Runner.living c.stop_on.new.runner))
          (sym (left-append p t.0 (StopsAll ∷ []))) t.2,
    )

pub returns-clause-drives : goal.returns-clause-drives
returns-clause-drives g c = c.stop_on.ensures.drives
