use Rattle.std.proofs.Common.{List}
use Rattle.device.specs.Devices.{Device}
use Rattle.step_runner.specs.Entries.{Listed}
use Rattle.components.specs.Events.{later}
use Rattle.histories.specs.TraceEvents.{TraceEvent}
use Rattle.histories.specs.States.{SessionState, state_after}
use Rattle.law_termination.specs.Rank.{measure}
use Rattle.law_termination.specs.Drives.{AreDriven}
use Rattle.session_boots.specs.Traces.{ActTrace}
use Rattle.session_shutdown.specs.Runs.{IsAtTurnStart}
use Rattle.session_shutdown.proofs.stops.stop_on.Given as goal

abbrev pub invariant-turns : goal.invariant-turns
invariant-turns g l = record {
  drives : AreDriven (g.S.Supervise.world l.supervisor);
  trace : (p : SessionState) → (d : Device) → IsAtTurnStart p d (g.S.Supervise.world l.fn.supervisor)
      (Listed g.R.Runner.list g.R.Runner.told g.R.Runner.asked l.fn.runner) (g.R.Runner.living l.fn.runner) →
      (h : List TraceEvent) × ActTrace p h (g.R.Runner.list l.fn.runner) (g.R.Runner.list l.runner)
      × IsAtTurnStart (state_after p h) d (g.S.Supervise.world l.supervisor) (Listed g.R.Runner.list g.R.Runner.told g.R.Runner.asked l.runner)
      (g.R.Runner.living l.runner);
}

abbrev pub decreases-turns : goal.decreases-turns
decreases-turns g l = measure (later (g.R.Runner.clock l.runner) (g.S.Supervise.world l.supervisor))
