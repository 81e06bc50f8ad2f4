use Rattle.std.proofs.Common.{◌≡◌, List}
use Rattle.step_runner.specs.Entries.{Listed}
use Rattle.histories.specs.TraceEvents.{TraceEvent}
use Rattle.histories.specs.States.{SessionState, state_after}
use Rattle.session_boots.specs.Traces.{ActTrace}
use Rattle.law_termination.specs.Rank.{rank}
use Rattle.law_termination.specs.Drives.{NotAbove}
use Rattle.session_shutdown.specs.Runs.{IsInTurn}
use Rattle.session_shutdown.proofs.acts.take_acts.Given as goal

abbrev pub invariant-acts : goal.invariant-acts
invariant-acts g l = record {
  now : g.R.Runner.told l.runner ≡ l.now;
  not_above : NotAbove (g.S.Supervise.world l.fn.supervisor) (g.S.Supervise.world l.supervisor);
  trace : (p : SessionState) → IsInTurn p (g.S.Supervise.world l.fn.supervisor) (Listed g.R.Runner.list g.R.Runner.told g.R.Runner.asked l.fn.runner)
      (g.R.Runner.living l.fn.runner) →
      (h : List TraceEvent) × ActTrace p h (g.R.Runner.list l.fn.runner) (g.R.Runner.list l.runner)
      × IsInTurn (state_after p h) (g.S.Supervise.world l.supervisor) (Listed g.R.Runner.list g.R.Runner.told g.R.Runner.asked l.runner)
      (g.R.Runner.living l.runner);
}

abbrev pub decreases-acts : goal.decreases-acts
decreases-acts g l = rank (g.S.Supervise.world l.supervisor)
