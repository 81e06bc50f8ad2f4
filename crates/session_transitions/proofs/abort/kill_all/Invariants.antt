use Rattle.std.proofs.Common.{List, length}
use Rattle.std.specs.List.{AllByRecursion}
use Rattle.step_runner.specs.Entries.{Listed}
use Rattle.histories.specs.Follows.{IsLast}
use Rattle.histories.specs.TraceEvents.{TraceEvent}
use Rattle.histories.specs.States.{SessionState, state_after}
use Rattle.session_boots.specs.Traces.{ActTrace}
use Rattle.session_transitions.specs.Fails.{IsGivenUp}
use Rattle.session_transitions.specs.Kills.{KeepsRest}
use Rattle.session_transitions.proofs.Killing.{IsKilling}
use Rattle.session_transitions.proofs.abort.kill_all.Given as goal

abbrev pub invariant-kills : goal.invariant-kills
invariant-kills g l = record {
  trace : (p : SessionState) → IsGivenUp p (g.S.Supervise.world l.supervisor) (Listed g.R.Runner.list g.R.Runner.told g.R.Runner.asked l.fn.runner)
      (g.R.Runner.living l.fn.runner) →
      (h : List TraceEvent) × ActTrace p h (g.R.Runner.list l.fn.runner) (g.R.Runner.list l.runner) × KeepsRest p (state_after p h)
      × IsKilling (state_after p h) l.last (g.S.Supervise.world l.supervisor) (Listed g.R.Runner.list g.R.Runner.told g.R.Runner.asked l.runner)
      (g.R.Runner.living l.runner)
      × AllByRecursion IsLast h;
}

abbrev pub decreases-kills : goal.decreases-kills
decreases-kills g l = length (g.R.Runner.living l.runner)
