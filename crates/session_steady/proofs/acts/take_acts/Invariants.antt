use Rattle.std.proofs.Common.{◌≡◌, List, false, true}
use Rattle.step_runner.specs.Entries.{Listed}
use Rattle.histories.specs.Phases.{duty_of, is_idle}
use Rattle.histories.specs.TraceEvents.{TraceEvent}
use Rattle.histories.specs.States.{SessionState, state_after}
use Rattle.session_boots.specs.Traces.{ActTrace}
use Rattle.law_termination.specs.TurnRank.{turn_rank}
use Rattle.session_acts.specs.Runs.{IsInTurn}
use Rattle.session_steady.specs.Failures.{changes, hears}
use Rattle.session_steady.specs.Runs.{IsSince}
use Rattle.session_steady.specs.Stays.{IsNoWilder}
use Rattle.session_steady.proofs.acts.take_acts.Given as goal

abbrev pub invariant-acts : goal.invariant-acts
invariant-acts g l = record {
  now : g.R.Runner.told l.runner ≡ l.now;
  no_wilder : IsNoWilder (g.S.Supervise.world l.fn.supervisor) (g.S.Supervise.world l.supervisor);
  trace : (p : SessionState) → IsInTurn p (g.S.Supervise.world l.fn.supervisor) (Listed g.R.Runner.list g.R.Runner.told g.R.Runner.asked l.fn.runner)
      (g.R.Runner.living l.fn.runner) → is_idle (duty_of p.device).phase ≡ true →
      (h : List TraceEvent) × ActTrace p h (g.R.Runner.list l.fn.runner) (g.R.Runner.list l.runner) × IsSince p (state_after p h)
      × IsInTurn (state_after p h) (g.S.Supervise.world l.supervisor) (Listed g.R.Runner.list g.R.Runner.told g.R.Runner.asked l.runner)
      (g.R.Runner.living l.runner) × (l.failed ≡ hears h)
      × (changes h ≡ false);
}

abbrev pub decreases-acts : goal.decreases-acts
decreases-acts g l = turn_rank (g.S.Supervise.world l.supervisor)
