use Rattle.std.proofs.Common.{◌≡◌, List, ℕ, IsTrue}
use Rattle.std.specs.Io.KnownBytes.{Appends}
use Rattle.step_runner.specs.Entries.{Listed}
use Rattle.histories.specs.TraceEvents.{TraceEvent, records_of}
use Rattle.histories.specs.States.{SessionState, state_after}
use Rattle.session_boots.specs.Lines.{lines_of}
use Rattle.session_boots.specs.Same.{IsSameDeployment}
use Rattle.session_boots.specs.Traces.{IsTrace}
use Rattle.components.specs.Events.{later}
use Rattle.law_termination.specs.Rank.{measure}
use Rattle.law_termination.specs.Drives.{AreDriven}
use Rattle.session_startup.specs.Coming.{OwnsComing, coming_device, is_plan}
use Rattle.session_startup.specs.Runs.{IsAtTurnStart}
use Rattle.session_startup.proofs.turns.come_up.Given as goal

abbrev pub invariant-turns : goal.invariant-turns
invariant-turns g l = record {
  held : OwnsComing g.D.Disk.is_modelled g.D.Disk.may_leave g.J.Journal.stands g.J.Journal.end l.state l.disk;
  same : is_plan l.state ≡ is_plan l.fn.state;
  deployment : IsSameDeployment (coming_device l.fn.state) (coming_device l.state);
  others : IsTrue g.D.Disk.is_modelled → (name : List ℕ) → ¬ (g.J.Journal.files name) → g.D.Disk.seen l.disk name ≡ g.D.Disk.seen l.fn.disk name;
  quiet_disk : g.D.Disk.faults l.disk ≡ g.D.Disk.faults l.fn.disk;
  quiet_sink : g.K.Sink.faults l.sink ≡ g.K.Sink.faults l.fn.sink;
  drives : AreDriven (g.S.Supervise.world l.supervisor);
  trace : (p : SessionState) → IsAtTurnStart p (coming_device l.fn.state) (g.S.Supervise.world l.fn.supervisor)
      (Listed g.R.Runner.list g.R.Runner.told g.R.Runner.asked l.fn.runner) (g.R.Runner.living l.fn.runner) →
      (h : List TraceEvent) × IsTrace g.J.Journal.entries g.J.Journal.files g.D.Disk.may_leave g.D.Disk.moment g.D.Disk.left_since l.fn.disk l.disk
      (g.R.Runner.list l.fn.runner) (g.R.Runner.list l.runner) p h
      × Appends (g.K.Sink.held l.fn.sink) (g.K.Sink.held l.sink) (lines_of p.device (records_of h))
      × IsAtTurnStart (state_after p h) (coming_device l.state) (g.S.Supervise.world l.supervisor)
      (Listed g.R.Runner.list g.R.Runner.told g.R.Runner.asked l.runner) (g.R.Runner.living l.runner);
}

abbrev pub decreases-turns : goal.decreases-turns
decreases-turns g l = measure (later (g.R.Runner.clock l.runner) (g.S.Supervise.world l.supervisor))
