use Rattle.std.proofs.Common.{◌≡◌, List, length}
use Rattle.nuc_base.specs.declared.status.Status.TheVariants as statuses
use Rattle.deploy_state.specs.States.{OwnsIdle, idle_device}
use Rattle.step_runner.specs.Entries.{Listed}
use Rattle.histories.specs.States.{SessionState, state_after}
use Rattle.histories.specs.TraceEvents.{TraceEvent}
use Rattle.deploy_state.specs.Objects.{OwnsOver}
use Rattle.session_steady.specs.Serves.{IsServing}
use Rattle.session_serving.specs.Causes.{IsCaused, observation}
use Rattle.session_serving.specs.Documents.{IsDeployedThere}
use Rattle.session_serving.specs.Parts.{TurnsPassed, outside}
use Rattle.session_serving.specs.States.{AreUp}
use Rattle.session_serving.specs.Rounds.{Round}
use Rattle.session_serving.proofs.turns.take_turns.Given as goal

abbrev pub invariant-turns : goal.invariant-turns
invariant-turns g l = record {
  held : OwnsOver g.D.Disk g.J.Journal OwnsIdle l.idle l.disk;
  up : AreUp (idle_device l.idle) (g.S.Supervise.world l.supervisor);
  caused : IsCaused g.D.Disk.is_modelled g.J.Journal.files statuses.Done
      (observation g.D.Disk g.K.Sink g.L.Library g.I.Inbox l.fn.disk l.fn.sink l.fn.library l.fn.inbox)
      (observation g.D.Disk g.K.Sink g.L.Library g.I.Inbox l.disk l.sink l.library l.inbox);
  left : (p : SessionState) → IsServing p (idle_device l.fn.idle) (g.S.Supervise.world l.fn.supervisor)
      (Listed g.R.Runner.list g.R.Runner.told g.R.Runner.asked l.fn.runner) (g.R.Runner.living l.fn.runner) → p.turns ≡ l.fn.turns →
      (h : List TraceEvent) × (rounds : List Round)
      × TurnsPassed g.D.Disk g.J.Journal IsDeployedThere
      (outside g.D.Disk g.K.Sink g.R.Runner g.L.Library g.I.Inbox l.fn.disk l.fn.sink l.fn.runner l.fn.library l.fn.inbox)
      (outside g.D.Disk g.K.Sink g.R.Runner g.L.Library g.I.Inbox l.disk l.sink l.runner l.library l.inbox) p h rounds
      × (length rounds ≡ l._turn)
      × IsServing (state_after p h) (idle_device l.idle) (g.S.Supervise.world l.supervisor)
      (Listed g.R.Runner.list g.R.Runner.told g.R.Runner.asked l.runner) (g.R.Runner.living l.runner);
}
