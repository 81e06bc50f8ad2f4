use Rattle.std.proofs.Common.{◌≡◌, List, [], ℕ, IsTrue}
use Rattle.std.specs.Io.KnownBytes.{Appends}
use Rattle.deploy_state.specs.States.{device_of}
use Rattle.step_runner.specs.Entries.{Listed}
use Rattle.components.specs.Components.{Components}
use Rattle.histories.specs.TraceEvents.{TraceEvent, records_of}
use Rattle.histories.specs.States.{SessionState, state_after}
use Rattle.session_boots.specs.Lines.{lines_of}
use Rattle.session_boots.specs.Made.{AreStageBoots}
use Rattle.session_boots.specs.Staged.{OwnsStage}
use Rattle.session_boots.specs.Stands.{IsAtBootStage}
use Rattle.session_boots.specs.AfterBoot.{steps_left}
use Rattle.session_boots.specs.Traces.{IsTrace}
use Rattle.session_boots.proofs.boots.run_stage.Given as goal

abbrev pub invariant-steps : goal.invariant-steps
invariant-steps g l = record {
  held : OwnsStage g.S.BootStage.hand g.S.BootStage.is_staged g.D.Disk.is_modelled g.D.Disk.may_leave g.J.Journal.stands g.J.Journal.end l.state l.disk;
  made : AreStageBoots (device_of (g.S.BootStage.hand l.state)) l.made;
  others : IsTrue g.D.Disk.is_modelled → (name : List ℕ) → ¬ (g.J.Journal.files name) → g.D.Disk.seen l.disk name ≡ g.D.Disk.seen l.fn.disk name;
  quiet_disk : g.D.Disk.faults l.disk ≡ g.D.Disk.faults l.fn.disk;
  quiet_sink : g.K.Sink.faults l.sink ≡ g.K.Sink.faults l.fn.sink;
  none : g.R.Runner.living l.runner ≡ [];
  trace : (p : SessionState) → (world : Components) → IsAtBootStage p (device_of (g.S.BootStage.hand l.fn.state)) world
      (Listed g.R.Runner.list g.R.Runner.told g.R.Runner.asked l.fn.runner) (g.R.Runner.living l.fn.runner) →
      (h : List TraceEvent) × IsTrace g.J.Journal.entries g.J.Journal.files g.D.Disk.may_leave g.D.Disk.moment g.D.Disk.left_since l.fn.disk l.disk
      (g.R.Runner.list l.fn.runner) (g.R.Runner.list l.runner) p h
      × Appends (g.K.Sink.held l.fn.sink) (g.K.Sink.held l.sink) (lines_of p.device (records_of h))
      × IsAtBootStage (state_after p h) (device_of (g.S.BootStage.hand l.state)) world (Listed g.R.Runner.list g.R.Runner.told g.R.Runner.asked l.runner)
      (g.R.Runner.living l.runner);
}

abbrev pub decreases-steps : goal.decreases-steps
decreases-steps g l = steps_left (device_of (g.S.BootStage.hand l.state))
