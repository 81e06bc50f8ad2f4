use Rattle.deploy_state.specs.States.{OwnsLoaded}
use Rattle.test_states.proofs.driving.drive_on.Given as goal

abbrev pub invariant-loop-count : goal.invariant-loop-count
invariant-loop-count g l = record {
  held : OwnsLoaded g.D.Disk.is_modelled g.D.Disk.may_leave g.J.Journal.stands g.J.Journal.end l.state l.disk;
}
