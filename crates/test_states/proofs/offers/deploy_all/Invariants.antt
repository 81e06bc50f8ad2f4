use Rattle.std.proofs.Common.{◌≡◌}
use Rattle.device.specs.Devices.{device_view}
use Rattle.deploy_state.specs.States.{OwnsIdle, idle_device}
use Rattle.test_states.proofs.offers.deploy_all.Given as goal

abbrev pub invariant-loop-at : goal.invariant-loop-at
invariant-loop-at g l = record {
  held : OwnsIdle g.D.Disk.is_modelled g.D.Disk.may_leave g.J.Journal.stands g.J.Journal.end l.idle l.disk;
  twin : device_view l.twin ≡ idle_device l.idle;
}
