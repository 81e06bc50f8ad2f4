use Rattle.device.specs.Devices.{device_view, IsRegularDevice}
use Rattle.test_devices.proofs.statuses.take_all.Given as goal

abbrev pub invariant-loop-bytes : goal.invariant-loop-bytes
invariant-loop-bytes l = IsRegularDevice (device_view l.device)
