use Rattle.std.proofs.Common.{◌≡◌, arith}
use Rattle.fleet.proofs.Numbers.{same_devices}
use Rattle.fleet.proofs.running.device_number.Goals as goal
use Rattle.fleet.proofs.running.device_number.Goals.{then-devices-lt1-via-then-devices-lt1, then-devices-lt1-via-else-devices-lt1+then-devices-gt1024}

pub returns-then-devices-lt1 : goal.returns-then-devices-lt1
returns-then-devices-lt1 c devices begins =
    let same : c.in_ok-devices.devices ≡ devices = same_devices c.args.line.now c.in_ok-devices.devices devices c.in_ok-devices.ensures begins in
    elim c.then-devices-lt1.branch [
      | then-devices-lt1-via-then-devices-lt1 w ↦ omega (arith, begins.some, w.if-devices-lt1.true)
      | then-devices-lt1-via-else-devices-lt1+then-devices-gt1024 w ↦ omega (arith, begins.few, w.if-devices-gt1024.true)
    ]
