-- A deployment that is rolled back is the same.
use Rattle.std.proofs.Common.{sym, subst}
use Rattle.device.specs.Devices.{Device}
use Rattle.session_boots.specs.Same.{IsSameDeployment}
use Rattle.session_boots.proofs.Same.{same_broken}
use Rattle.session_transitions.specs.Fails.{DeviceAfterBreak}

pub same_broken_off : (d e : Device) → DeviceAfterBreak d e → IsSameDeployment d e
same_broken_off d e b = subst (λ (x : Device). IsSameDeployment d x) (sym b.2) (same_broken d b.0 b.1)
