-- What is made ready for the way back of a deployment serves it as long as the same deployment is pending.
use Rattle.std.specs.Prelude.{List}
use Rattle.std.proofs.Common.{sym, subst}
use Rattle.device.specs.Devices.{Device}
use Rattle.components.specs.Fitted.{Fitted}
use Rattle.components.specs.declared.kinds.Prepared.{Prepared}
use Rattle.session_boots.specs.Same.{IsSameDeployment}
use Rattle.session_boots.proofs.Same.{same_broken}
use Rattle.session_admission.proofs.Serving.{ready_on}
use Rattle.session_transitions.specs.Fails.{DeviceAfterBreak}
use Rattle.session_rollout.specs.Backwards.{HasWayBack}

pub way_on : (backs : List Prepared) (earlier : List Fitted) (d e : Device) → IsSameDeployment d e → HasWayBack d backs earlier → HasWayBack e backs earlier
way_on backs earlier d e same way = (way.0, way.1, ready_on way.0 backs way.1 earlier d e same.origin same.set same.plan way.2)

-- behind the record with which it is rolled back
pub way_broken : (backs : List Prepared) (earlier : List Fitted) (d e : Device) → DeviceAfterBreak d e → HasWayBack d backs earlier → HasWayBack e backs earlier
way_broken backs earlier d e breaks way = way_on backs earlier d e
    (subst (λ (x : Device). IsSameDeployment d x) (sym breaks.2) (same_broken d breaks.0 breaks.1)) way
