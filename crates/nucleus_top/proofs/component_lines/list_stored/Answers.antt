use Rattle.std.proofs.Common.{subst}
use Rattle.device.specs.Devices.{Device}
use Rattle.nucleus_top.specs.Components.{ListsStopped}
use Rattle.nucleus_top.proofs.component_lines.list_stored.Goals as goal

pub returns : goal.returns
returns g c = subst (λ (d : Device). ListsStopped d c.list_stopped.result) c.stored.ensures c.list_stopped.ensures
