use Rattle.components.proofs.Held.{far_too}
use Rattle.components.proofs.Moved.{stop_direct}
use Rattle.components.proofs.laws.stops_wait.Goals as goal

pub returns-clause-far : goal.returns-clause-far
returns-clause-far c = far_too

pub returns-clause-direct : goal.returns-clause-direct
returns-clause-direct c = stop_direct
