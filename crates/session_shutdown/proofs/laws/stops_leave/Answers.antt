use Rattle.session_shutdown.proofs.Asked.{stopped_leave}
use Rattle.session_shutdown.proofs.laws.stops_leave.Goals as goal

pub returns : goal.returns
returns c = stopped_leave
