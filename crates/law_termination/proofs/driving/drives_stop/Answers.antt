use Rattle.law_termination.proofs.Stands.{stop_drives}
use Rattle.law_termination.proofs.driving.drives_stop.Goals as goal

pub returns : goal.returns
returns c = stop_drives
