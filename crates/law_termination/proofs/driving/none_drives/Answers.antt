use Rattle.law_termination.proofs.Comes.{none_drives as none}
use Rattle.law_termination.proofs.driving.none_drives.Goals as goal

pub returns : goal.returns
returns c = none
