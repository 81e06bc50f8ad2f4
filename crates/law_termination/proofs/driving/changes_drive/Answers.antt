use Rattle.law_termination.proofs.Comes.{begins}
use Rattle.law_termination.proofs.driving.changes_drive.Goals as goal

pub returns : goal.returns
returns c = begins
