use Rattle.law_termination.proofs.Stands.{leaves, rises}
use Rattle.law_termination.proofs.driving.drives_end.Goals as goal

pub returns-clause-rises : goal.returns-clause-rises
returns-clause-rises c = rises

pub returns-clause-leaves : goal.returns-clause-leaves
returns-clause-leaves c = leaves
