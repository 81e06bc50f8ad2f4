use Rattle.law_supervisor.proofs.Gone.{ended_owns, killed_owns}
use Rattle.law_supervisor.proofs.orders.children_go_alone.Goals as goal

pub returns-clause-kills : goal.returns-clause-kills
returns-clause-kills c = killed_owns

pub returns-clause-ends : goal.returns-clause-ends
returns-clause-ends c = ended_owns
