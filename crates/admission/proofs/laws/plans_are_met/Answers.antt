use Rattle.admission.proofs.Meeting.{taken_are_met}
use Rattle.admission.proofs.laws.plans_are_met.Goals as goal

pub returns : goal.returns
returns c = taken_are_met
