use Rattle.device.proofs.PlanLengths.{short}
use Rattle.device.proofs.plan_sizes.plans_are_short.Goals as goal

pub returns : goal.returns
returns c = λ platform plan bytes is spelled. short platform plan bytes is spelled
