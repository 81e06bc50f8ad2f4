use Rattle.plan_core.proofs.Opening.{may_plan}
use Rattle.plan_core.proofs.laws.gathered_candidates_make_plans.Goals as goal

pub returns : goal.returns
returns c = may_plan
