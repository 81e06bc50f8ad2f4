use Rattle.law_whole.proofs.Bringing.{plans_are_whole}
use Rattle.law_whole.proofs.Taken.{taken_are_whole}
use Rattle.law_whole.proofs.laws.plans_are_whole.Goals as goal

pub returns-clause-plan : goal.returns-clause-plan
returns-clause-plan c = plans_are_whole c.config_stays.ensures.filled c.recipe_laws.ensures.sound c.set_laws.ensures.elements

pub returns-clause-taken : goal.returns-clause-taken
returns-clause-taken c = taken_are_whole c.config_stays.ensures.filled c.recipe_laws.ensures.sound c.set_laws.ensures.elements
