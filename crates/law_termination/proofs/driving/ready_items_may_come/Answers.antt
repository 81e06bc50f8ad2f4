use Rattle.law_termination.proofs.RiseItems.{ready_come, ready_take_over}
use Rattle.law_termination.proofs.driving.ready_items_may_come.Goals as goal

pub returns-clause-come : goal.returns-clause-come
returns-clause-come c = ready_come c.recipe_laws.ensures.sound

pub returns-clause-take_over : goal.returns-clause-take_over
returns-clause-take_over c = ready_take_over c.recipe_laws.ensures.sound c.recipe_laws.ensures.one_recipe
