use Rattle.law_whole.proofs.Requested.{changes_keep_all, locals_move_one_list, plans_move_one_group}
use Rattle.law_whole.proofs.laws.requests_keep_the_rest.Goals as goal

pub returns-clause-run : goal.returns-clause-run
returns-clause-run c = plans_move_one_group

pub returns-clause-local : goal.returns-clause-local
returns-clause-local c = locals_move_one_list

pub returns-clause-change : goal.returns-clause-change
returns-clause-change c = changes_keep_all c.recipe_laws.ensures.one_recipe c.recipe_laws.ensures.sound c.set_laws.ensures.elements
