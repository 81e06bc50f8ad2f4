use Rattle.law_whole.proofs.Asking.{kept_group_asks}
use Rattle.law_whole.proofs.Items.{own_items_stay}
use Rattle.law_whole.proofs.Keeping.{own_config_stays, own_is_gathered}
use Rattle.law_whole.proofs.Owning.{own_set_is_chosen, own_set_is_there}
use Rattle.law_whole.proofs.Taken.{own_needs_no_file}
use Rattle.law_whole.proofs.laws.own_sets_are_chosen.Goals as goal

pub returns-clause-chosen : goal.returns-clause-chosen
returns-clause-chosen c = own_set_is_chosen c.recipe_laws.ensures.one_recipe c.set_laws.ensures.elements

pub returns-clause-there : goal.returns-clause-there
returns-clause-there c = own_set_is_there c.recipe_laws.ensures.one_recipe c.set_laws.ensures.elements

pub returns-clause-config : goal.returns-clause-config
returns-clause-config c = own_config_stays c.recipe_laws.ensures.one_recipe c.set_laws.ensures.elements

pub returns-clause-gathered : goal.returns-clause-gathered
returns-clause-gathered c = own_is_gathered

pub returns-clause-group : goal.returns-clause-group
returns-clause-group c = kept_group_asks

pub returns-clause-files : goal.returns-clause-files
returns-clause-files c = own_needs_no_file c.recipe_laws.ensures.one_recipe c.set_laws.ensures.elements

pub returns-clause-items : goal.returns-clause-items
returns-clause-items c = own_items_stay c.recipe_laws.ensures.one_recipe c.recipe_laws.ensures.sound c.set_laws.ensures.elements
