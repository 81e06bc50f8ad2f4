use Rattle.recipe_reader.specs.Recipes.{limit}
use Rattle.recipe_reader.proofs.Alike.{reads_one, fault_none, fault_one, reads_back}
use Rattle.recipe_reader.proofs.Soundness.{recipe_sound}
use Rattle.recipe_reader.proofs.laws.recipe_laws.Goals as goal

pub returns-clause-one_recipe : goal.returns-clause-one_recipe
returns-clause-one_recipe c = λ bytes platform r s h k. reads_one c.tree_laws.ensures.one_tree c.tree_laws.ensures.no_fault bytes platform r s h k

pub returns-clause-no_fault : goal.returns-clause-no_fault
returns-clause-no_fault c = λ bytes platform r f h k. fault_none c.tree_laws.ensures.one_tree c.tree_laws.ensures.no_fault bytes platform r f h k

pub returns-clause-boot_back : goal.returns-clause-boot_back
returns-clause-boot_back c = λ bytes platform r h. reads_back bytes platform r h

pub returns-clause-one_fault : goal.returns-clause-one_fault
returns-clause-one_fault c = λ bytes platform f g h k. fault_one c.tree_laws.ensures.one_tree c.tree_laws.ensures.no_fault c.tree_laws.ensures.one_fault
    bytes platform f g h k

pub returns-clause-sound : goal.returns-clause-sound
returns-clause-sound c = λ bytes platform r h. recipe_sound platform h.0 r (c.tree_laws.ensures.regular bytes limit h.0 h.1) h.2 h.3
