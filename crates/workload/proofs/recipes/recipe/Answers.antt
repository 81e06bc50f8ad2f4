use Rattle.workload.specs.Recipes.{recipe_text}
use Rattle.workload.proofs.recipes.recipe.Goals as goal

pub returns : goal.returns
unfolding recipe_text
returns c = rw c.in_ok-tree.ensures.tree at c.bytes_of.ensures
