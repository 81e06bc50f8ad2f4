use Rattle.tree_core.specs.View.{view}
use Rattle.recipe_reader.proofs.Soundness.{answers_sound}
use Rattle.recipe_reader.proofs.recipe.Recipe.read.Goals as goal

pub returns-clause-sound : goal.returns-clause-sound
returns-clause-sound c = answers_sound c.args.platform.now (view c.in-Ok.tree) c.recipe_of.result c.in-Ok.ensures.regular c.recipe_of.ensures
