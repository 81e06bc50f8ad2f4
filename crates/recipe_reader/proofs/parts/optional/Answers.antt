use Rattle.tree_core.specs.View.{view}
use Rattle.recipe_reader.proofs.Regulars.{found_regular}
use Rattle.recipe_reader.proofs.parts.optional.Goals as goal

pub returns-clause-regular : goal.returns-clause-regular
returns-clause-regular c = found_regular (λ t. view t.now) _ _ _ c.present.ensures
