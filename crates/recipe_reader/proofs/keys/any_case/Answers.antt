use Rattle.tree_core.specs.View.{view}
use Rattle.tree_core.proofs.RegularParts.{fields_regular}
use Rattle.recipe_reader.proofs.Regulars.{value_regular}
use Rattle.recipe_reader.proofs.keys.any_case.Goals as goal

pub returns-clause-regular : goal.returns-clause-regular
returns-clause-regular c = value_regular (λ t. view t.now) _ _ _ c.value_of.ensures (fields_regular _ c.in-Fields.fields c.in-Fields.is c.requires)
