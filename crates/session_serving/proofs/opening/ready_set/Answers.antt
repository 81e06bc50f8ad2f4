use Rattle.std.proofs.Common.{map}
use Rattle.records.specs.Stored.{item_view}
use Rattle.session_admission.proofs.Recipes.{some_recipes}
use Rattle.session_serving.proofs.opening.ready_set.Goals as goal

pub ready-requires-clause-recipes : goal.ready-requires-clause-recipes
ready-requires-clause-recipes g c = some_recipes c.args.origin.now.platform (map item_view c.args.set.now) c.requires.items.recipes
