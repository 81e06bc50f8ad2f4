use Rattle.std.proofs.Common.{map}
use Rattle.records.specs.Stored.{item_view}
use Rattle.session_admission.proofs.Recipes.{some_recipes}
use Rattle.session_admission.proofs.readied.prepare.Goals as goal

pub ready-requires-clause-recipes : goal.ready-requires-clause-recipes
ready-requires-clause-recipes g c = some_recipes c.args.origin.now.platform (map item_view c.args.plan.now.items) c.requires.plan.items.recipes

pub ready-requires-2-clause-recipes : goal.ready-requires-2-clause-recipes
ready-requires-2-clause-recipes g c = some_recipes c.args.origin.now.platform (map item_view c.args.set.now) c.requires.set.recipes
