use Rattle.std.proofs.Common.{drop}
use Rattle.device.specs.PlanNeeds.{HasRecipeAt, IsRecipeAt}
use Rattle.device.proofs.PlanLoops.{Goes}
use Rattle.device.proofs.plan_recipes.recipes_of.Given as goal

abbrev pub invariant-loop-item : goal.invariant-loop-item
invariant-loop-item l = Goes (HasRecipeAt l.platform) (IsRecipeAt l.platform) l.items (drop l.item-index l.items) l.recipes.items
