use Rattle.plan_core.proofs.Accepting.{filled}
use Rattle.plan_core.proofs.laws.filled_drafts_may_be_accepted.Goals as goal

pub returns : goal.returns
returns c = filled c.recipe_laws.ensures.one_recipe c.recipe_laws.ensures.sound c.config_is_object.ensures
