use Rattle.std.proofs.Common.{refl, sym}
use Rattle.std.proofs.lemmas.List.{append-nil}
use Rattle.workload.specs.Recipes.{drawn_versions}
use Rattle.workload.proofs.Steps.{version_drawn, version_state}
use Rattle.workload.proofs.recipes.draw_component.Goals as goal

pub loop-minor-init : goal.loop-minor-init
unfolding drawn_versions
loop-minor-init c = record { recipes = sym (append-nil c.args.recipes.now.items); state = refl }

pub loop-minor-preserved : goal.loop-minor-preserved
loop-minor-preserved c = record {
  recipes = version_drawn _ _ _ _ c.loop-minor.invariant.state _ _ _ _ _ c.loop-minor.invariant.recipes c.draw_need-needed.ensures.need c.in_ok-recipe.ensures
      c.in_ok-push.ensures.items;
  state = version_state _ _ _ _ c.loop-minor.invariant.state _ c.draw_need-needed.ensures.state;
}
