use Rattle.std.proofs.Common.{refl}
use Rattle.workload.specs.Recipes.{drawn_components}
use Rattle.workload.proofs.Steps.{component_drawn, component_state}
use Rattle.workload.proofs.recipes.draw_recipes.Goals as goal

pub loop-component-init : goal.loop-component-init
unfolding drawn_components
loop-component-init c = record { recipes = c.new-recipes.ensures.items; state = refl }

pub loop-component-preserved : goal.loop-component-preserved
loop-component-preserved c = record {
  recipes = component_drawn _ _ _ c.loop-component.invariant.state _ _ c.loop-component.invariant.recipes c.in_ok-draw_component.ensures.recipes;
  state = component_state _ _ _ c.loop-component.invariant.state _ c.in_ok-draw_component.ensures.state;
}
