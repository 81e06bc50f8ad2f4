use Rattle.std.proofs.Common.{◌≡◌}
use Rattle.workload.specs.Recipes.{drawn_components}
use Rattle.workload.proofs.recipes.draw_recipes.Given as goal

abbrev pub invariant-loop-component : goal.invariant-loop-component
invariant-loop-component l = record {
  recipes : l.recipes.items ≡ (drawn_components l.component l.fn.generator.state).value;
  state : l.generator.state ≡ (drawn_components l.component l.fn.generator.state).state;
}
