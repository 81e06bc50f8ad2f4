use Rattle.std.proofs.Common.{◌≡◌, ◌++◌}
use Rattle.workload.specs.Recipes.{drawn_versions}
use Rattle.workload.proofs.recipes.draw_component.Given as goal

abbrev pub invariant-loop-minor : goal.invariant-loop-minor
invariant-loop-minor l = record {
  recipes : l.recipes.items ≡ l.fn.recipes.items ++ (drawn_versions l.component l.minor l.initial.generator.state).value;
  state : l.generator.state ≡ (drawn_versions l.component l.minor l.initial.generator.state).state;
}
