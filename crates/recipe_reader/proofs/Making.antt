-- The steps as they are read, and the steps of a recipe.
use Rattle.std.proofs.Common.{◌≡◌, List, Option, Some, sym, subst}
use Rattle.serde_json.specs.Data.{Data}
use Rattle.nuc_base.specs.declared.kinds.Step.{Step}
use Rattle.nuc_base.specs.declared.kinds.Step.TheVariants.{Install, Run, Startup, Shutdown, Recover, Bootstrap}
use Rattle.recipe_reader.specs.Spelled.{spelled}
use Rattle.recipe_reader.specs.Keys.{keyed}
use Rattle.recipe_reader.specs.Environment.{Variable, AreVariables}
use Rattle.recipe_reader.specs.Steps.{step_of, key_of, IsStep}
use Rattle.recipe_reader.specs.Lifecycles.{AreSteps, key_value}
use Rattle.recipe_reader.specs.Made.{AreFirst, AreLast, made_step}
use Rattle.recipe_reader.specs.declared.lifecycle.FirstSteps.{FirstSteps}
use Rattle.recipe_reader.specs.declared.lifecycle.LastSteps.{LastSteps}
use Rattle.recipe_reader.specs.declared.lifecycle.Steps.{Steps}
use Rattle.recipe_reader.specs.declared.recipe.Recipe.{Recipe}
use Rattle.recipe_reader.specs.declared.fault.Key.TheVariants.{Setenv}

each_step : (outer : List Variable) (v : Data) (steps : Steps) → AreFirst outer v steps.first → AreLast outer v steps.last → (step : Step) →
    IsStep step outer (key_value (key_of step) (Some v)) (made_step steps step)
each_step outer v steps first last Install = first.install
each_step outer v steps first last Run = first.run
each_step outer v steps first last Startup = first.startup
each_step outer v steps first last Shutdown = last.shutdown
each_step outer v steps first last Recover = last.recover
each_step outer v steps first last Bootstrap = last.bootstrap

pub steps_are : (outer xs ys : List Variable) (v : Data) (first : FirstSteps) (last : LastSteps) → xs ≡ outer → ys ≡ outer
    → AreVariables (keyed (spelled Setenv) v) outer → AreFirst xs v first → AreLast ys v last →
    AreSteps (Some v) (made_step (record { first = first; last = last }))
steps_are outer xs ys v first last a b variables firsts lasts = record {
  outer = outer;
  are_outer = variables;
  steps = each_step outer v (record { first = first; last = last }) (subst (λ (zs : List Variable). AreFirst zs v first) a firsts)
      (subst (λ (zs : List Variable). AreLast zs v last) b lasts);
}

agree : (recipe : Recipe) (steps : Steps) → recipe.install ≡ steps.first.install → recipe.run ≡ steps.first.run → recipe.startup ≡ steps.first.startup
    → recipe.shutdown ≡ steps.last.shutdown → recipe.recover ≡ steps.last.recover → recipe.bootstrap ≡ steps.last.bootstrap → (step : Step) →
    made_step steps step ≡ step_of recipe step
agree recipe steps a b c d e f Install = sym a
agree recipe steps a b c d e f Run = sym b
agree recipe steps a b c d e f Startup = sym c
agree recipe steps a b c d e f Shutdown = sym d
agree recipe steps a b c d e f Recover = sym e
agree recipe steps a b c d e f Bootstrap = sym f

-- the steps that were read are those of the recipe
pub steps_of_recipe : (lifecycle : Option Data) (recipe : Recipe) (steps : Steps) → recipe.install ≡ steps.first.install → recipe.run ≡ steps.first.run →
    recipe.startup ≡ steps.first.startup
    → recipe.shutdown ≡ steps.last.shutdown → recipe.recover ≡ steps.last.recover → recipe.bootstrap ≡ steps.last.bootstrap →
    AreSteps lifecycle (made_step steps) → AreSteps lifecycle (step_of recipe)
steps_of_recipe lifecycle recipe steps a b c d e f h = record {
  outer = h.outer;
  are_outer = h.are_outer;
  steps = λ step. subst (IsStep step h.outer (key_value (key_of step) lifecycle)) (agree recipe steps a b c d e f step) (h.steps step);
}
