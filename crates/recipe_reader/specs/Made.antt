-- The steps as they are read, in two parts.
use Rattle.std.specs.Prelude.{List, Option}
use Rattle.serde_json.specs.Data.{Data}
use Rattle.nuc_base.specs.declared.kinds.Step.{Step}
use Rattle.nuc_base.specs.declared.kinds.Step.TheVariants.{Install, Run, Startup, Shutdown, Recover, Bootstrap}
use Rattle.recipe_reader.specs.Environment.{Variable}
use Rattle.recipe_reader.specs.Steps.{IsStep}
use Rattle.recipe_reader.specs.Lifecycles.{step_value}
use Rattle.recipe_reader.specs.declared.recipe.StepDef.{StepDef}
use Rattle.recipe_reader.specs.declared.lifecycle.FirstSteps.{FirstSteps}
use Rattle.recipe_reader.specs.declared.lifecycle.LastSteps.{LastSteps}
use Rattle.recipe_reader.specs.declared.lifecycle.Steps.{Steps}

pub record AreFirst (outer : List Variable) (v : Data) (first : FirstSteps) : Type 0 where
  pub install : IsStep Install outer (step_value Install v) first.install
  pub run : IsStep Run outer (step_value Run v) first.run
  pub startup : IsStep Startup outer (step_value Startup v) first.startup

pub record AreLast (outer : List Variable) (v : Data) (last : LastSteps) : Type 0 where
  pub shutdown : IsStep Shutdown outer (step_value Shutdown v) last.shutdown
  pub recover : IsStep Recover outer (step_value Recover v) last.recover
  pub bootstrap : IsStep Bootstrap outer (step_value Bootstrap v) last.bootstrap

abbrev pub made_step : Steps → Step → Option StepDef
made_step steps Install = steps.first.install
made_step steps Run = steps.first.run
made_step steps Startup = steps.first.startup
made_step steps Shutdown = steps.last.shutdown
made_step steps Recover = steps.last.recover
made_step steps Bootstrap = steps.last.bootstrap
