-- No step of a recipe ends as it starts: its limit is a millisecond at least.
use Rattle.std.proofs.Common.{◌≡◌, ◌≤◌, ◌*◌, ℕ, List, ◌++◌, Option, Some, None, IfSome, sym, subst, arith, lit≤}
use Rattle.serde_json.specs.Data.{Data, null, boolean, number, string, array, object}
use Rattle.nuc_base.specs.Tables.{Table, AllHold, on}
use Rattle.nuc_base.specs.declared.kinds.Step.{Step}
use Rattle.nuc_base.specs.declared.kinds.Step.TheVariants.{Install, Run, Startup, Shutdown, Recover, Bootstrap}
use Rattle.nuc_base.specs.declared.platform.Platform.{Platform}
use Rattle.nuc_base.proofs.Tables.{hold_last}
use Rattle.tree_core.specs.Parts.{check, optional}
use Rattle.recipe_reader.specs.Dependencies.{dependencies_lines}
use Rattle.recipe_reader.specs.Environment.{Variable, environment_lines}
use Rattle.recipe_reader.specs.Keys.{keyed}
use Rattle.recipe_reader.specs.Lifecycles.{AreSteps, HasBoth, first_steps, keys_lines, last_steps, lifecycle_lines, one_step, step_value}
use Rattle.recipe_reader.specs.OneRecipe.{IsRecipeFor}
use Rattle.recipe_reader.specs.Platforms.{manifests_lines}
use Rattle.recipe_reader.specs.Recipes.{chosen_lines, config_lines, head_lines, inner, manifest_of, part_lines, recipe_lines}
use Rattle.recipe_reader.specs.Spelled.{spelled}
use Rattle.recipe_reader.specs.Steps.{IsLimit, IsStep, double_lines, script_lines, skip_lines, step_lines, step_of, timeout_lines, usual_limit}
use Rattle.recipe_reader.specs.declared.fault.Key.TheVariants as key
use Rattle.recipe_reader.specs.declared.fault.RecipeFault.{RecipeFault}
use Rattle.recipe_reader.specs.declared.fault.RecipeFault.TheVariants as fault
use Rattle.recipe_reader.specs.declared.recipe.Recipe.{Recipe}
use Rattle.recipe_reader.specs.declared.recipe.StepDef.{StepDef}
use Rattle.recipe_reader.proofs.SoundSteps.{hold_first, lifecycle_holds}

abbrev pub IsLong : StepDef → Type 0
IsLong def = IfSome def.limit_ms (λ l. 1 ≤ l)

-- ---- the lines of a step are among those of the recipe

module _ (v : Data) where
  abbrev variables : Table RecipeFault
  variables = on (keyed (spelled key.Setenv) v) environment_lines

  all_steps : AllHold (lifecycle_lines v) → AllHold (keys_lines v ++ variables ++ first_steps v ++ last_steps v)
  all_steps h = hold_first (keys_lines v ++ variables ++ first_steps v ++ last_steps v) (check (HasBoth v → ⊥) fault.RunAndStartup) h

  first_hold : AllHold (lifecycle_lines v) → AllHold (first_steps v)
  first_hold h = hold_last (keys_lines v ++ variables) (first_steps v) (hold_first (keys_lines v ++ variables ++ first_steps v) (last_steps v) (all_steps h))

  last_hold : AllHold (lifecycle_lines v) → AllHold (last_steps v)
  last_hold h = hold_last (keys_lines v ++ variables ++ first_steps v) (last_steps v) (all_steps h)

  step_holds : (step : Step) → AllHold (lifecycle_lines v) → AllHold (one_step step v)
  step_holds Install h = hold_first (one_step Install v) (one_step Run v) (hold_first (one_step Install v
      ++ one_step Run v) (one_step Startup v) (first_hold h))
  step_holds Run h = hold_last (one_step Install v) (one_step Run v) (hold_first (one_step Install v ++ one_step Run v) (one_step Startup v) (first_hold h))
  step_holds Startup h = hold_last (one_step Install v ++ one_step Run v) (one_step Startup v) (first_hold h)
  step_holds Shutdown h = hold_first (one_step Shutdown v) (one_step Recover v)
      (hold_first (one_step Shutdown v ++ one_step Recover v) (one_step Bootstrap v) (last_hold h))
  step_holds Recover h = hold_last (one_step Shutdown v) (one_step Recover v)
      (hold_first (one_step Shutdown v ++ one_step Recover v) (one_step Bootstrap v) (last_hold h))
  step_holds Bootstrap h = hold_last (one_step Shutdown v ++ one_step Recover v) (one_step Bootstrap v) (last_hold h)

-- a text has no key of a limit
limit_lines : (step : Step) (v : Data) → AllHold (step_lines step v) → AllHold (on (keyed (spelled key.Timeout) v) timeout_lines)
limit_lines step null h = tt
limit_lines step (boolean b) h = tt
limit_lines step (number n) h = tt
limit_lines step (string s) h = tt
limit_lines step (array ds) h = tt
limit_lines step (object ms) h =
    let v = object ms in
    let skips : Table RecipeFault = on (keyed (spelled key.Skipif) v) skip_lines in
    let limits : Table RecipeFault = on (keyed (spelled key.Timeout) v) timeout_lines in
    let variables : Table RecipeFault = on (keyed (spelled key.Setenv) v) environment_lines in
    hold_last (double_lines v ++ script_lines v ++ skips) limits (hold_first (double_lines v ++ script_lines v ++ skips ++ limits) variables h.1)

-- ---- the limit

long_usual : (step : Step) → IfSome (usual_limit step) (λ l. 1 ≤ l)
long_usual Install = lit≤ tt
long_usual Run = tt
long_usual Startup = lit≤ tt
long_usual Shutdown = lit≤ tt
long_usual Recover = lit≤ tt
long_usual Bootstrap = lit≤ tt

long_limit : (step : Step) (o : Option Data) (limit : Option ℕ) → AllHold (on o timeout_lines) → IsLimit step o limit → IfSome limit (λ l. 1 ≤ l)
long_limit step None limit h is = subst (λ (l : Option ℕ). IfSome l (λ m. 1 ≤ m)) (sym is) (long_usual step)
long_limit step (Some v) limit h is =
    let count = h.1.0 in
    let same : count.0 ≡ is.0 = cc (count.1, is.1) in
    let some : 1 ≤ count.0 = count.2 in
    let above : 1 ≤ is.0 * 1000 = omega (arith, same, some) in
    subst (λ (l : Option ℕ). IfSome l (λ m. 1 ≤ m)) (sym is.2) above

long_step : (step : Step) (outer : List Variable) (o : Option Data) (def : Option StepDef) → AllHold (on o (step_lines step)) → IsStep step outer o def →
    IfSome def IsLong
long_step step outer o None h is = tt
long_step step outer None (Some def) h is = absurd is
long_step step outer (Some v) (Some def) h is = long_limit step (keyed (spelled key.Timeout) v) def.limit_ms (limit_lines step v h) is.limit

long_steps : (o : Option Data) (recipe : Recipe) → AllHold (on o lifecycle_lines) → AreSteps o (step_of recipe) → (step : Step) →
    IfSome (step_of recipe step) IsLong
long_steps None recipe h are step = long_step step are.outer None (step_of recipe step) tt (are.steps step)
long_steps (Some v) recipe h are step = long_step step are.outer (step_value step v) (step_of recipe step) (step_holds v step h) (are.steps step)

chosen_hold : (platform : Platform) (d : Data) → AllHold (recipe_lines platform d) → AllHold (on (manifest_of platform d) chosen_lines)
chosen_hold platform d h =
    let configs : Table RecipeFault = optional (spelled key.ComponentConfiguration) d config_lines in
    let needs : Table RecipeFault = optional (spelled key.ComponentDependencies) d dependencies_lines in
    hold_last (optional (spelled key.Manifests) d (manifests_lines platform)) (on (manifest_of platform d) chosen_lines)
    (hold_last (head_lines d ++ configs ++ needs) (part_lines platform d) h)

pub limits_are_long : (bytes : List ℕ) (platform : Platform) (r : Recipe) → IsRecipeFor bytes platform r → (step : Step) → IfSome (step_of r step) IsLong
limits_are_long bytes platform r reads step =
    long_steps (inner key.Lifecycle (manifest_of platform reads.0)) r (lifecycle_holds (manifest_of platform reads.0) (chosen_hold platform reads.0 reads.2))
    reads.3.steps step
