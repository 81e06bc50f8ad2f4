-- The lifecycle of a manifest.
use Rattle.std.specs.Prelude.{Bool, false, List, ◌++◌, Option, Some, None, IsSome}
use Rattle.serde_json.specs.Data.{Data, null, boolean, number, string, array, object}
use Rattle.nuc_base.specs.Tables.{Table, on}
use Rattle.nuc_base.specs.declared.kinds.Step.{Step}
use Rattle.nuc_base.specs.declared.kinds.Step.TheVariants.{Install, Run, Startup, Shutdown, Recover, Bootstrap}
use Rattle.tree_core.specs.Parts.{IsObject, check}
use Rattle.recipe_reader.specs.Spelled.{spelled}
use Rattle.recipe_reader.specs.Keys.{any_case, keyed}
use Rattle.recipe_reader.specs.Environment.{Variable, environment_lines, AreVariables}
use Rattle.recipe_reader.specs.Steps.{key_of, doubles, step_lines, IsStep}
use Rattle.recipe_reader.specs.declared.recipe.StepDef.{StepDef}
use Rattle.recipe_reader.specs.declared.fault.Key.{Key}
use Rattle.recipe_reader.specs.declared.fault.Key.TheVariants as key
use Rattle.recipe_reader.specs.declared.fault.RecipeFault.{RecipeFault}
use Rattle.recipe_reader.specs.declared.fault.RecipeFault.TheVariants as fault

-- the variables' key comes first, then the steps
abbrev pub first_doubles : Data → Table RecipeFault
first_doubles v = doubles key.Setenv v ++ doubles key.Install v ++ doubles key.Run v ++ doubles key.Startup v

abbrev pub last_doubles : Data → Table RecipeFault
last_doubles v = doubles key.Shutdown v ++ doubles key.Recover v ++ doubles key.Bootstrap v

-- the value of a step
abbrev pub step_value : Step → Data → Option Data
step_value step v = keyed (spelled (key_of step)) v

-- the lines on a step, where it is there
abbrev pub one_step : Step → Data → Table RecipeFault
one_step step v = on (step_value step v) (step_lines step)

abbrev pub first_steps : Data → Table RecipeFault
first_steps v = one_step Install v ++ one_step Run v ++ one_step Startup v

abbrev pub last_steps : Data → Table RecipeFault
last_steps v = one_step Shutdown v ++ one_step Recover v ++ one_step Bootstrap v

abbrev pub HasBoth : Data → Type 0
HasBoth v = IsSome (step_value Run v) × IsSome (step_value Startup v)

abbrev pub keys_lines : Data → Table RecipeFault
keys_lines v = check (IsObject v) (fault.WrongKind key.Lifecycle) ++ first_doubles v ++ last_doubles v

abbrev pub lifecycle_lines : Data → Table RecipeFault
lifecycle_lines v =
    keys_lines v
    ++ on (keyed (spelled key.Setenv) v) environment_lines
    ++ first_steps v
    ++ last_steps v
    ++ check (¬ HasBoth v) fault.RunAndStartup

-- the value of a key of a lifecycle that may be absent
abbrev pub key_value : Key → Option Data → Option Data
key_value k None = None
key_value k (Some v) = keyed (spelled k) v

-- the steps of a lifecycle, each with the lifecycle's variables
pub record AreSteps (lifecycle : Option Data) (def_of : Step → Option StepDef) : Type 0 where
  pub outer : List Variable
  pub are_outer : AreVariables (key_value key.Setenv lifecycle) outer
  pub steps : (step : Step) → IsStep step outer (key_value (key_of step) lifecycle) (def_of step)

-- ---- whether the bootstrap runs again on the way back

-- the truth value true; any other value counts as an absent one
abbrev pub is_true : Option Data → Bool
is_true None = false
is_true (Some null) = false
is_true (Some (boolean b)) = b
is_true (Some (number n)) = false
is_true (Some (string s)) = false
is_true (Some (array ds)) = false
is_true (Some (object ms)) = false

-- what the object of the step says
abbrev pub back_of_step : Option Data → Bool
back_of_step None = false
back_of_step (Some v) = is_true (any_case (spelled key.BootstrapOnRollback) v)

-- what a lifecycle that may be absent says
abbrev pub back_of : Option Data → Bool
back_of lifecycle = back_of_step (key_value key.Bootstrap lifecycle)
