-- How an item is made ready: each text of a step is expanded over the item's scope.
use Rattle.std.specs.Prelude.{◌≡◌, ◌≢◌, ℕ, List, map, filter, not, Option, Some, None, slice_get, length}
use Rattle.std.specs.List.{AllZip}
use Rattle.nuc_base.specs.declared.kinds.Step.{Step}
use Rattle.nuc_base.specs.declared.kinds.Step.TheVariants.{Bootstrap}
use Rattle.recipe_reader.specs.Steps.{step_of}
use Rattle.recipe_reader.specs.declared.recipe.Dependency.{Dependency}
use Rattle.recipe_reader.specs.declared.recipe.StepDef.{StepDef}
use Rattle.recipe_reader.specs.declared.recipe.Skip.{Skip}
use Rattle.recipe_reader.specs.declared.recipe.Skip.TheVariants.{OnPath, Exists}
use Rattle.interpolation.specs.declared.scope.Scope.{Scope}
use Rattle.interpolation.specs.Values.{folder_of_work}
use Rattle.interpolation.specs.Variables.{Expanded}
use Rattle.records.specs.Stored.{Item}
use Rattle.records.specs.declared.record.Origin.{Origin}
use Rattle.device.specs.Scopes.{IsScopeOf}
use Rattle.step_runner.specs.declared.command.Command.{Command}
use Rattle.components.specs.Fitted.{Fitted, prepared_of}
use Rattle.components.specs.declared.kinds.Prepared.{Prepared}

-- a variable of the environment keeps its name
pub record IsVariable (scope : Scope) (def made : List ℕ × List ℕ) : Type 0 where
  pub name : made.0 ≡ def.0
  pub value : Expanded scope def.1 made.1

pub record IsCommandOf (scope : Scope) (def : StepDef) (command : Command) : Type 0 where
  pub script : Expanded scope def.script command.script
  pub env : AllZip (IsVariable scope) def.env command.env
  pub folder : command.folder ≡ folder_of_work scope.root scope.own.name

abbrev pub IsSkipOf : Scope → Option Skip → Option Skip → Type 0
IsSkipOf scope None made = made ≡ None
IsSkipOf scope (Some (OnPath text)) made = (word : List ℕ) × (made ≡ Some (OnPath word)) × Expanded scope text word
IsSkipOf scope (Some (Exists text)) made = (path : List ℕ) × (made ≡ Some (Exists path)) × Expanded scope text path

pub record IsPreparedFrom (scope : Scope) (def : StepDef) (made : Prepared) : Type 0 where
  pub command : IsCommandOf scope def made.command
  pub skip : IsSkipOf scope def.skip made.skip
  pub limit : made.limit_ms ≡ def.limit_ms

-- a step that the recipe has is prepared, and no other
abbrev pub IsPrepared : Scope → Option StepDef → Option Prepared → Type 0
IsPrepared scope None made = made ≡ None
IsPrepared scope (Some def) made = (p : Prepared) × (made ≡ Some p) × IsPreparedFrom scope def p

-- the step of the item at the place, bootstraps among them
pub record IsStepAt (origin : Origin) (items : List Item) (at : ℕ) (step : Step) (made : Option Prepared) : Type 0 where
  pub scope : Scope
  pub is_scope : IsScopeOf origin items at scope
  pub prepared : IsPrepared scope (step_of is_scope.recipe step) made

abbrev pub hard_names : List Dependency → List (List ℕ)
hard_names ds = map (λ (d : Dependency). d.name) (filter (λ (d : Dependency). d.hard) ds)

abbrev pub soft_names : List Dependency → List (List ℕ)
soft_names ds = map (λ (d : Dependency). d.name) (filter (λ (d : Dependency). not d.hard) ds)

-- the item at the place is ready to run
pub record IsFittedAt (origin : Origin) (items : List Item) (at : ℕ) (f : Fitted) : Type 0 where
  pub scope : Scope
  pub is_scope : IsScopeOf origin items at scope
  pub item : f.item ≡ is_scope.item
  pub hard : f.hard ≡ hard_names is_scope.recipe.dependencies
  pub soft : f.soft ≡ soft_names is_scope.recipe.dependencies
  pub steps : (step : Step) → step ≢ Bootstrap → IsPrepared scope (step_of is_scope.recipe step) (prepared_of f step)

-- so are all of them, in their order
pub record AreFitted (origin : Origin) (items : List Item) (fitted : List Fitted) : Type 0 where
  pub many : length fitted ≡ length items
  pub each : (at : ℕ) (f : Fitted) → slice_get fitted at ≡ Some f → IsFittedAt origin items at f
