-- What is made ready of an item whose texts have no variable.
use Rattle.std.specs.Prelude.{◌≡◌, ℕ, List, [], Option, Some, None}
use Rattle.recipe_reader.specs.declared.recipe.Recipe.{Recipe}
use Rattle.recipe_reader.specs.declared.recipe.StepDef.{StepDef}
use Rattle.interpolation.specs.Values.{folder_of_work}
use Rattle.interpolation.specs.Variables.{HasNoVariable}
use Rattle.records.specs.Stored.{Item}
use Rattle.records.specs.declared.record.Origin.{Origin}
use Rattle.components.specs.Fitted.{Fitted}
use Rattle.components.specs.declared.kinds.Prepared.{Prepared}

-- a step that runs this, without a probe and without variables of its own
abbrev pub plain_def : List ℕ → Option ℕ → StepDef
plain_def text limit = record { script = text; skip = None; limit_ms = limit; env = [] }

-- the recipe has a run step that runs this, and neither another step but a bootstrap nor a need
pub record RunsOnly (recipe : Recipe) (text : List ℕ) : Type 0 where
  pub plain : HasNoVariable text
  pub run : recipe.run ≡ Some (plain_def text None)
  pub install : recipe.install ≡ None
  pub startup : recipe.startup ≡ None
  pub shutdown : recipe.shutdown ≡ None
  pub recover : recipe.recover ≡ None
  pub dependencies : recipe.dependencies ≡ []

-- it runs in the item's own folder
abbrev pub plain_step : Origin → Item → List ℕ → Option ℕ → Prepared
plain_step o i text limit = record { command = record { script = text; env = []; folder = folder_of_work o.root i.name }; skip = None; limit_ms = limit }

abbrev pub running_item : Origin → Item → List ℕ → Fitted
running_item o i text = record {
  item = i;
  hard = [];
  soft = [];
  install = None;
  run = Some (plain_step o i text None);
  startup = None;
  shutdown =
      None;
  recover = None;
}
