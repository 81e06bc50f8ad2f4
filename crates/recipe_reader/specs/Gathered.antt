-- The parts of a recipe as they are read.
use Rattle.std.specs.Prelude.{◌≡◌, Option, Some}
use Rattle.serde_json.specs.Data.{Data, string}
use Rattle.serde_json.specs.Find.{get}
use Rattle.recipe_reader.specs.Spelled.{spelled}
use Rattle.recipe_reader.specs.Lifecycles.{AreSteps, back_of}
use Rattle.recipe_reader.specs.Made.{made_step}
use Rattle.recipe_reader.specs.Artifacts.{AreArtifacts}
use Rattle.recipe_reader.specs.Recipes.{inner}
use Rattle.recipe_reader.specs.declared.head.Head.{Head}
use Rattle.recipe_reader.specs.declared.manifest.Chosen.{Chosen}
use Rattle.recipe_reader.specs.declared.fault.Key.TheVariants as key

pub record IsHead (d : Data) (head : Head) : Type 0 where
  pub name : get (spelled key.ComponentName) d ≡ Some (string head.name)
  pub version : get (spelled key.ComponentVersion) d ≡ Some (string head.version)

pub record IsChosen (manifest : Option Data) (chosen : Chosen) : Type 0 where
  pub steps : AreSteps (inner key.Lifecycle manifest) (made_step chosen.steps)
  pub boot_back : chosen.boot_back ≡ back_of (inner key.Lifecycle manifest)
  pub artifacts : AreArtifacts (inner key.Artifacts manifest) chosen.artifacts
