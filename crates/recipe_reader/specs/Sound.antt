-- What every call that takes a recipe may rest on.
use Rattle.std.specs.Prelude.{ℕ, ◌≤◌, List, map, length, IsSome}
use Rattle.std.specs.List.{IsDistinct}
use Rattle.std.specs.List.Sorted.{IsStrictlySortedBy}
use Rattle.std.specs.Option.{IfSome}
use Rattle.std.specs.Str.{bytes_eq}
use Rattle.std.specs.Ordering.{nat_cmp}
use Rattle.std.specs.Cmp.Lexicographic.{slice_cmp}
use Rattle.nuc_base.specs.Names.{IsName}
use Rattle.nuc_base.specs.declared.artifact.Artifact.{Artifact}
use Rattle.nuc_base.specs.declared.kinds.Step.{Step}
use Rattle.nuc_base.specs.declared.platform.Platform.{Platform}
use Rattle.npm_ranges.specs.Versions.{IsVersion}
use Rattle.tree_core.specs.Parts.{IsObject}
use Rattle.tree_core.specs.Regular.{IsRegular}
use Rattle.tree_core.specs.View.{view}
use Rattle.recipe_reader.specs.OneRecipe.{IsRecipeFor}
use Rattle.recipe_reader.specs.Steps.{step_of}
use Rattle.recipe_reader.specs.declared.recipe.Dependency.{Dependency}
use Rattle.recipe_reader.specs.declared.recipe.Recipe.{Recipe}
use Rattle.recipe_reader.specs.declared.recipe.StepDef.{StepDef}

abbrev pub dependency_name : Dependency → List ℕ
dependency_name dependency = dependency.name

abbrev pub artifact_file : Artifact → List ℕ
artifact_file artifact = artifact.file

-- the longest time that a step may take, in milliseconds
abbrev pub longest : ℕ
longest = 1000000000

-- where it has a limit, that is at most so long
abbrev pub IsShort : StepDef → Type 0
IsShort def = IfSome def.limit_ms (λ limit. limit ≤ longest)

-- it names a component and its version; the default configuration is a regular object; at most 64 dependencies, whose
-- names rise strictly in byte order, and at most 64 artifacts of different files; a step Run or a step Startup, not both;
-- limits of at most 1,000,000 seconds
pub record IsSound (recipe : Recipe) : Type 0 where
  pub name : IsName recipe.name
  pub version : IsVersion recipe.version
  pub object : IsObject (view recipe.default_config)
  pub regular : IsRegular (view recipe.default_config)
  pub few : length recipe.dependencies ≤ 64
  pub rising : IsStrictlySortedBy (slice_cmp nat_cmp) (map dependency_name recipe.dependencies)
  pub few_artifacts : length recipe.artifacts ≤ 64
  pub files : IsDistinct bytes_eq (map artifact_file recipe.artifacts)
  pub not_both : IsSome recipe.run → IsSome recipe.startup → ⊥
  pub limits : (step : Step) → IfSome (step_of recipe step) IsShort

-- what bytes say for a platform is sound
abbrev pub ReadsSound : Type 0
ReadsSound = (bytes : List ℕ) (platform : Platform) (r : Recipe) → IsRecipeFor bytes platform r → IsSound r
