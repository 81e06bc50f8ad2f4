use Rattle.std.proofs.Common.{sym, subst, refl}
use Rattle.tree_core.specs.View.{view}
use Rattle.tree_core.specs.Parts.{optional}
use Rattle.nuc_base.proofs.Tables.{handed_on}
use Rattle.recipe_reader.specs.Spelled.{spelled}
use Rattle.recipe_reader.specs.Dependencies.{dependencies_lines}
use Rattle.recipe_reader.specs.Recipes.{head_lines, config_lines, part_lines, recipe_lines, inner, manifest_of, IsRecipe}
use Rattle.recipe_reader.specs.declared.recipe.Recipe.{Recipe}
use Rattle.recipe_reader.specs.declared.fault.RecipeFault.TheVariants.{NoMemory}
use Rattle.recipe_reader.specs.declared.fault.Key.TheVariants.{ComponentConfiguration, ComponentDependencies, Lifecycle}
use Rattle.recipe_reader.proofs.Chains.{all_4, fault_1_of_4, fault_2_of_4, fault_3_of_4, fault_4_of_4}
use Rattle.recipe_reader.proofs.Making.{steps_of_recipe}
use Rattle.recipe_reader.proofs.read.recipe_of.Goals as goal

pub returns-in_err-head : goal.returns-in_err-head
returns-in_err-head c =
    let v = view c.args.tree.now in
    let p = c.args.platform.now in
    let f = c.in_err-head.field-0.0 in
    handed_on NoMemory (recipe_lines p v) (IsRecipe p v) _ f c.from_residual.ensures.1
    (fault_1_of_4 NoMemory (head_lines v) (optional (spelled ComponentConfiguration) v config_lines) (optional (spelled ComponentDependencies) v
    dependencies_lines) (part_lines p v) f c.in_err-head.ensures)

pub returns-in_err-default_config : goal.returns-in_err-default_config
returns-in_err-default_config c =
    let v = view c.args.tree.now in
    let p = c.args.platform.now in
    let f = c.in_err-default_config.field-0.0 in
    handed_on NoMemory (recipe_lines p v) (IsRecipe p v) _ f c.from_residual-in_err-default_config.ensures.1
    (fault_2_of_4 NoMemory (head_lines v) (optional (spelled ComponentConfiguration) v config_lines) (optional (spelled ComponentDependencies) v
    dependencies_lines) (part_lines p v) f c.in_ok-head.ensures.0 c.in_err-default_config.ensures)

pub returns-in_err-dependencies : goal.returns-in_err-dependencies
returns-in_err-dependencies c =
    let v = view c.args.tree.now in
    let p = c.args.platform.now in
    let f = c.in_err-dependencies.field-0.0 in
    handed_on NoMemory (recipe_lines p v) (IsRecipe p v) _ f c.from_residual-in_err-dependencies.ensures.1
    (fault_3_of_4 NoMemory (head_lines v) (optional (spelled ComponentConfiguration) v config_lines) (optional (spelled ComponentDependencies) v
    dependencies_lines) (part_lines p v) f c.in_ok-head.ensures.0 c.in_ok-default_config.ensures.0 c.in_err-dependencies.ensures)

pub returns-in_err-chosen : goal.returns-in_err-chosen
returns-in_err-chosen c =
    let v = view c.args.tree.now in
    let p = c.args.platform.now in
    let f = c.in_err-chosen.field-0.0 in
    handed_on NoMemory (recipe_lines p v) (IsRecipe p v) _ f c.from_residual-in_err-chosen.ensures.1
    (fault_4_of_4 NoMemory (head_lines v) (optional (spelled ComponentConfiguration) v config_lines) (optional (spelled ComponentDependencies) v
    dependencies_lines) (part_lines p v) f c.in_ok-head.ensures.0 c.in_ok-default_config.ensures.0 c.in_ok-dependencies.ensures.0 c.in_err-chosen.ensures)

pub returns : goal.returns
returns c =
    let v = view c.args.tree.now in
    let p = c.args.platform.now in
    let h = c.in_ok-head.ensures.1 in
    let config = c.in_ok-default_config.ensures.1 in
    let chosen = c.in_ok-chosen.ensures.1 in
    let is = c.recipe_from.ensures in
    let made : Recipe = record {
      name = c.in_ok-head.head.name;
      version = c.in_ok-head.head.version;
      default_config = c.in_ok-default_config.default_config;
      dependencies = c.in_ok-dependencies.dependencies;
      install = c.in_ok-chosen.chosen.steps.first.install;
      run = c.in_ok-chosen.chosen.steps.first.run;
      startup = c.in_ok-chosen.chosen.steps.first.startup;
      shutdown = c.in_ok-chosen.chosen.steps.last.shutdown;
      recover = c.in_ok-chosen.chosen.steps.last.recover;
      bootstrap = c.in_ok-chosen.chosen.steps.last.bootstrap;
      boot_back = c.in_ok-chosen.chosen.boot_back;
      artifacts = c.in_ok-chosen.chosen.artifacts;
    } in (
      all_4 (head_lines v) (optional (spelled ComponentConfiguration) v config_lines) (optional (spelled ComponentDependencies) v dependencies_lines)
          (part_lines p v) c.in_ok-head.ensures.0 c.in_ok-default_config.ensures.0 c.in_ok-dependencies.ensures.0 c.in_ok-chosen.ensures.0,
      subst (IsRecipe p v) (sym is) (record {
        name = h.name;
        version = h.version;
        default_config = config.0;
        regular = config.1;
        dependencies = c.in_ok-dependencies.ensures.1;
        steps = steps_of_recipe (inner Lifecycle (manifest_of p v)) made c.in_ok-chosen.chosen.steps refl refl refl refl refl refl chosen.steps;
        boot_back = chosen.boot_back;
        artifacts = chosen.artifacts;
      }),
    )
