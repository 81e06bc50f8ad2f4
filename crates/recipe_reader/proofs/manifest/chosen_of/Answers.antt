use Rattle.std.proofs.Common.{◌≡◌, Option, Some, None, subst}
use Rattle.serde_json.specs.Data.{Data}
use Rattle.nuc_base.specs.Tables.{AnswerBy, AllHold, on}
use Rattle.nuc_base.proofs.Tables.{answers_after, fault_before, all_both, handed_on}
use Rattle.tree_core.specs.View.{view}
use Rattle.tree_core.specs.Parts.{optional}
use Rattle.recipe_reader.specs.Spelled.{spelled}
use Rattle.recipe_reader.specs.Platforms.{manifests_lines}
use Rattle.recipe_reader.specs.Recipes.{chosen_lines, manifest_of}
use Rattle.recipe_reader.specs.Gathered.{IsChosen}
use Rattle.recipe_reader.specs.declared.fault.RecipeFault.TheVariants.{NoMemory}
use Rattle.recipe_reader.specs.declared.fault.Key.TheVariants.{Manifests}
use Rattle.recipe_reader.proofs.manifest.chosen_of.Goals as goal

pub returns-in-Some : goal.returns-in-Some
returns-in-Some c =
    let v = view c.args.recipe.now in
    let p = c.args.platform.now in
    let h = rw c.in-Some.is at c.in_ok-manifest.ensures in
    let is : Some (view c.in-Some.manifest.now) ≡ manifest_of p v = h.1.0 in
    answers_after NoMemory (optional (spelled Manifests) v (manifests_lines p)) (on (manifest_of p v) chosen_lines) (IsChosen (manifest_of p v))
    c.chosen_in.result h.0
    (subst (λ (m : Option Data). AnswerBy NoMemory (on m chosen_lines) (IsChosen m) c.chosen_in.result) is c.chosen_in.ensures)

pub returns-in-None : goal.returns-in-None
returns-in-None c =
    let v = view c.args.recipe.now in
    let p = c.args.platform.now in
    let h = rw c.in-None.is at c.in_ok-manifest.ensures in
    let is : None ≡ manifest_of p v = h.1.0 in (
      all_both (optional (spelled Manifests) v (manifests_lines p)) (on (manifest_of p v) chosen_lines) h.0 (subst (λ (m : Option Data). AllHold
          (on m chosen_lines)) is tt),
      subst (λ (m : Option Data). IsChosen m c.nothing_chosen.result) is c.nothing_chosen.ensures,
    )

pub returns-in_err-manifest : goal.returns-in_err-manifest
returns-in_err-manifest c =
    let v = view c.args.recipe.now in
    let p = c.args.platform.now in
    handed_on NoMemory _ _ _ c.in_err-manifest.field-0.0 c.from_residual.ensures.1 (fault_before NoMemory (optional (spelled Manifests) v
    (manifests_lines p)) (on (manifest_of p v) chosen_lines) c.in_err-manifest.field-0.0 c.in_err-manifest.ensures)
