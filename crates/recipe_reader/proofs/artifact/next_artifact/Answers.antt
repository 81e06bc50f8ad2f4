use Rattle.std.proofs.Common.{◌≡◌, ◌++◌, false, map}
use Rattle.tree_core.specs.View.{view}
use Rattle.tree_core.specs.Parts.{check}
use Rattle.nuc_base.proofs.Tables.{fault_before, handed_on}
use Rattle.recipe_reader.specs.Artifacts.{IsArtifact, artifact_lines, has_name, file_at}
use Rattle.recipe_reader.specs.declared.fault.RecipeFault.TheVariants.{NoMemory, DuplicateArtifact}
use Rattle.recipe_reader.proofs.artifact.next_artifact.Goals as goal

pub returns-in_err-artifact : goal.returns-in_err-artifact
returns-in_err-artifact c =
    let v = view c.args.value.now in
    let own = check (has_name (map (λ a. a.file) c.args.earlier.now) (file_at v) ≡ false) DuplicateArtifact in
    let f = c.in_err-artifact.field-0.0 in
    handed_on NoMemory (artifact_lines v ++ own) (IsArtifact v) _ f c.from_residual.ensures.1 (fault_before NoMemory (artifact_lines v) own f
    c.in_err-artifact.ensures)
