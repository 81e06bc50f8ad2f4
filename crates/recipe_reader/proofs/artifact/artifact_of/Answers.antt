use Rattle.tree_core.specs.View.{view}
use Rattle.tree_core.specs.Parts.{check, IsObject}
use Rattle.nuc_base.specs.Tables.{on}
use Rattle.nuc_base.proofs.Tables.{handed_on}
use Rattle.recipe_reader.specs.Spelled.{spelled}
use Rattle.recipe_reader.specs.Keys.{keyed}
use Rattle.recipe_reader.specs.Steps.{required_key}
use Rattle.recipe_reader.specs.Artifacts.{artifact_doubles, uri_lines, unarchive_lines, algorithm_lines, digest_lines, artifact_lines, IsArtifact}
use Rattle.recipe_reader.specs.declared.fault.RecipeFault.TheVariants.{NoMemory, WrongKind}
use Rattle.recipe_reader.specs.declared.fault.Key.TheVariants.{Artifacts, Uri, Unarchive, Algorithm, Digest}
use Rattle.recipe_reader.proofs.Chains.{fault_4_of_6, fault_5_of_6}
use Rattle.recipe_reader.proofs.artifact.artifact_of.Goals as goal

pub returns-in_err-check_unarchive : goal.returns-in_err-check_unarchive
returns-in_err-check_unarchive c =
    let v = view c.args.artifact.now in
    let f = c.in_err-check_unarchive.field-0.0 in
    let object : IsObject v = c.is_object.ensures.0 c.if-not-is_object.false in
    handed_on NoMemory (artifact_lines v) (IsArtifact v) _ f c.from_residual-in_err-check_unarchive.ensures.1
    (fault_4_of_6 NoMemory (check (IsObject v) (WrongKind Artifacts)) (artifact_doubles v) (required_key Uri v uri_lines) (on (keyed (spelled Unarchive) v)
    unarchive_lines) (on (keyed (spelled Algorithm) v) algorithm_lines) (on (keyed (spelled Digest) v) digest_lines) f
    (object, tt) c.in_ok-no_doubles.ensures.0 c.in_ok-file.ensures.0 c.in_err-check_unarchive.ensures)

pub returns-in_err-check_algorithm : goal.returns-in_err-check_algorithm
returns-in_err-check_algorithm c =
    let v = view c.args.artifact.now in
    let f = c.in_err-check_algorithm.field-0.0 in
    let object : IsObject v = c.is_object.ensures.0 c.if-not-is_object.false in
    handed_on NoMemory (artifact_lines v) (IsArtifact v) _ f c.from_residual-in_err-check_algorithm.ensures.1
    (fault_5_of_6 NoMemory (check (IsObject v) (WrongKind Artifacts)) (artifact_doubles v) (required_key Uri v uri_lines) (on (keyed (spelled Unarchive) v)
    unarchive_lines) (on (keyed (spelled Algorithm) v) algorithm_lines) (on (keyed (spelled Digest) v) digest_lines) f
    (object, tt) c.in_ok-no_doubles.ensures.0 c.in_ok-file.ensures.0 c.in_ok-check_unarchive.ensures.0 c.in_err-check_algorithm.ensures)
