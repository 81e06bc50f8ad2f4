use Rattle.tree_core.specs.View.{view}
use Rattle.tree_core.specs.Parts.{IsObject}
use Rattle.tree_core.proofs.Seen.{is_object}
use Rattle.nuc_base.specs.Tables.{AllHold}
use Rattle.nuc_base.proofs.Tables.{handed_on}
use Rattle.deployment_doc.specs.Lines.{document_lines}
use Rattle.deployment_doc.specs.Named.{IsDocument}
use Rattle.deployment_doc.specs.declared.fault.DocFault.TheVariants.{NoMemory}
use Rattle.deployment_doc.proofs.Rows.{above_revision, above_roots, all_above_revision, all_above, at_id, at_group, at_revision, at_policy, at_roots}
use Rattle.deployment_doc.proofs.Rows.{all_document}
use Rattle.deployment_doc.proofs.read.document_of.Goals as goal

pub returns-in_err-id : goal.returns-in_err-id
returns-in_err-id c =
    let d = view c.args.tree.now in
    let f = c.in_err-id.field-0.0 in
    let object : IsObject d = is_object _ c.in-Fields.field-0 c.in-Fields.is in
    handed_on NoMemory (document_lines d) (IsDocument c.args.bytes.now d) _ f c.from_residual.ensures.1 (at_id d f object c.in_err-id.ensures)

pub returns-in_err-group : goal.returns-in_err-group
returns-in_err-group c =
    let d = view c.args.tree.now in
    let f = c.in_err-group.field-0.0 in
    let object : IsObject d = is_object _ c.in-Fields.field-0 c.in-Fields.is in
    handed_on NoMemory (document_lines d) (IsDocument c.args.bytes.now d) _ f c.from_residual-in_err-group.ensures.1
    (at_group d f object c.in_ok-id.ensures.0 c.in_err-group.ensures)

pub returns-in_err-revision : goal.returns-in_err-revision
returns-in_err-revision c =
    let d = view c.args.tree.now in
    let f = c.in_err-revision.field-0.0 in
    let object : IsObject d = is_object _ c.in-Fields.field-0 c.in-Fields.is in
    let above : AllHold (above_revision d) = all_above_revision d object c.in_ok-id.ensures.0 c.in_ok-group.ensures.0 in
    handed_on NoMemory (document_lines d) (IsDocument c.args.bytes.now d) _ f c.from_residual-in_err-revision.ensures.1
    (at_revision d f above c.in_err-revision.ensures)

pub returns-in_err-policy : goal.returns-in_err-policy
returns-in_err-policy c =
    let d = view c.args.tree.now in
    let f = c.in_err-policy.field-0.0 in
    let object : IsObject d = is_object _ c.in-Fields.field-0 c.in-Fields.is in
    let above : AllHold (above_revision d) = all_above_revision d object c.in_ok-id.ensures.0 c.in_ok-group.ensures.0 in
    handed_on NoMemory (document_lines d) (IsDocument c.args.bytes.now d) _ f c.from_residual-in_err-policy.ensures.1
    (at_policy d f above c.in_ok-revision.ensures.0 c.in_err-policy.ensures)

pub returns-in_err-roots : goal.returns-in_err-roots
returns-in_err-roots c =
    let d = view c.args.tree.now in
    let f = c.in_err-roots.field-0.0 in
    let object : IsObject d = is_object _ c.in-Fields.field-0 c.in-Fields.is in
    let above : AllHold (above_revision d) = all_above_revision d object c.in_ok-id.ensures.0 c.in_ok-group.ensures.0 in
    let whole : AllHold (above_roots d) = all_above d above c.in_ok-revision.ensures.0 c.in_ok-policy.ensures.0 in
    handed_on NoMemory (document_lines d) (IsDocument c.args.bytes.now d) _ f c.from_residual-in_err-roots.ensures.1
    (at_roots d f whole c.in_err-roots.ensures)

pub returns : goal.returns
returns c =
    let d = view c.args.tree.now in
    let object : IsObject d = is_object _ c.in-Fields.field-0 c.in-Fields.is in
    let above : AllHold (above_revision d) = all_above_revision d object c.in_ok-id.ensures.0 c.in_ok-group.ensures.0 in
    let whole : AllHold (above_roots d) = all_above d above c.in_ok-revision.ensures.0 c.in_ok-policy.ensures.0 in (
      all_document d whole c.in_ok-roots.ensures.0,
      record {
        id = c.in_ok-id.ensures.1;
        group = c.in_ok-group.ensures.1;
        revision = c.in_ok-revision.ensures.1;
        policy = c.in_ok-policy.ensures.1;
        roots = c.in_ok-roots.ensures.1;
      },
    )
