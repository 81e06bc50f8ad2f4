use Rattle.std.proofs.Common.{List, sym, subst, ◌∙◌}
use Rattle.std.specs.List.{AllZip}
use Rattle.tree_core.specs.View.{view}
use Rattle.tree_core.specs.Parts.{IsObject}
use Rattle.tree_core.proofs.Seen.{is_object}
use Rattle.nuc_base.specs.Tables.{AllHold, IsFaultBy}
use Rattle.nuc_base.proofs.Tables.{handed_on}
use Rattle.deployment_doc.specs.Named.{components as members_in}
use Rattle.local_deploy.specs.Lines.{request_lines, value_of, values_in}
use Rattle.local_deploy.specs.Named.{IsMerged, IsRequest}
use Rattle.local_deploy.specs.declared.fault.Key.TheVariants.{Merge, Remove}
use Rattle.local_deploy.specs.declared.fault.LocalFault.TheVariants.{NoMemory}
use Rattle.local_deploy.proofs.Apart.{Merged, all_apart, apart_fault}
use Rattle.local_deploy.proofs.Rows.{aparts, above_policies, above_merges, above_removes, above_updates, above_aparts}
use Rattle.local_deploy.proofs.Rows.{hold_ids, hold_policies, hold_merges, hold_removes, hold_updates, hold_all}
use Rattle.local_deploy.proofs.Rows.{at_ids, at_policies, at_merges, at_removes, at_updates, at_apart}
use Rattle.local_deploy.proofs.request.request_of.Goals as goal

pub returns-in_err-id : goal.returns-in_err-id
returns-in_err-id c =
    let d = view c.args.tree.now in
    let f = c.in_err-id.field-0.0 in
    let object : IsObject d = is_object _ c.in-Fields.field-0 c.in-Fields.is in
    handed_on NoMemory (request_lines d) (IsRequest d) _ f c.from_residual.ensures.1 (at_ids d f object c.in_err-id.ensures)

pub returns-in_err-policy : goal.returns-in_err-policy
returns-in_err-policy c =
    let d = view c.args.tree.now in
    let f = c.in_err-policy.field-0.0 in
    let object : IsObject d = is_object _ c.in-Fields.field-0 c.in-Fields.is in
    let above : AllHold (above_policies d) = hold_ids d object c.in_ok-id.ensures.0 in
    handed_on NoMemory (request_lines d) (IsRequest d) _ f c.from_residual-in_err-policy.ensures.1 (at_policies d f above c.in_err-policy.ensures)

pub returns-in_err-merge : goal.returns-in_err-merge
returns-in_err-merge c =
    let d = view c.args.tree.now in
    let f = c.in_err-merge.field-0.0 in
    let object : IsObject d = is_object _ c.in-Fields.field-0 c.in-Fields.is in
    let above : AllHold (above_merges d) = hold_policies d (hold_ids d object c.in_ok-id.ensures.0) c.in_ok-policy.ensures.0 in
    handed_on NoMemory (request_lines d) (IsRequest d) _ f c.from_residual-in_err-merge.ensures.1 (at_merges d f above c.in_err-merge.ensures)

pub returns-in_err-remove : goal.returns-in_err-remove
returns-in_err-remove c =
    let d = view c.args.tree.now in
    let f = c.in_err-remove.field-0.0 in
    let object : IsObject d = is_object _ c.in-Fields.field-0 c.in-Fields.is in
    let above : AllHold (above_removes d) = hold_merges d (hold_policies d (hold_ids d object c.in_ok-id.ensures.0) c.in_ok-policy.ensures.0)
    c.in_ok-merge.ensures.0 in
    handed_on NoMemory (request_lines d) (IsRequest d) _ f c.from_residual-in_err-remove.ensures.1 (at_removes d f above c.in_err-remove.ensures)

pub returns-in_err-updates : goal.returns-in_err-updates
returns-in_err-updates c =
    let d = view c.args.tree.now in
    let f = c.in_err-updates.field-0.0 in
    let object : IsObject d = is_object _ c.in-Fields.field-0 c.in-Fields.is in
    let above : AllHold (above_updates d) = hold_removes d (hold_merges d (hold_policies d (hold_ids d object c.in_ok-id.ensures.0) c.in_ok-policy.ensures.0)
    c.in_ok-merge.ensures.0) c.in_ok-remove.ensures.0 in
    handed_on NoMemory (request_lines d) (IsRequest d) _ f c.from_residual-in_err-updates.ensures.1 (at_updates d f above c.in_err-updates.ensures)

pub returns-in_err-check_apart : goal.returns-in_err-check_apart
returns-in_err-check_apart c =
    let d = view c.args.tree.now in
    let f = c.in_err-check_apart.field-0.0 in
    let object : IsObject d = is_object _ c.in-Fields.field-0 c.in-Fields.is in
    let above : AllHold (above_aparts d) = hold_updates d (hold_removes d (hold_merges d (hold_policies d (hold_ids d object c.in_ok-id.ensures.0)
    c.in_ok-policy.ensures.0) c.in_ok-merge.ensures.0) c.in_ok-remove.ensures.0) c.in_ok-updates.ensures.0 in
    let removed = c.in_ok-remove.ensures.1 in
    let here : IsFaultBy NoMemory (aparts d) f = apart_fault (values_in (value_of Remove d)) removed.names c.as_slice-2.result.now removed.are
    (c.as_slice-2.ensures ∙ removed.each_once) (members_in (value_of Merge d)) c.as_slice.result.now
    (subst (λ (l : List Merged). AllZip IsMerged (members_in (value_of Merge d)) l) (sym c.as_slice.ensures) c.in_ok-merge.ensures.1) f
    c.in_err-check_apart.ensures in
    handed_on NoMemory (request_lines d) (IsRequest d) _ f c.from_residual-in_err-check_apart.ensures.1 (at_apart d f above here)

pub returns : goal.returns
returns c =
    let d = view c.args.tree.now in
    let object : IsObject d = is_object _ c.in-Fields.field-0 c.in-Fields.is in
    let above : AllHold (above_aparts d) = hold_updates d (hold_removes d (hold_merges d (hold_policies d (hold_ids d object c.in_ok-id.ensures.0)
    c.in_ok-policy.ensures.0) c.in_ok-merge.ensures.0) c.in_ok-remove.ensures.0) c.in_ok-updates.ensures.0 in
    let removed = c.in_ok-remove.ensures.1 in
    let here : AllHold (aparts d) = all_apart (values_in (value_of Remove d)) removed.names c.as_slice-2.result.now removed.are
    (c.as_slice-2.ensures ∙ removed.each_once) (members_in (value_of Merge d)) c.as_slice.result.now
    (subst (λ (l : List Merged). AllZip IsMerged (members_in (value_of Merge d)) l) (sym c.as_slice.ensures) c.in_ok-merge.ensures.1)
    c.in_ok-check_apart.ensures.0 in (
      hold_all d above here,
      record {
        id = c.in_ok-id.ensures.1;
        policy = c.in_ok-policy.ensures.1;
        merge = c.in_ok-merge.ensures.1;
        remove = removed;
        updates = c.in_ok-updates.ensures.1;
      },
    )
