use Rattle.std.proofs.Common.{codes, ◌≡◌, true}
use Rattle.tree_core.specs.View.{view}
use Rattle.nuc_base.proofs.Tables.{handed_on}
use Rattle.tree_core.specs.Parts.{IsObject}
use Rattle.deployment_doc.specs.Lines.{HasBoth, update_lines}
use Rattle.deployment_doc.specs.Named.{IsUpdateOf}
use Rattle.deployment_doc.specs.declared.fault.DocFault.TheVariants.{NoMemory}
use Rattle.tree_core.proofs.Seen.{is_object}
use Rattle.deployment_doc.proofs.Rows.{at_resets, at_merge, all_update}
use Rattle.deployment_doc.proofs.update.read_update.Goals as goal

pub returns-in_err-resets : goal.returns-in_err-resets
returns-in_err-resets c =
    let v = view c.args.tree.now in
    let n = c.args.name.now in
    let f = c.in_err-resets.field-0.0 in
    let object : IsObject v = is_object _ c.in-Fields.field-0 c.in-Fields.is in
    let one : ¬ HasBoth (codes "reset") (codes "RESET") v = λ h. let fired : c.has_both.result ≡ true = c.has_both.ensures.1 h in cc in
    let two : ¬ HasBoth (codes "merge") (codes "MERGE") v = λ h. let fired : c.has_both-2.result ≡ true = c.has_both-2.ensures.1 h in cc in
    handed_on NoMemory (update_lines n v) (IsUpdateOf v) _ f c.from_residual.ensures.1 (at_resets n v f (object, (one, (two, tt))) c.in_err-resets.ensures)

pub returns-in_err-merge : goal.returns-in_err-merge
returns-in_err-merge c =
    let v = view c.args.tree.now in
    let n = c.args.name.now in
    let f = c.in_err-merge.field-0.0 in
    let object : IsObject v = is_object _ c.in-Fields.field-0 c.in-Fields.is in
    let one : ¬ HasBoth (codes "reset") (codes "RESET") v = λ h. let fired : c.has_both.result ≡ true = c.has_both.ensures.1 h in cc in
    let two : ¬ HasBoth (codes "merge") (codes "MERGE") v = λ h. let fired : c.has_both-2.result ≡ true = c.has_both-2.ensures.1 h in cc in
    handed_on NoMemory (update_lines n v) (IsUpdateOf v) _ f c.from_residual-in_err-merge.ensures.1 (at_merge n v f (
      object,
      (one, (two, tt)),
    ) c.in_ok-resets.ensures.0 c.in_err-merge.ensures)

pub returns : goal.returns
returns c =
    let v = view c.args.tree.now in
    let n = c.args.name.now in
    let object : IsObject v = is_object _ c.in-Fields.field-0 c.in-Fields.is in
    let one : ¬ HasBoth (codes "reset") (codes "RESET") v = λ h. let fired : c.has_both.result ≡ true = c.has_both.ensures.1 h in cc in
    let two : ¬ HasBoth (codes "merge") (codes "MERGE") v = λ h. let fired : c.has_both-2.result ≡ true = c.has_both-2.ensures.1 h in cc in (
      all_update n v NoMemory (object, (one, (two, tt))) c.in_ok-resets.ensures.0 c.in_ok-merge.ensures.0,
      record { resets = c.in_ok-resets.ensures.1; merge = c.in_ok-merge.ensures.1 },
    )
