use Rattle.std.proofs.Common.{sym, subst, ap, ◌∙◌, inl, ◌≡◌, List, ℕ}
use Rattle.serde_json.specs.Data.{string}
use Rattle.tree_core.specs.View.{view}
use Rattle.tree_core.specs.Parts.{IsObject}
use Rattle.tree_core.specs.Regular.{IsRegular}
use Rattle.tree_core.proofs.Seen.{is_object, seen_text}
use Rattle.deployment_doc.specs.Lines.{IsMergeObject}
use Rattle.deployment_doc.proofs.Merging.{merge_text}
use Rattle.deployment_doc.proofs.update.merge_in.Goals as goal

pub returns-in_ok-copy-in-Fields : goal.returns-in_ok-copy-in-Fields
returns-in_ok-copy-in-Fields c =
    let v = view c.args.value.now in
    let copy = view c.in_ok-copy-in-Fields.field-0 in
    let same : copy ≡ v = c.in_ok-copy-in-Fields.ensures in
    let object : IsObject v = is_object _ c.in-Fields.field-0 c.in-Fields.is in
    let merges : IsMergeObject v copy = (subst IsObject (sym same) object, inl (sym same)) in
    (((copy, merges), tt), (merges, subst IsRegular (sym same) c.requires))

pub returns-in-Text : goal.returns-in-Text
returns-in-Text c =
    let s : List ℕ = c.in-Text.text in
    let text : view c.args.value.now ≡ string s = ap view c.in-Text.is ∙ seen_text s in
    merge_text c.args.name.now (view c.args.value.now) s c.as_bytes.result.now c.merge_read.result text (c.as_bytes.ensures.value
    ∙ c.as_str.ensures) c.merge_read.ensures
