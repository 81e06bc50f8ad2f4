use Rattle.std.proofs.Common.{sym, subst, ap, ◌∙◌, arith, inl, inr, refl, List, ℕ, ◌≡◌, ◌≤◌, length, ◌++◌}
use Rattle.std.proofs.lemmas.List.{length-map}
use Rattle.std.specs.List.{AllZip}
use Rattle.serde_json.specs.Data.{Data}
use Rattle.tree_core.specs.View.{view, field_view}
use Rattle.nuc_base.proofs.Tables.{answers_after}
use Rattle.nuc_base.specs.Tables.{AnswerBy, each}
use Rattle.tree_core.specs.Parts.{members, IsObject, check}
use Rattle.local_deploy.specs.Lines.{merged_lines}
use Rattle.local_deploy.specs.Named.{IsMerged}
use Rattle.local_deploy.specs.declared.fault.LocalFault.TheVariants.{NoMemory, WrongKind, TooMany}
use Rattle.local_deploy.specs.declared.fault.Key.TheVariants.{Merge}
use Rattle.tree_core.proofs.Seen.{is_object, members_are}
use Rattle.local_deploy.proofs.merge.merge_in.Goals as goal

pub returns-then-len-gt-MOST_NAMES : goal.returns-then-len-gt-MOST_NAMES
returns-then-len-gt-MOST_NAMES c =
    let all = members_are _ c.in-Fields.fields c.in-Fields.is in
    let long : length (members (view c.args.merge.now)) ≡ length c.in-Fields.fields.items = ap length all
    ∙ length-map c.in-Fields.fields.items field_view in
    inr (inr (is_object _ c.in-Fields.fields c.in-Fields.is, inl (λ short. omega arith, refl)))

pub returns : goal.returns
returns c =
    let all = members_are _ c.in-Fields.fields c.in-Fields.is in
    let long : length (members (view c.args.merge.now)) ≡ length c.in-Fields.fields.items = ap length all
    ∙ length-map c.in-Fields.fields.items field_view in
    let short : length (members (view c.args.merge.now)) ≤ 128 = omega arith in
    let whole : AnswerBy NoMemory (each merged_lines (members (view c.args.merge.now))) (AllZip IsMerged (members (view c.args.merge.now)))
    c.merge_among.result =
    subst (λ (ms : List (List ℕ × Data)). AnswerBy NoMemory (each merged_lines ms) (AllZip IsMerged ms) c.merge_among.result) (sym all) c.merge_among.ensures in
    answers_after NoMemory (check (IsObject (view c.args.merge.now)) (WrongKind Merge)
    ++ check (length (members (view c.args.merge.now)) ≤ 128) (TooMany Merge))
    (each merged_lines (members (view c.args.merge.now)))
    (AllZip IsMerged (members (view c.args.merge.now)))
    c.merge_among.result
    (is_object _ c.in-Fields.fields c.in-Fields.is, (short, tt)) whole
